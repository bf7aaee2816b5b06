-- What a draft holds.
use Rattle.std.specs.Prelude.{◌≡◌, true, Ok, Err, Result}
use Rattle.grammar.specs.Listings.{Listing, addresses_of}
use Rattle.grammar.specs.Reads as reads
use Rattle.grammar.specs.declared.faults.RoutineFault.{RoutineFault}
use Rattle.routine.specs.Addresses.{noted_list}
use Rattle.routine.specs.Parties.{code_of}
use Rattle.routine.specs.Storages.{inits_of, parties_of, listing_of}
use Rattle.routine.specs.declared.draft.Draft.{Draft}

abbrev pub drafted : Draft → reads.Draft
drafted d = record { inits = inits_of d.storage; parties = parties_of d.storage; current = code_of d.current; stage = d.stage }

-- the draft holds the routine that was read, with its addresses noted
pub record Holds (l : Listing) (d : Draft) : Type 0 where
  pub listing : listing_of d.storage ≡ l
  pub addresses : noted_list d.storage.addresses ≡ addresses_of l
  pub closed : reads.outside d.stage ≡ true

-- what the definition of reading says came back, and is held where it is a routine
abbrev pub ReadInto : Result Listing RoutineFault → Result (Unit {0}) RoutineFault → Draft → Type 0
ReadInto (Ok l) r d = (r ≡ Ok tt) × Holds l d
ReadInto (Err e) r d = r ≡ Err e
