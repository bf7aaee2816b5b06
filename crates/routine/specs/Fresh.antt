-- What a fresh routine says, and what reading leaves in it.
use Rattle.std.specs.Prelude.{◌≡◌, ℕ, true, List, Ok, Result}
use Rattle.grammar.specs.Grammar.{Spells}
use Rattle.grammar.specs.Listings.{Listing, lawful}
use Rattle.grammar.specs.Texts.{text_of}
use Rattle.grammar.specs.declared.faults.RoutineFault.{RoutineFault}
use Rattle.routine.specs.Routines.{listing}
use Rattle.routine.specs.declared.fresh.Fresh.{Fresh}

abbrev pub fresh_listing : Fresh → Listing
fresh_listing f = listing f.routine

-- a text is accepted exactly where it spells a lawful routine, and that routine is given;
-- it is then what is written of the routine
pub record ByGrammar (text : List ℕ) (r : Result (Unit {0}) RoutineFault) (g : Fresh) : Type 0 where
  pub only : r ≡ Ok tt → Spells text (fresh_listing g) × ((lawful (fresh_listing g) ≡ true) × (text ≡ text_of (fresh_listing g)))
  pub each : (l : Listing) → Spells text l → lawful l ≡ true → (r ≡ Ok tt) × (fresh_listing g ≡ l)
