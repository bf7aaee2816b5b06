-- What a routine says, and the one that is built in.
use Rattle.std.specs.Prelude.{[], ◌∷◌}
use Rattle.instructions.specs.declared.types.Instruction.TheVariants.{Nop}
use Rattle.grammar.specs.Listings.{Listing}
use Rattle.routine.specs.Storages.{listing_of}
use Rattle.routine.specs.declared.routine.Routine.{Routine}

abbrev pub listing : Routine → Listing
listing r = listing_of r.storage

-- one party with one NOP
abbrev pub one_nop : Listing
one_nop = record { inits = []; parties = (Nop ∷ []) ∷ [] }
