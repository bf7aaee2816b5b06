-- What storage holds, and an INIT line that joins it.
use Rattle.std.specs.Prelude.{◌≡◌, ℕ, true, List, [], ◌∷◌, ◌++◌, map, length, Ok, Err, vec_items, Result, nat_lt, if◌then◌else◌}
use Rattle.instructions.specs.declared.types.Init.{Init}
use Rattle.instructions.specs.declared.types.Instruction.{Instruction}
use Rattle.grammar.specs.Listings.{Listing, lawful, addresses_of}
use Rattle.grammar.specs.Reads.{above}
use Rattle.grammar.specs.declared.faults.RoutineFault.{RoutineFault}
use Rattle.grammar.specs.declared.faults.RoutineFault.TheVariants.{Order, Room}
use Rattle.routine.specs.Addresses.{noted_list}
use Rattle.routine.specs.Parties.{code_of}
use Rattle.routine.specs.declared.storage.Storage.{Storage}

abbrev pub inits_of : Storage → List Init
inits_of s = vec_items s.inits

-- the instructions of each party that is in use
abbrev pub parties_of : Storage → List (List Instruction)
parties_of s = map code_of (vec_items s.parties)

abbrev pub listing_of : Storage → Listing
listing_of s = record { inits = inits_of s; parties = parties_of s }

-- the storage holds a lawful routine, with its addresses noted
pub record IsComplete (s : Storage) : Type 0 where
  pub within_limits : lawful (listing_of s) ≡ true
  pub knows_addresses : noted_list s.addresses ≡ addresses_of (listing_of s)

abbrev pub init_joins : Init → ℕ → List Init → Result (List Init) RoutineFault
init_joins i n is =
    (if above i.address is
    then (if nat_lt (length is) 16 then Ok (is ++ (i ∷ [])) else Err (Room n))
    else Err (Order n))
