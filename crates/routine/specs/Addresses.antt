-- The addresses that have been noted.
use Rattle.std.specs.Prelude.{ℕ, List, length, Ok, Err, vec_items, Result, nat_le, if◌then◌else◌}
use Rattle.grammar.specs.declared.faults.RoutineFault.{RoutineFault}
use Rattle.grammar.specs.declared.faults.RoutineFault.TheVariants as fault
use Rattle.routine.specs.Joins.{Joined}
use Rattle.routine.specs.declared.addresses.Addresses.{Addresses}

abbrev pub noted_list : Addresses → List ℕ
noted_list a = vec_items a.list

-- the addresses, if they are few enough for a routine
abbrev pub few_addresses : List ℕ → Result (List ℕ) RoutineFault
few_addresses bs = (if nat_le (length bs) 32 then Ok bs else Err fault.Addresses)

-- these are the addresses noted now, if they are few enough
abbrev pub Notes : Result (Unit {0}) RoutineFault → List ℕ → Addresses → Type 0
Notes result all now = Joined result (few_addresses all) (noted_list now)
