-- An answer, and what is held now, against what a definition says.
use Rattle.std.specs.Prelude.{◌≡◌, Ok, Err, Result}
use Rattle.grammar.specs.declared.faults.RoutineFault.{RoutineFault}

-- the answer is that of the definition, and where it is Ok, so is what is held now
abbrev pub Joined : {A : Type 0} → Result (Unit {0}) RoutineFault → Result A RoutineFault → A → Type 0
Joined (Ok u) s now = s ≡ Ok now
Joined (Err e) s now = s ≡ Err e
