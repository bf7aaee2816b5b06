-- What is told of a case after its name: READ, or the fault's number, layer and line.
use Rattle.std.specs.Prelude.{ℕ, List, ◌∷◌, Ok, Err, codes, Result}
use Rattle.fields.specs.Faults.{code_text}
use Rattle.grammar.specs.Faults.{routine_code}
use Rattle.grammar.specs.declared.faults.RoutineFault.{RoutineFault}

abbrev pub answer_text : Result (Unit {0}) RoutineFault → List ℕ
answer_text (Ok u) = codes " READ"
answer_text (Err e) = 32 ∷ code_text (routine_code e)
