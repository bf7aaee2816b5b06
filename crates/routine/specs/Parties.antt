-- A party by its instructions.
use Rattle.std.specs.Prelude.{List, vec_items}
use Rattle.instructions.specs.declared.types.Instruction.{Instruction}
use Rattle.routine.specs.declared.party.Party.{Party}

abbrev pub code_of : Party → List Instruction
code_of p = vec_items p.code
