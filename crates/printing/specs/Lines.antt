-- The text of each part of a routine.
use Rattle.std.specs.Prelude.{ℕ, List, [], ◌∷◌, ◌++◌, map}
use Rattle.fields.specs.Pieces.{joined_by}
use Rattle.grammar.specs.Texts.{ended, code_lines, text_of}
use Rattle.instructions.specs.Keywords.{spelled}
use Rattle.instructions.specs.Texts.{operand_text}
use Rattle.instructions.specs.declared.keyword.Keyword.{Keyword}
use Rattle.instructions.specs.declared.types.Init.{Init}
use Rattle.instructions.specs.declared.types.Instruction.{Instruction}
use Rattle.instructions.specs.declared.types.Line.TheVariants as line
use Rattle.instructions.specs.declared.types.Operand.{Operand}
use Rattle.routine.specs.Parties.{code_of}
use Rattle.routine.specs.Routines.{listing}
use Rattle.routine.specs.declared.party.Party.{Party}
use Rattle.routine.specs.declared.routine.Routine.{Routine}

-- a field, and the space before it
abbrev pub field_text : Operand → List ℕ
field_text field = 32 ∷ operand_text field

-- a line that begins with a word
abbrev pub keyword_line : Keyword → List Operand → List ℕ
keyword_line keyword fields = joined_by 32 (spelled keyword ∷ map operand_text fields) ++ (10 ∷ [])

abbrev pub instruction_line : Instruction → List ℕ
instruction_line i = ended (line.Instruction i ∷ [])

abbrev pub init_line : Init → List ℕ
init_line i = ended (line.Init i ∷ [])

-- PARTY, the party's instructions, END
abbrev pub party_text : Party → List ℕ
party_text p = ended (line.Party ∷ code_lines (code_of p) [])

abbrev pub routine_text : Routine → List ℕ
routine_text r = text_of (listing r)
