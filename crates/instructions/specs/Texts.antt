-- How a line is written: its fields with one space between them.
use Rattle.std.specs.Prelude.{ℕ, List, [], ◌∷◌, decimal}
use Rattle.fields.specs.Pieces.{joined_by}
use Rattle.fields.specs.Registers.{letter_of}
use Rattle.fields.specs.declared.registers.Register.{Register}
use Rattle.instructions.specs.declared.keyword.Keyword.TheVariants as keyword
use Rattle.instructions.specs.declared.types.Instruction.{Instruction}
use Rattle.instructions.specs.declared.types.Instruction.TheVariants.{Load, Store, Exchange, Fence, Nop, Set, Add, JumpNonzero, Jump}
use Rattle.instructions.specs.declared.types.Line.{Line}
use Rattle.instructions.specs.declared.types.Line.TheVariants as line
use Rattle.instructions.specs.declared.types.Operand.{Operand}
use Rattle.instructions.specs.declared.types.Operand.TheVariants as operand
use Rattle.instructions.specs.Keywords.{spelled}

abbrev pub register_text : Register → List ℕ
register_text r = letter_of r ∷ []

abbrev pub operand_text : Operand → List ℕ
operand_text (operand.Register r) = register_text r
operand_text (operand.Constant n) = decimal n

abbrev pub instruction_fields : Instruction → List (List ℕ)
instruction_fields (Load r a) = spelled keyword.Load ∷ (register_text r ∷ (decimal a ∷ []))
instruction_fields (Store a s) = spelled keyword.Store ∷ (decimal a ∷ (operand_text s ∷ []))
instruction_fields (Exchange r a) = spelled keyword.Exchange ∷ (register_text r ∷ (decimal a ∷ []))
instruction_fields Fence = spelled keyword.Fence ∷ []
instruction_fields Nop = spelled keyword.Nop ∷ []
instruction_fields (Set r s) = spelled keyword.Set ∷ (register_text r ∷ (operand_text s ∷ []))
instruction_fields (Add r s) = spelled keyword.Add ∷ (register_text r ∷ (operand_text s ∷ []))
instruction_fields (JumpNonzero r t) = spelled keyword.JumpNonzero ∷ (register_text r ∷ (decimal t ∷ []))
instruction_fields (Jump t) = spelled keyword.Jump ∷ (decimal t ∷ [])

abbrev pub line_fields : Line → List (List ℕ)
line_fields (line.Init i) = spelled keyword.Init ∷ (decimal i.address ∷ (decimal i.value ∷ []))
line_fields line.Party = spelled keyword.Party ∷ []
line_fields line.End = spelled keyword.End ∷ []
line_fields (line.Instruction i) = instruction_fields i

abbrev pub line_text : Line → List ℕ
line_text l = joined_by 32 (line_fields l)
