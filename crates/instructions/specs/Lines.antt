-- What a line says, from its fields.
use Rattle.std.specs.Prelude.{◌≡◌, ℕ, suc, Bool, true, false, if◌then◌else◌, List, [], ◌∷◌, map, drop, Some, None, Ok, Err, Option, Result}
use Rattle.fields.specs.declared.faults.FieldFault.{FieldFault}
use Rattle.fields.specs.declared.reader.Reader.{Reader}
use Rattle.fields.specs.Lines.{line_answer}
use Rattle.fields.specs.Pieces.{pieces}
use Rattle.fields.specs.Readers.{lines_left, fields_left}
use Rattle.fields.specs.Tokens.{Seen, seen_of}
use Rattle.instructions.specs.declared.faults.LineFault.{LineFault}
use Rattle.instructions.specs.declared.faults.LineFault.TheVariants.{Field, Word}
use Rattle.instructions.specs.declared.keyword.Keyword.{Keyword}
use Rattle.instructions.specs.declared.keyword.Keyword.TheVariants as keyword
use Rattle.instructions.specs.declared.types.Instruction.TheVariants.{Load, Store, Exchange, Fence, Nop, Set, Add, JumpNonzero, Jump}
use Rattle.instructions.specs.declared.types.Line.{Line}
use Rattle.instructions.specs.declared.types.Line.TheVariants as line
use Rattle.instructions.specs.declared.types.Stage.{Stage}
use Rattle.instructions.specs.Arguments.{Given, given_by, of_none, of_one, of_two, is_register, is_number, is_operand, register_in, number_in, operand_in}
use Rattle.instructions.specs.Keywords.{keyword_seen, may_stand}

abbrev pub Said : Type 0
Said = Result Line LineFault

abbrev pub said : {A : Type 0} → (A → Line) → Result A LineFault → Said
said f (Ok x) = Ok (f x)
said f (Err e) = Err e

-- the fields that each word takes: addresses are at most 65,535, targets at most 32, values at most 2^32 - 1
abbrev pub line_by : Keyword → Given → ℕ → Said
line_by keyword.Init g n = said (λ p. line.Init (record { address = p.0; value = p.1 })) (of_two is_number (number_in 65535) is_number (number_in 4294967295) g n)
line_by keyword.Party g n = said (λ _. line.Party) (of_none g n)
line_by keyword.End g n = said (λ _. line.End) (of_none g n)
line_by keyword.Load g n = said (λ p. line.Instruction (Load p.0 p.1)) (of_two is_register register_in is_number (number_in 65535) g n)
line_by keyword.Store g n = said (λ p. line.Instruction (Store p.0 p.1)) (of_two is_number (number_in 65535) is_operand operand_in g n)
line_by keyword.Exchange g n = said (λ p. line.Instruction (Exchange p.0 p.1)) (of_two is_register register_in is_number (number_in 65535) g n)
line_by keyword.Fence g n = said (λ _. line.Instruction Fence) (of_none g n)
line_by keyword.Nop g n = said (λ _. line.Instruction Nop) (of_none g n)
line_by keyword.Set g n = said (λ p. line.Instruction (Set p.0 p.1)) (of_two is_register register_in is_operand operand_in g n)
line_by keyword.Add g n = said (λ p. line.Instruction (Add p.0 p.1)) (of_two is_register register_in is_operand operand_in g n)
line_by keyword.JumpNonzero g n = said (λ p. line.Instruction (JumpNonzero p.0 p.1)) (of_two is_register register_in is_number (number_in 32) g n)
line_by keyword.Jump g n = said (λ t. line.Instruction (Jump t)) (of_one is_number (number_in 32) g n)

abbrev pub here : Stage → Option Keyword → Option Keyword
here stage None = None
here stage (Some k) = if may_stand stage k then Some k else None

-- the keyword that the first field is, where it may stand there
abbrev pub keyword_here : Stage → Seen → Option Keyword
keyword_here stage s = here stage (keyword_seen s)

abbrev pub said_by : Option Keyword → Given → ℕ → Said
said_by None g n = Err (Word n)
said_by (Some k) g n = line_by k g n

-- what the fields of the n-th line say
abbrev pub fields_say : Stage → List (List ℕ) → ℕ → Said
fields_say stage [] n = Err (Word n)
fields_say stage (f ∷ fs) n = said_by (keyword_here stage (seen_of f)) (given_by (map seen_of fs)) n

abbrev pub first : List (List ℕ) → List ℕ
first [] = []
first (l ∷ ls) = l

abbrev pub found : Said → Result (Option Line) LineFault
found (Ok l) = Ok (Some l)
found (Err e) = Err e

abbrev pub by_answer : Result Bool FieldFault → Said → Result (Option Line) LineFault
by_answer (Ok b) s = if b then found s else Ok None
by_answer (Err e) s = Err (Field e)

-- of the pieces between bytes 10 that are left, and the next line's number: what the next line says, or None at the end
abbrev pub line_read : Stage → List (List ℕ) → ℕ → Result (Option Line) LineFault
line_read stage ps n = by_answer (line_answer ps n) (fields_say stage (pieces 32 (first ps)) n)

-- s is r one line on, with at most four fields of that line cut off
pub record LineOn (r s : Reader) : Type 0 where
  pub text : s.text.now ≡ r.text.now
  pub number : s.line ≡ suc r.line
  pub line : List ℕ
  pub cut : lines_left r ≡ line ∷ lines_left s
  pub fields : fields_left s ≡ drop 4 (pieces 32 line)

-- the reader goes one line on, unless there is none, or none that is made of fields
abbrev pub AfterRead : Result Bool FieldFault → Reader → Reader → Type 0
AfterRead (Ok true) r s = LineOn r s
AfterRead (Ok false) r s = s ≡ r
AfterRead (Err e) r s = s ≡ r
