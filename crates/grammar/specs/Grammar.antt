-- The grammar: which texts spell which routine, in terms of lines, fields, words and numbers.
use Rattle.std.specs.Prelude.{◌≡◌, ℕ, ◌≤◌, Bool, true, List, [], ◌∷◌, ◌++◌, length, Ok}
use Rattle.fields.specs.Numbers.{is_numeral, value_of}
use Rattle.fields.specs.Pieces.{pieces, joined_by}
use Rattle.fields.specs.Lines.{line_checked}
use Rattle.fields.specs.declared.registers.Register.{Register}
use Rattle.instructions.specs.Keywords.{spelled, may_stand}
use Rattle.instructions.specs.Lines.{fields_say}
use Rattle.instructions.specs.Texts.{line_text, register_text}
use Rattle.instructions.specs.declared.keyword.Keyword.{Keyword}
use Rattle.instructions.specs.declared.keyword.Keyword.TheVariants as keyword
use Rattle.instructions.specs.declared.types.Init.{Init}
use Rattle.instructions.specs.declared.types.Instruction.{Instruction}
use Rattle.instructions.specs.declared.types.Instruction.TheVariants.{Load, Store, Exchange, Fence, Nop, Set, Add, JumpNonzero, Jump}
use Rattle.instructions.specs.declared.types.Line.{Line}
use Rattle.instructions.specs.declared.types.Line.TheVariants as line
use Rattle.instructions.specs.declared.types.Operand.{Operand}
use Rattle.instructions.specs.declared.types.Operand.TheVariants as operand
use Rattle.instructions.specs.declared.types.Stage.{Stage}
use Rattle.grammar.specs.Listings.{Listing, lawful, init_fits, instruction_fits}
use Rattle.grammar.specs.Reads.{read_of}
use Rattle.grammar.specs.Texts.{lines_of, text_of}

-- the digits ds, with no leading zero, are the number n
pub record SpellsNumber (ds : List ℕ) (n : ℕ) : Type 0 where
  pub numeral : is_numeral ds ≡ true
  pub value : value_of ds ≡ n

pub data SpellsOperand : List ℕ → Operand → Type 0 where
  register : (r : Register) → SpellsOperand (register_text r) (operand.Register r)
  constant : {ds : List ℕ} {n : ℕ} → SpellsNumber ds n → SpellsOperand ds (operand.Constant n)

-- the fields of an instruction: its word, and what the word takes
pub data SpellsInstruction : List (List ℕ) → Instruction → Type 0 where
  load : {ds : List ℕ} {a : ℕ} (r : Register) → SpellsNumber ds a → SpellsInstruction (spelled keyword.Load ∷ (register_text r ∷ (ds ∷ []))) (Load r a)
  store : {ds f : List ℕ} {a : ℕ} {s : Operand} → SpellsNumber ds a → SpellsOperand f s → SpellsInstruction (spelled keyword.Store ∷ (ds ∷ (f ∷ []))) (Store a s)
  exchange : {ds : List ℕ} {a : ℕ} (r : Register) → SpellsNumber ds a → SpellsInstruction (spelled keyword.Exchange ∷ (register_text r ∷ (ds ∷ []))) (Exchange r a)
  fence : SpellsInstruction (spelled keyword.Fence ∷ []) Fence
  nop : SpellsInstruction (spelled keyword.Nop ∷ []) Nop
  set : {f : List ℕ} {s : Operand} (r : Register) → SpellsOperand f s → SpellsInstruction (spelled keyword.Set ∷ (register_text r ∷ (f ∷ []))) (Set r s)
  add : {f : List ℕ} {s : Operand} (r : Register) → SpellsOperand f s → SpellsInstruction (spelled keyword.Add ∷ (register_text r ∷ (f ∷ []))) (Add r s)
  jump_nonzero : {ds : List ℕ} {t : ℕ} (r : Register) → SpellsNumber ds t → SpellsInstruction (spelled keyword.JumpNonzero ∷ (register_text r ∷ (ds ∷ []))) (JumpNonzero r t)
  jump : {ds : List ℕ} {t : ℕ} → SpellsNumber ds t → SpellsInstruction (spelled keyword.Jump ∷ (ds ∷ [])) (Jump t)

pub data SpellsFields : List (List ℕ) → Line → Type 0 where
  init : {ds es : List ℕ} {i : Init} → SpellsNumber ds i.address → SpellsNumber es i.value → SpellsFields (spelled keyword.Init ∷ (ds ∷ (es ∷ []))) (line.Init i)
  party : SpellsFields (spelled keyword.Party ∷ []) line.Party
  end : SpellsFields (spelled keyword.End ∷ []) line.End
  instruction : {fs : List (List ℕ)} {i : Instruction} → SpellsInstruction fs i → SpellsFields fs (line.Instruction i)

-- a text is lines of fields, one space between two fields and byte 10 after each line
pub data SpellsLines : List ℕ → List Line → Type 0 where
  none : SpellsLines [] []
  more : {fs : List (List ℕ)} {l : Line} {bs : List ℕ} {ls : List Line} → SpellsFields fs l → SpellsLines bs ls → SpellsLines (joined_by 32 fs ++ (10 ∷ bs)) (l ∷ ls)

-- the text spells the routine: its INIT lines, then for each party PARTY, its instructions and END
abbrev pub Spells : List ℕ → Listing → Type 0
Spells bs l = SpellsLines bs (lines_of l)

-- exactly the texts that spell a lawful routine are read, and give that routine
abbrev pub ReadsExactly : Type 0
ReadsExactly = (bs : List ℕ) (l : Listing) → (read_of bs ≡ Ok l → Spells bs l × (lawful l ≡ true)) × (Spells bs l → lawful l ≡ true → read_of bs ≡ Ok l)

-- what is written of a lawful routine is read back, and is never above 2,952 bytes
abbrev pub WrittenIsRead : Type 0
WrittenIsRead = (l : Listing) → lawful l ≡ true → (read_of (text_of l) ≡ Ok l) × (length (text_of l) ≤ 2952)

-- a text that is read is what is written of its routine
abbrev pub ReadIsWritten : Type 0
ReadIsWritten = (bs : List ℕ) (l : Listing) → read_of bs ≡ Ok l → (bs ≡ text_of l) × (lawful l ≡ true)

-- a line's word
abbrev pub word_of : Line → Keyword
word_of (line.Init i) = keyword.Init
word_of line.Party = keyword.Party
word_of line.End = keyword.End
word_of (line.Instruction (Load r a)) = keyword.Load
word_of (line.Instruction (Store a s)) = keyword.Store
word_of (line.Instruction (Exchange r a)) = keyword.Exchange
word_of (line.Instruction Fence) = keyword.Fence
word_of (line.Instruction Nop) = keyword.Nop
word_of (line.Instruction (Set r s)) = keyword.Set
word_of (line.Instruction (Add r s)) = keyword.Add
word_of (line.Instruction (JumpNonzero r t)) = keyword.JumpNonzero
word_of (line.Instruction (Jump t)) = keyword.Jump

abbrev pub line_fits : Line → Bool
line_fits (line.Init i) = init_fits i
line_fits line.Party = true
line_fits line.End = true
line_fits (line.Instruction i) = instruction_fits i

-- one line: what is written is made of fields, and says what was written where its word may stand
abbrev pub LinesReadBack : Type 0
LinesReadBack = (stage : Stage) (l : Line) (n : ℕ) → line_fits l ≡ true → may_stand stage (word_of l) ≡ true → (line_checked (line_text l) n ≡ Ok tt) × (fields_say stage (pieces 32 (line_text l)) n ≡ Ok l)

-- one line: its bytes are what is written of what they say
abbrev pub LinesReadAsWritten : Type 0
LinesReadAsWritten = (stage : Stage) (bs : List ℕ) (n : ℕ) (l : Line) → fields_say stage (pieces 32 bs) n ≡ Ok l → (bs ≡ line_text l) × ((line_fits l ≡ true) × (may_stand stage (word_of l) ≡ true))
