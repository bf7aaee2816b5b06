-- Lines that fit are spelled in one way only: as they are written.
use Rattle.std.proofs.Common.{◌≡◌, ℕ, ◌^◌, ◌<◌, Bool, true, ◌&&◌, leb, List, [], ◌∷◌, ◌++◌, decimal, refl, ap, ◌∙◌, arith}
use Rattle.std.proofs.lemmas.Bool.{and_parts, and_from, leb-true}
use Rattle.fields.specs.Pieces.{joined_by}
use Rattle.fields.proofs.Digits.{written_reads_back, read_is_written}
use Rattle.instructions.specs.Keywords.{spelled}
use Rattle.instructions.specs.Texts.{line_text, line_fields, instruction_fields, operand_text, register_text}
use Rattle.instructions.specs.declared.keyword.Keyword.TheVariants as keyword
use Rattle.instructions.specs.declared.types.Init.{Init}
use Rattle.instructions.specs.declared.types.Instruction.{Instruction}
use Rattle.instructions.specs.declared.types.Instruction.TheVariants.{Load, Store, Exchange, Fence, Nop, Set, Add, JumpNonzero, Jump}
use Rattle.instructions.specs.declared.types.Line.{Line}
use Rattle.instructions.specs.declared.types.Line.TheVariants as line
use Rattle.instructions.specs.declared.types.Operand.{Operand}
use Rattle.instructions.specs.declared.types.Operand.TheVariants as operand
use Rattle.grammar.specs.Grammar.{SpellsNumber, SpellsOperand, register, constant, SpellsInstruction, load, store, exchange, fence, nop, set, add, jump_nonzero, jump, SpellsFields, init, party, end, instruction, SpellsLines, none, more, line_fits}
use Rattle.grammar.specs.Listings.{Listing, operand_fits, instruction_fits, code_fits, inits_fit, parties_fit}
use Rattle.grammar.specs.Texts.{code_lines, party_lines, init_lines, lines_of, ended}
use Rattle.grammar.proofs.Drafts.{Limits}

abbrev pub lines_fit : List Line → Bool
lines_fit [] = true
lines_fit (l ∷ ls) = line_fits l && lines_fit ls

-- numbers up to a limit that is below 2^64
number_is : (max : ℕ) {ds : List ℕ} {n : ℕ} → max < 2 ^ 64 → leb n max ≡ true → SpellsNumber ds n → ds ≡ decimal n
number_is max {ds} {n} k h s = let v = s.value in read_is_written ds s.numeral (omega (arith, leb-true n max h)) ∙ ap decimal v

number_spelled : (max n : ℕ) → max < 2 ^ 64 → leb n max ≡ true → SpellsNumber (decimal n) n
number_spelled max n k h = let b = written_reads_back n (omega (arith, leb-true n max h)) in record { numeral = b.0; value = b.1 }

operand_is : {f : List ℕ} {s : Operand} → SpellsOperand f s → operand_fits s ≡ true → f ≡ operand_text s
operand_is (register r) h = refl
operand_is (constant p) h = number_is 4294967295 (omega arith) h p

instruction_is : {fs : List (List ℕ)} {i : Instruction} → SpellsInstruction fs i → instruction_fits i ≡ true → fs ≡ instruction_fields i
instruction_is (load r p) h = ap (λ d. spelled keyword.Load ∷ (register_text r ∷ (d ∷ []))) (number_is 65535 (omega arith) h p)
instruction_is (store {ds} {f} {a} {s} p q) h =
    let b = and_parts _ _ h in
    ap (λ d. spelled keyword.Store ∷ (d ∷ (f ∷ []))) (number_is 65535 (omega arith) b.0 p) ∙ ap (λ f. spelled keyword.Store ∷ (decimal a ∷ (f ∷ []))) (operand_is q b.1)
instruction_is (exchange r p) h = ap (λ d. spelled keyword.Exchange ∷ (register_text r ∷ (d ∷ []))) (number_is 65535 (omega arith) h p)
instruction_is fence h = refl
instruction_is nop h = refl
instruction_is (set r q) h = ap (λ f. spelled keyword.Set ∷ (register_text r ∷ (f ∷ []))) (operand_is q h)
instruction_is (add r q) h = ap (λ f. spelled keyword.Add ∷ (register_text r ∷ (f ∷ []))) (operand_is q h)
instruction_is (jump_nonzero r p) h = ap (λ d. spelled keyword.JumpNonzero ∷ (register_text r ∷ (d ∷ []))) (number_is 32 (omega arith) h p)
instruction_is (jump p) h = ap (λ d. spelled keyword.Jump ∷ (d ∷ [])) (number_is 32 (omega arith) h p)

fields_are : {fs : List (List ℕ)} {l : Line} → SpellsFields fs l → line_fits l ≡ true → fs ≡ line_fields l
fields_are (init {ds} {es} {i} p q) h =
    let b = and_parts _ _ h in
    ap (λ d. spelled keyword.Init ∷ (d ∷ (es ∷ []))) (number_is 65535 (omega arith) b.0 p) ∙ ap (λ e. spelled keyword.Init ∷ (decimal i.address ∷ (e ∷ []))) (number_is 4294967295 (omega arith) b.1 q)
fields_are party h = refl
fields_are end h = refl
fields_are (instruction p) h = instruction_is p h

-- what spells these lines is what is written of them
pub lines_are : {bs : List ℕ} {ls : List Line} → SpellsLines bs ls → lines_fit ls ≡ true → bs ≡ ended ls
lines_are none h = refl
lines_are (more {fs} {l} {bs} {ls} p q) h =
    let b = and_parts _ _ h in
    ap (λ fs. joined_by 32 fs ++ (10 ∷ bs)) (fields_are p b.0) ∙ ap (λ bs. line_text l ++ (10 ∷ bs)) (lines_are q b.1)

operand_spelled : (s : Operand) → operand_fits s ≡ true → SpellsOperand (operand_text s) s
operand_spelled (operand.Register r) h = register r
operand_spelled (operand.Constant n) h = constant (number_spelled 4294967295 n (omega arith) h)

instruction_spelled : (i : Instruction) → instruction_fits i ≡ true → SpellsInstruction (instruction_fields i) i
instruction_spelled (Load r a) h = load r (number_spelled 65535 a (omega arith) h)
instruction_spelled (Store a s) h = let b = and_parts _ _ h in store (number_spelled 65535 a (omega arith) b.0) (operand_spelled s b.1)
instruction_spelled (Exchange r a) h = exchange r (number_spelled 65535 a (omega arith) h)
instruction_spelled Fence h = fence
instruction_spelled Nop h = nop
instruction_spelled (Set r s) h = set r (operand_spelled s h)
instruction_spelled (Add r s) h = add r (operand_spelled s h)
instruction_spelled (JumpNonzero r t) h = jump_nonzero r (number_spelled 32 t (omega arith) h)
instruction_spelled (Jump t) h = jump (number_spelled 32 t (omega arith) h)

fields_spelled : (l : Line) → line_fits l ≡ true → SpellsFields (line_fields l) l
fields_spelled (line.Init i) h = let b = and_parts _ _ h in init (number_spelled 65535 i.address (omega arith) b.0) (number_spelled 4294967295 i.value (omega arith) b.1)
fields_spelled line.Party h = party
fields_spelled line.End h = end
fields_spelled (line.Instruction i) h = instruction (instruction_spelled i h)

-- what is written of lines spells them
pub lines_spelled : (ls : List Line) → lines_fit ls ≡ true → SpellsLines (ended ls) ls
lines_spelled [] h = none
lines_spelled (l ∷ ls) h = let b = and_parts _ _ h in more (fields_spelled l b.0) (lines_spelled ls b.1)

code_lines_fit : (is : List Instruction) (after : List Line) → code_fits is ≡ true → lines_fit after ≡ true → lines_fit (code_lines is after) ≡ true
code_lines_fit [] after h k = k
code_lines_fit (i ∷ is) after h k = let b = and_parts _ _ h in and_from _ _ b.0 (code_lines_fit is after b.1 k)

party_lines_fit : (ps : List (List Instruction)) → parties_fit ps ≡ true → lines_fit (party_lines ps) ≡ true
party_lines_fit [] h = refl
party_lines_fit (p ∷ ps) h = let b = and_parts _ _ h in code_lines_fit p (party_lines ps) b.0 (party_lines_fit ps b.1)

init_lines_fit : (is : List Init) (after : List Line) → inits_fit is ≡ true → lines_fit after ≡ true → lines_fit (init_lines is after) ≡ true
init_lines_fit [] after h k = k
init_lines_fit (i ∷ is) after h k = let b = and_parts _ _ h in and_from _ _ b.0 (init_lines_fit is after b.1 k)

pub lines_of_fit : (l : Listing) → Limits l → lines_fit (lines_of l) ≡ true
lines_of_fit l k = init_lines_fit l.inits (party_lines l.parties) k.inits_are_fit (party_lines_fit l.parties k.parties_are_fit)
