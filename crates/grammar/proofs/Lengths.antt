-- How long a routine's text is.
use Rattle.std.proofs.Common.{◌≡◌, ℕ, ◌+◌, ◌*◌, ◌≤◌, true, ◌&&◌, ltb, leb, List, [], ◌∷◌, length, decimal, arith, length-append}
use Rattle.std.proofs.lemmas.Fmt.{length-decimal-le}
use Rattle.std.proofs.lemmas.Bool.{and_parts, leb-true}
use Rattle.instructions.specs.Texts.{line_text, operand_text}
use Rattle.instructions.specs.declared.types.Init.{Init}
use Rattle.instructions.specs.declared.types.Instruction.{Instruction}
use Rattle.instructions.specs.declared.types.Instruction.TheVariants.{Load, Store, Exchange, Fence, Nop, Set, Add, JumpNonzero, Jump}
use Rattle.instructions.specs.declared.types.Line.{Line}
use Rattle.instructions.specs.declared.types.Line.TheVariants as line
use Rattle.instructions.specs.declared.types.Operand.{Operand}
use Rattle.instructions.specs.declared.types.Operand.TheVariants as operand
use Rattle.grammar.specs.Listings.{Listing, fewest_parties, operand_fits, instruction_fits, init_fits, code_fits, inits_fit, parties_fit, party_lawful, parties_lawful, targets_within}
use Rattle.grammar.specs.Texts.{code_lines, party_lines, init_lines, ended, text_of}
use Rattle.grammar.proofs.Drafts.{Limits}

address_short : (a : ℕ) → leb a 65535 ≡ true → length (decimal a) ≤ 5
address_short a h = let k = leb-true a 65535 h in length-decimal-le 5 a (omega arith) (omega arith) (omega arith)

word_short : (n : ℕ) → leb n 4294967295 ≡ true → length (decimal n) ≤ 10
word_short n h = let k = leb-true n 4294967295 h in length-decimal-le 10 n (omega arith) (omega arith) (omega arith)

target_short : (t : ℕ) → leb t 32 ≡ true → length (decimal t) ≤ 2
target_short t h = let k = leb-true t 32 h in length-decimal-le 2 t (omega arith) (omega arith) (omega arith)

operand_short : (s : Operand) → operand_fits s ≡ true → length (operand_text s) ≤ 10
operand_short (operand.Register r) h = omega arith
operand_short (operand.Constant n) h = word_short n h

instruction_short : (i : Instruction) → instruction_fits i ≡ true → length (line_text (line.Instruction i)) ≤ 19
instruction_short (Load r a) h = let k = address_short a h in omega arith
instruction_short (Store a s) h =
    let b = and_parts _ _ h in
    let k = address_short a b.0 in
    let m = operand_short s b.1 in
    omega (arith, length-append (decimal a) (32 ∷ operand_text s))
instruction_short (Exchange r a) h = let k = address_short a h in omega arith
instruction_short Fence h = omega arith
instruction_short Nop h = omega arith
instruction_short (Set r s) h = let k = operand_short s h in omega arith
instruction_short (Add r s) h = let k = operand_short s h in omega arith
instruction_short (JumpNonzero r t) h = let k = target_short t h in omega arith
instruction_short (Jump t) h = let k = target_short t h in omega arith

init_short : (i : Init) → init_fits i ≡ true → length (line_text (line.Init i)) ≤ 21
init_short i h =
    let b = and_parts _ _ h in
    let k = address_short i.address b.0 in
    let m = word_short i.value b.1 in
    omega (arith, length-append (decimal i.address) (32 ∷ decimal i.value))

code_length : (is : List Instruction) (more : List Line) → code_fits is ≡ true → length (ended (code_lines is more)) ≤ 20 * length is + 4 + length (ended more)
code_length [] more h = omega arith
code_length (i ∷ is) more h =
    let b = and_parts _ _ h in
    let k = instruction_short i b.0 in
    let m = code_length is more b.1 in
    omega (arith, length-append (line_text (line.Instruction i)) (10 ∷ ended (code_lines is more)))

parties_length : (ps : List (List Instruction)) → parties_lawful ps ≡ true → parties_fit ps ≡ true → length (ended (party_lines ps)) ≤ 650 * length ps
parties_length [] h k = omega arith
parties_length (p ∷ ps) h k =
    let a = and_parts (party_lawful p) (parties_lawful ps) h in
    let b = and_parts (code_fits p) (parties_fit ps) k in
    let c = and_parts (ltb 0 (length p)) (leb (length p) 32 && targets_within (length p) p) a.0 in
    let d = leb-true (length p) 32 (and_parts (leb (length p) 32) (targets_within (length p) p) c.1).0 in
    let m = code_length p (party_lines ps) b.0 in
    let r = parties_length ps a.1 b.1 in
    omega arith

inits_length : (is : List Init) (more : List Line) → inits_fit is ≡ true → length (ended (init_lines is more)) ≤ 22 * length is + length (ended more)
inits_length [] more h = omega arith
inits_length (i ∷ is) more h =
    let b = and_parts _ _ h in
    let k = init_short i b.0 in
    let m = inits_length is more b.1 in
    omega (arith, length-append (line_text (line.Init i)) (10 ∷ ended (init_lines is more)))

pub text_length : (l : Listing) → Limits l → length (text_of l) ≤ 2952
text_length l k =
    let a = inits_length l.inits (party_lines l.parties) k.inits_are_fit in
    let b = parties_length l.parties k.parties k.parties_are_fit in
    omega arith

some_parties : (ps : List (List Instruction)) → fewest_parties ≤ length ps → 1 ≤ length (ended (party_lines ps))
some_parties [] h = absurd (omega arith)
some_parties (p ∷ ps) h = omega arith

some_inits : (is : List Init) (more : List Line) → 1 ≤ length (ended more) → 1 ≤ length (ended (init_lines is more))
some_inits [] more h = h
some_inits (i ∷ is) more h = omega (arith, length-append (line_text (line.Init i)) (10 ∷ ended (init_lines is more)))

-- a routine's text is not empty, since it has a party
pub text_some : (l : Listing) → Limits l → 1 ≤ length (text_of l)
text_some l k = some_inits l.inits (party_lines l.parties) (some_parties l.parties (leb-true fewest_parties (length l.parties) k.fewest))
