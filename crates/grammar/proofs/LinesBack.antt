-- What is written of a line is read back.
use Rattle.std.proofs.Common.{◌≡◌, ℕ, ◌^◌, ◌<◌, ◌≤◌, Bool, true, leb, List, [], ◌∷◌, map, length, Some, None, Ok, decimal, Option, sym, refl, ap, ◌∙◌, arith}
use Rattle.std.specs.Option.{option_map}
use Rattle.std.specs.Char.{is_ascii_digit}
use Rattle.std.specs.Str.{all_ascii_digits}
use Rattle.std.proofs.lemmas.Fmt.{decimal_nonempty}
use Rattle.std.proofs.lemmas.Bool.{and_parts, and_from, cond-true, leb-true}
use Rattle.std.proofs.lemmas.Bool.Decides.{nat_tests}
use Rattle.fields.specs.declared.registers.Register.{Register}
use Rattle.fields.specs.declared.registers.Register.TheVariants.{A, B, C, D}
use Rattle.fields.specs.Lines.{line_checked, all_some, some, all_printable, printable}
use Rattle.fields.specs.Numbers.{value_of, up_to}
use Rattle.fields.specs.Pieces.{pieces, joined_by, lacks, other}
use Rattle.fields.specs.Registers.{register_of}
use Rattle.fields.specs.Tokens.{Seen, register, number, seen_of, seen_by}
use Rattle.fields.proofs.Digits.{written_reads_back, numeral_digits, up_to_yes}
use Rattle.instructions.specs.Arguments.{given_by, needed, of_one, of_two, is_register, is_number, is_operand, register_in, number_in, operand_in}
use Rattle.instructions.specs.Keywords.{spelled, may_stand}
use Rattle.instructions.specs.Lines.{fields_say, line_by, said, said_by, here, keyword_here}
use Rattle.instructions.specs.Texts.{register_text, operand_text}
use Rattle.instructions.specs.declared.faults.LineFault.TheVariants.{Range}
use Rattle.instructions.specs.declared.keyword.Keyword.{Keyword}
use Rattle.instructions.specs.declared.keyword.Keyword.TheVariants as keyword
use Rattle.instructions.specs.declared.types.Instruction.TheVariants.{Load, Store, Exchange, Fence, Nop, Set, Add, JumpNonzero, Jump}
use Rattle.instructions.specs.declared.types.Line.{Line}
use Rattle.instructions.specs.declared.types.Line.TheVariants as line
use Rattle.instructions.specs.declared.types.Operand.{Operand}
use Rattle.instructions.specs.declared.types.Operand.TheVariants as operand
use Rattle.instructions.specs.declared.types.Stage.{Stage}
use Rattle.grammar.specs.Grammar.{LinesReadBack}
use Rattle.grammar.specs.Listings.{operand_fits}
use Rattle.std.proofs.lemmas.List.Folds.{list_all-append}
use Rattle.grammar.proofs.Cutting.{AllLack, pieces-joined}

-- a field that stands whole in a line
record Fine (f : List ℕ) : Type 0 where
  lacking : lacks 32 f ≡ true
  printing : all_printable f ≡ true
  filled : some f ≡ true

abbrev AllFine : List (List ℕ) → Type 0
AllFine [] = Unit {0}
AllFine (f ∷ fs) = Fine f × AllFine fs

all_lack : (fs : List (List ℕ)) → AllFine fs → AllLack 32 fs
all_lack [] h = tt
all_lack (f ∷ fs) h = (h.0.lacking, all_lack fs h.1)

all_some_lem : (fs : List (List ℕ)) → AllFine fs → all_some fs ≡ true
all_some_lem [] h = refl
all_some_lem (f ∷ fs) h = and_from _ _ h.0.filled (all_some_lem fs h.1)

printable-joined : (f : List ℕ) (fs : List (List ℕ)) → AllFine (f ∷ fs) → all_printable (joined_by 32 (f ∷ fs)) ≡ true
printable-joined f [] h = h.0.printing
printable-joined f (g ∷ fs) h = list_all-append printable f _ ∙ and_from _ _ h.0.printing (printable-joined g fs h.1)

-- a field that is fine, of the kind that is asked, and of that value
record Reads {A : Type 0} (kind : Seen → Bool) (value : Seen → Option A) (f : List ℕ) (x : A) : Type 0 where
  fine : Fine f
  kinded : kind (seen_of f) ≡ true
  valued : value (seen_of f) ≡ Some x

register_fine : (r : Register) → Fine (register_text r)
register_fine A = record { lacking = refl; printing = refl; filled = refl }
register_fine B = record { lacking = refl; printing = refl; filled = refl }
register_fine C = record { lacking = refl; printing = refl; filled = refl }
register_fine D = record { lacking = refl; printing = refl; filled = refl }

seen_register : (r : Register) → seen_of (register_text r) ≡ register r
seen_register A = refl
seen_register B = refl
seen_register C = refl
seen_register D = refl

register_reads : (r : Register) → Reads is_register register_in (register_text r) r
register_reads r = let e = seen_register r in record { fine = register_fine r; kinded = ap is_register e; valued = ap register_in e }

digits_fine : (ds : List ℕ) → all_ascii_digits ds ≡ true → (lacks 32 ds ≡ true) × (all_printable ds ≡ true)
digits_fine [] h = (refl, refl)
digits_fine (c ∷ cs) h =
    let p = and_parts (is_ascii_digit c) (all_ascii_digits cs) h in
    let q = digits_fine cs p.1 in
    let one : other 32 c ≡ true = grind (arith, nat_tests) in
    let two : printable c ≡ true = grind (arith, nat_tests) in
    (and_from _ _ one q.0, and_from _ _ two q.1)

some_from : (ds : List ℕ) → 0 < length ds → some ds ≡ true
some_from [] h = absurd (omega arith)
some_from (c ∷ cs) h = refl

decimal_fine : (n : ℕ) → n < 2 ^ 64 → Fine (decimal n)
decimal_fine n h =
    let q = digits_fine (decimal n) (numeral_digits (decimal n) (written_reads_back n h).0) in
    record { lacking = q.0; printing = q.1; filled = some_from (decimal n) (decimal_nonempty n h) }

no_register : (ds : List ℕ) → all_ascii_digits ds ≡ true → register_of ds ≡ None
no_register [] h = refl
no_register (c ∷ []) h = grind (arith, nat_tests)
no_register (c ∷ (d ∷ ds)) h = refl

seen_decimal : (n : ℕ) → n < 2 ^ 64 → seen_of (decimal n) ≡ number (decimal n)
seen_decimal n h = let p = (written_reads_back n h).0 in ap (λ r. seen_by r (decimal n)) (no_register (decimal n) (numeral_digits (decimal n) p)) ∙ cond-true _ _ _ p

up_to_decimal : (max n : ℕ) → n ≤ max → n < 2 ^ 64 → up_to max (value_of (decimal n)) ≡ Some n
up_to_decimal max n h k = ap (up_to max) (written_reads_back n k).1 ∙ sym (up_to_yes max n h)

number_reads : (max n : ℕ) → max < 2 ^ 64 → leb n max ≡ true → Reads is_number (number_in max) (decimal n) n
number_reads max n small h =
    let k = leb-true n max h in
    let e = seen_decimal n (omega arith) in
    record { fine = decimal_fine n (omega arith); kinded = ap is_number e; valued = ap (number_in max) e ∙ up_to_decimal max n k (omega arith) }

operand_reads : (s : Operand) → operand_fits s ≡ true → Reads is_operand operand_in (operand_text s) s
operand_reads (operand.Register r) h = let e = seen_register r in record { fine = register_fine r; kinded = ap is_operand e; valued = ap operand_in e }
operand_reads (operand.Constant n) h =
    let k = leb-true n 4294967295 h in
    let e = seen_decimal n (omega arith) in
    record { fine = decimal_fine n (omega arith); kinded = ap is_operand e; valued = ap operand_in e ∙ ap (option_map operand.Constant) (up_to_decimal 4294967295 n k (omega arith)) }

word_fine : (k : Keyword) → Fine (spelled k)
word_fine keyword.Init = record { lacking = refl; printing = refl; filled = refl }
word_fine keyword.Party = record { lacking = refl; printing = refl; filled = refl }
word_fine keyword.End = record { lacking = refl; printing = refl; filled = refl }
word_fine keyword.Load = record { lacking = refl; printing = refl; filled = refl }
word_fine keyword.Store = record { lacking = refl; printing = refl; filled = refl }
word_fine keyword.Exchange = record { lacking = refl; printing = refl; filled = refl }
word_fine keyword.Fence = record { lacking = refl; printing = refl; filled = refl }
word_fine keyword.Nop = record { lacking = refl; printing = refl; filled = refl }
word_fine keyword.Set = record { lacking = refl; printing = refl; filled = refl }
word_fine keyword.Add = record { lacking = refl; printing = refl; filled = refl }
word_fine keyword.JumpNonzero = record { lacking = refl; printing = refl; filled = refl }
word_fine keyword.Jump = record { lacking = refl; printing = refl; filled = refl }

-- what a word spells is that word
word_here : (stage : Stage) (k : Keyword) → keyword_here stage (seen_of (spelled k)) ≡ here stage (Some k)
word_here stage keyword.Init = refl
word_here stage keyword.Party = refl
word_here stage keyword.End = refl
word_here stage keyword.Load = refl
word_here stage keyword.Store = refl
word_here stage keyword.Exchange = refl
word_here stage keyword.Fence = refl
word_here stage keyword.Nop = refl
word_here stage keyword.Set = refl
word_here stage keyword.Add = refl
word_here stage keyword.JumpNonzero = refl
word_here stage keyword.Jump = refl

abbrev Back : Stage → List ℕ → ℕ → Line → Type 0
Back stage bs n l = (line_checked bs n ≡ Ok tt) × (fields_say stage (pieces 32 bs) n ≡ Ok l)

-- a word that may stand here, with fine fields that say l after it
line_back : (stage : Stage) (k : Keyword) (fs : List (List ℕ)) (n : ℕ) (l : Line) → AllFine fs → may_stand stage k ≡ true → line_by k (given_by (map seen_of fs)) n ≡ Ok l → Back stage (joined_by 32 (spelled k ∷ fs)) n l
line_back stage k fs n l fine may says =
    let all : AllFine (spelled k ∷ fs) = (word_fine k, fine) in
    let cut = pieces-joined 32 (spelled k) fs (all_lack (spelled k ∷ fs) all) in (
      cond-true _ _ _ (printable-joined (spelled k) fs all) ∙ cond-true _ _ _ (ap all_some cut ∙ all_some_lem (spelled k ∷ fs) all),
      ap (λ ps. fields_say stage ps n) cut ∙ ap (λ o. said_by o (given_by (map seen_of fs)) n) (word_here stage k ∙ cond-true _ _ _ may) ∙ says,
    )

module _ {A : Type 0} (kind : Seen → Bool) (value : Seen → Option A) (f : List ℕ) (x : A) (p : Reads kind value f x) (n : ℕ) where
  one_back : of_one kind value (given_by (map seen_of (f ∷ []))) n ≡ Ok x
  one_back = cond-true _ _ _ p.kinded ∙ ap (λ o. needed o (Range n) (λ x. Ok x)) p.valued

  two_back : {B : Type 0} (kind' : Seen → Bool) (value' : Seen → Option B) (g : List ℕ) (y : B) → Reads kind' value' g y → of_two kind value kind' value' (given_by (map seen_of (f ∷ (g ∷ [])))) n ≡ Ok (x, y)
  two_back kind' value' g y q =
      cond-true _ _ _ (and_from _ _ p.kinded q.kinded)
      ∙ ap (λ o. needed o (Range n) (λ x. needed (value' (seen_of g)) (Range n) (λ y. Ok (x, y)))) p.valued
      ∙ ap (λ o. needed o (Range n) (λ y. Ok (x, y))) q.valued

-- a word with two fields after it
two_line : {A B : Type 0} {kind kind' : Seen → Bool} {value : Seen → Option A} {value' : Seen → Option B} {f g : List ℕ} {x : A} {y : B} (stage : Stage) (k : Keyword) (make : A × B → Line) (n : ℕ) → Reads kind value f x → Reads kind' value' g y → line_by k (given_by (map seen_of (f ∷ (g ∷ [])))) n ≡ said make (of_two kind value kind' value' (given_by (map seen_of (f ∷ (g ∷ [])))) n) → may_stand stage k ≡ true → Back stage (joined_by 32 (spelled k ∷ (f ∷ (g ∷ [])))) n (make (x, y))
two_line {kind} {kind'} {value} {value'} {f} {g} {x} {y} stage k make n p q takes may =
    line_back stage k (f ∷ (g ∷ [])) n (make (x, y)) (p.fine, (q.fine, tt)) may (takes ∙ ap (said make) (two_back kind value f x p n kind' value' g y q))

pub lines_read_back : LinesReadBack
lines_read_back stage (line.Init i) n fits may =
    let h = and_parts _ _ fits in
    two_line stage keyword.Init (λ p. line.Init (record { address = p.0; value = p.1 })) n (number_reads 65535 i.address (omega arith) h.0) (number_reads 4294967295 i.value (omega arith) h.1) refl may
lines_read_back stage line.Party n fits may = line_back stage keyword.Party [] n line.Party tt may refl
lines_read_back stage line.End n fits may = line_back stage keyword.End [] n line.End tt may refl
lines_read_back stage (line.Instruction (Load r a)) n fits may =
    two_line stage keyword.Load (λ p. line.Instruction (Load p.0 p.1)) n (register_reads r) (number_reads 65535 a (omega arith) fits) refl may
lines_read_back stage (line.Instruction (Store a s)) n fits may =
    let h = and_parts _ _ fits in
    two_line stage keyword.Store (λ p. line.Instruction (Store p.0 p.1)) n (number_reads 65535 a (omega arith) h.0) (operand_reads s h.1) refl may
lines_read_back stage (line.Instruction (Exchange r a)) n fits may =
    two_line stage keyword.Exchange (λ p. line.Instruction (Exchange p.0 p.1)) n (register_reads r) (number_reads 65535 a (omega arith) fits) refl may
lines_read_back stage (line.Instruction Fence) n fits may = line_back stage keyword.Fence [] n (line.Instruction Fence) tt may refl
lines_read_back stage (line.Instruction Nop) n fits may = line_back stage keyword.Nop [] n (line.Instruction Nop) tt may refl
lines_read_back stage (line.Instruction (Set r s)) n fits may =
    two_line stage keyword.Set (λ p. line.Instruction (Set p.0 p.1)) n (register_reads r) (operand_reads s fits) refl may
lines_read_back stage (line.Instruction (Add r s)) n fits may =
    two_line stage keyword.Add (λ p. line.Instruction (Add p.0 p.1)) n (register_reads r) (operand_reads s fits) refl may
lines_read_back stage (line.Instruction (JumpNonzero r t)) n fits may =
    two_line stage keyword.JumpNonzero (λ p. line.Instruction (JumpNonzero p.0 p.1)) n (register_reads r) (number_reads 32 t (omega arith) fits) refl may
lines_read_back stage (line.Instruction (Jump t)) n fits may =
    let p = number_reads 32 t (omega arith) fits in
    line_back stage keyword.Jump (decimal t ∷ []) n (line.Instruction (Jump t)) (p.fine, tt) may (ap (said (λ t. line.Instruction (Jump t))) (one_back is_number (number_in 32) (decimal t) t p n))
