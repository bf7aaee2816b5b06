-- A line that says something is what is written of it.
use Rattle.std.proofs.Common.{◌≡◌, ℕ, ◌^◌, ◌<◌, Bool, true, false, cond, ◌&&◌, leb, List, [], ◌∷◌, map, Some, None, Ok, Err, decimal, Option, Result, sym, refl, ap, ◌∙◌, subst, arith}
use Rattle.std.specs.Option.{option_map}
use Rattle.std.specs.List.{find}
use Rattle.std.specs.Str.{bytes_eq}
use Rattle.std.proofs.lemmas.Slice.Eq.{bytes_eq-Decides}
use Rattle.std.proofs.lemmas.Bool.{and_from, leb-true}
use Rattle.std.proofs.lemmas.Option.{cond_some}
use Rattle.std.proofs.lemmas.Bool.Decides.{nat_tests}
use Rattle.fields.specs.declared.registers.Register.{Register}
use Rattle.fields.specs.declared.registers.Register.TheVariants.{A, B, C, D}
use Rattle.fields.specs.Numbers.{is_numeral, value_of, up_to}
use Rattle.fields.specs.Pieces.{pieces, joined_by}
use Rattle.fields.specs.Registers.{letter_of, by_letter, register_of}
use Rattle.fields.specs.Tokens.{Seen, word, number, seen_of, seen_by}
use Rattle.fields.proofs.Digits.{read_is_written}
use Rattle.instructions.specs.Arguments.{given_by, needed, of_none, of_one, of_two, register_in, number_in, operand_in, is_register, is_number, is_operand}
use Rattle.instructions.specs.Keywords.{spelled, every_keyword, may_stand}
use Rattle.instructions.specs.Lines.{fields_say, line_by, said, said_by, here, keyword_here}
use Rattle.instructions.specs.Texts.{line_fields, register_text, operand_text}
use Rattle.instructions.specs.declared.faults.LineFault.{LineFault}
use Rattle.instructions.specs.declared.keyword.Keyword.{Keyword}
use Rattle.instructions.specs.declared.keyword.Keyword.TheVariants as keyword
use Rattle.instructions.specs.declared.types.Instruction.TheVariants.{Load, Store, Exchange, Fence, Nop, Set, Add, JumpNonzero, Jump}
use Rattle.instructions.specs.declared.types.Line.{Line}
use Rattle.instructions.specs.declared.types.Line.TheVariants as line
use Rattle.instructions.specs.declared.types.Operand.{Operand}
use Rattle.instructions.specs.declared.types.Operand.TheVariants as operand
use Rattle.instructions.specs.declared.types.Stage.{Stage}
use Rattle.grammar.specs.Grammar.{LinesReadAsWritten, line_fits, word_of}
use Rattle.grammar.specs.Listings.{operand_fits}
use Rattle.std.proofs.lemmas.List.Splits.{join_with_byte-slice_split}
use Rattle.grammar.proofs.LineLists.{cond_ok}

-- registers
letter_inv : (b : ℕ) (r : Register) → by_letter b ≡ Some r → b ≡ letter_of r
letter_inv b A e = grind (arith, nat_tests)
letter_inv b B e = grind (arith, nat_tests)
letter_inv b C e = grind (arith, nat_tests)
letter_inv b D e = grind (arith, nat_tests)

register_inv : (f : List ℕ) (r : Register) → register_of f ≡ Some r → f ≡ register_text r
register_inv [] r e = cc
register_inv (b ∷ []) r e = ap (λ x. x ∷ []) (letter_inv b r e)
register_inv (b ∷ (c ∷ bs)) r e = cc

no_register : (b : Bool) (f : List ℕ) (r : Register) → register_in (cond b (number f) (word f)) ≡ Some r → ⊥
no_register true f r e = cc
no_register false f r e = cc

register_at : (o : Option Register) (f : List ℕ) (r : Register) → register_in (seen_by o f) ≡ Some r → o ≡ Some r
register_at (Some q) f r e = e
register_at None f r e = absurd (no_register (is_numeral f) f r e)

register_only : (f : List ℕ) (r : Register) → register_in (seen_of f) ≡ Some r → f ≡ register_text r
register_only f r e = register_inv f r (register_at (register_of f) f r e)

-- numbers within their range
abbrev NumberOnly : List ℕ → ℕ → ℕ → Type 0
NumberOnly f max v = (f ≡ decimal v) × (leb v max ≡ true)

up_to_only : (f : List ℕ) (max v : ℕ) → max < 2 ^ 64 → is_numeral f ≡ true → up_to max (value_of f) ≡ Some v → NumberOnly f max v
up_to_only f max v small t e =
    let p = cond_some (leb (value_of f) max) (value_of f) v e in
    let k = leb-true _ _ p.0 in
    subst (NumberOnly f max) p.1 (read_is_written f t (omega arith), p.0)

number_at : (b : Bool) (f : List ℕ) (max v : ℕ) → max < 2 ^ 64 → is_numeral f ≡ b → number_in max (cond b (number f) (word f)) ≡ Some v → NumberOnly f max v
number_at true f max v small t e = up_to_only f max v small t e
number_at false f max v small t e = cc

number_by : (o : Option Register) (f : List ℕ) (max v : ℕ) → max < 2 ^ 64 → number_in max (seen_by o f) ≡ Some v → NumberOnly f max v
number_by (Some q) f max v small e = cc
number_by None f max v small e = number_at (is_numeral f) f max v small refl e

number_only : (f : List ℕ) (max v : ℕ) → max < 2 ^ 64 → number_in max (seen_of f) ≡ Some v → NumberOnly f max v
number_only f max v small e = number_by (register_of f) f max v small e

-- operands
abbrev OperandOnly : List ℕ → Operand → Type 0
OperandOnly f s = (f ≡ operand_text s) × (operand_fits s ≡ true)

constant_from : (o : Option ℕ) (f : List ℕ) (s : Operand) → ((v : ℕ) → o ≡ Some v → NumberOnly f 4294967295 v) → option_map operand.Constant o ≡ Some s → OperandOnly f s
constant_from None f s only e = cc
constant_from (Some v) f s only e = let same : operand.Constant v ≡ s = cc in subst (OperandOnly f) same (only v refl)

constant_at : (b : Bool) (f : List ℕ) (s : Operand) → is_numeral f ≡ b → operand_in (cond b (number f) (word f)) ≡ Some s → OperandOnly f s
constant_at true f s t e = constant_from (up_to 4294967295 (value_of f)) f s (λ v. up_to_only f 4294967295 v (omega arith) t) e
constant_at false f s t e = cc

operand_by : (o : Option Register) (f : List ℕ) (s : Operand) → register_of f ≡ o → operand_in (seen_by o f) ≡ Some s → OperandOnly f s
operand_by (Some r) f s t e = let same : operand.Register r ≡ s = cc in subst (OperandOnly f) same (register_inv f r t, refl)
operand_by None f s t e = constant_at (is_numeral f) f s refl e

operand_only : (f : List ℕ) (s : Operand) → operand_in (seen_of f) ≡ Some s → OperandOnly f s
operand_only f s e = operand_by (register_of f) f s refl e

-- words
abbrev keyword_in : List Keyword → List ℕ → Option Keyword
keyword_in ks bs = find (λ k. bytes_eq bs (spelled k)) ks

word_from : (b : Bool) (j k : Keyword) (ks : List Keyword) (bs : List ℕ) → bytes_eq bs (spelled j) ≡ b → (keyword_in ks bs ≡ Some k → bs ≡ spelled k) → cond b (Some j) (keyword_in ks bs) ≡ Some k → bs ≡ spelled k
word_from true j k ks bs t more e = let same : j ≡ k = cc in (bytes_eq-Decides bs (spelled j)).0 t ∙ ap spelled same
word_from false j k ks bs t more e = more e

word_in : (ks : List Keyword) (bs : List ℕ) (k : Keyword) → keyword_in ks bs ≡ Some k → bs ≡ spelled k
word_in [] bs k e = cc
word_in (j ∷ ks) bs k e = word_from (bytes_eq bs (spelled j)) j k ks bs refl (word_in ks bs k) e

abbrev WordOnly : Stage → List ℕ → Keyword → Type 0
WordOnly stage f k = (f ≡ spelled k) × (may_stand stage k ≡ true)

here_only : (o : Option Keyword) (stage : Stage) (f : List ℕ) (k : Keyword) → keyword_in every_keyword f ≡ o → here stage o ≡ Some k → WordOnly stage f k
here_only None stage f k t e = cc
here_only (Some j) stage f k t e =
    let p = cond_some (may_stand stage j) j k e in
    (word_in every_keyword f j t ∙ ap spelled p.1, subst (λ k. may_stand stage k ≡ true) p.1 p.0)

word_at : (b : Bool) (stage : Stage) (f : List ℕ) (k : Keyword) → keyword_here stage (cond b (number f) (word f)) ≡ Some k → WordOnly stage f k
word_at true stage f k e = cc
word_at false stage f k e = here_only (keyword_in every_keyword f) stage f k refl e

word_by : (o : Option Register) (stage : Stage) (f : List ℕ) (k : Keyword) → keyword_here stage (seen_by o f) ≡ Some k → WordOnly stage f k
word_by (Some r) stage f k e = cc
word_by None stage f k e = word_at (is_numeral f) stage f k e

-- lists of arguments
needed_inv : {X Y : Type 0} (o : Option X) (d : LineFault) (f : X → Result Y LineFault) (y : Y) → needed o d f ≡ Ok y → (x : X) × (o ≡ Some x) × (f x ≡ Ok y)
needed_inv None d f y h = cc
needed_inv (Some x) d f y h = (x, refl, h)

said_inv : {X : Type 0} (make : X → Line) (r : Result X LineFault) (l : Line) → said make r ≡ Ok l → (x : X) × (r ≡ Ok x) × (make x ≡ l)
said_inv make (Ok x) l e = (x, refl, cc)
said_inv make (Err d) l e = cc

ok_same : {X : Type 0} (x y : X) → ◌≡◌ {A = Result X LineFault} (Ok x) (Ok y) → x ≡ y
ok_same x y e = cc

none_inv : (fs : List (List ℕ)) (n : ℕ) (u : Unit {0}) → of_none (given_by (map seen_of fs)) n ≡ Ok u → fs ≡ []
none_inv [] n u e = refl
none_inv (f ∷ []) n u e = cc
none_inv (f ∷ (g ∷ [])) n u e = cc
none_inv (f ∷ (g ∷ (h ∷ hs))) n u e = cc

record OneField {A : Type 0} (value : Seen → Option A) (fs : List (List ℕ)) (x : A) : Type 0 where
  field-0 : List ℕ
  cut : fs ≡ field-0 ∷ []
  is-0 : value (seen_of field-0) ≡ Some x

one_inv : {A : Type 0} (kind : Seen → Bool) (value : Seen → Option A) (fs : List (List ℕ)) (n : ℕ) (x : A) → of_one kind value (given_by (map seen_of fs)) n ≡ Ok x → OneField value fs x
one_inv kind value [] n x e = cc
one_inv kind value (f ∷ []) n x e =
    let p = needed_inv (value (seen_of f)) _ _ x (cond_ok (kind (seen_of f)) _ _ x e).1 in
    record { field-0 = f; cut = refl; is-0 = p.1 ∙ ap Some (ok_same _ x p.2) }
one_inv kind value (f ∷ (g ∷ [])) n x e = cc
one_inv kind value (f ∷ (g ∷ (h ∷ hs))) n x e = cc

record TwoFields {A B : Type 0} (value : Seen → Option A) (value' : Seen → Option B) (fs : List (List ℕ)) (p : A × B) : Type 0 where
  field-0 : List ℕ
  field-1 : List ℕ
  cut : fs ≡ field-0 ∷ (field-1 ∷ [])
  is-0 : value (seen_of field-0) ≡ Some p.0
  is-1 : value' (seen_of field-1) ≡ Some p.1

two_inv : {A B : Type 0} (kind : Seen → Bool) (value : Seen → Option A) (kind' : Seen → Bool) (value' : Seen → Option B) (fs : List (List ℕ)) (n : ℕ) (p : A × B) → of_two kind value kind' value' (given_by (map seen_of fs)) n ≡ Ok p → TwoFields value value' fs p
two_inv kind value kind' value' [] n p e = cc
two_inv kind value kind' value' (f ∷ []) n p e = cc
two_inv kind value kind' value' (f ∷ (g ∷ [])) n p e =
    let s = needed_inv (value (seen_of f)) _ _ p (cond_ok (kind (seen_of f) && kind' (seen_of g)) _ _ p e).1 in
    let t = needed_inv (value' (seen_of g)) _ _ p s.2 in
    let same = ok_same _ p t.2 in
    record { field-0 = f; field-1 = g; cut = refl; is-0 = s.1 ∙ ap (λ p. Some p.0) same; is-1 = t.1 ∙ ap (λ p. Some p.1) same }
two_inv kind value kind' value' (f ∷ (g ∷ (h ∷ hs))) n p e = cc

-- lines
abbrev Only : Keyword → List (List ℕ) → Line → Type 0
Only k fs l = (spelled k ∷ fs ≡ line_fields l) × ((line_fits l ≡ true) × (word_of l ≡ k))

none_only : (k : Keyword) (m : Line) (fs : List (List ℕ)) (n : ℕ) (l : Line) → Only k [] m → said (λ _. m) (of_none (given_by (map seen_of fs)) n) ≡ Ok l → Only k fs l
none_only k m fs n l only e =
    let s = said_inv (λ _. m) (of_none (given_by (map seen_of fs)) n) l e in
    subst (Only k fs) s.2 (subst (λ fs. Only k fs m) (sym (none_inv fs n s.0 s.1)) only)

one_only : {A : Type 0} (k : Keyword) (make : A → Line) (kind : Seen → Bool) (value : Seen → Option A) (fs : List (List ℕ)) (n : ℕ) (l : Line) → ((f : List ℕ) (x : A) → value (seen_of f) ≡ Some x → Only k (f ∷ []) (make x)) → said make (of_one kind value (given_by (map seen_of fs)) n) ≡ Ok l → Only k fs l
one_only k make kind value fs n l only e =
    let s = said_inv make (of_one kind value (given_by (map seen_of fs)) n) l e in
    let t = one_inv kind value fs n s.0 s.1 in
    subst (Only k fs) s.2 (subst (λ fs. Only k fs (make s.0)) (sym t.cut) (only t.field-0 s.0 t.is-0))

two_only : {A B : Type 0} (k : Keyword) (make : A × B → Line) (kind : Seen → Bool) (value : Seen → Option A) (kind' : Seen → Bool) (value' : Seen → Option B) (fs : List (List ℕ)) (n : ℕ) (l : Line) → ((f g : List ℕ) (p : A × B) → value (seen_of f) ≡ Some p.0 → value' (seen_of g) ≡ Some p.1 → Only k (f ∷ (g ∷ [])) (make p)) → said make (of_two kind value kind' value' (given_by (map seen_of fs)) n) ≡ Ok l → Only k fs l
two_only k make kind value kind' value' fs n l only e =
    let s = said_inv make (of_two kind value kind' value' (given_by (map seen_of fs)) n) l e in
    let t = two_inv kind value kind' value' fs n s.0 s.1 in
    subst (Only k fs) s.2 (subst (λ fs. Only k fs (make s.0)) (sym t.cut) (only t.field-0 t.field-1 s.0 t.is-0 t.is-1))

two_same : (k : Keyword) {f f' g g' : List ℕ} → f ≡ f' → g ≡ g' → spelled k ∷ (f ∷ (g ∷ [])) ≡ spelled k ∷ (f' ∷ (g' ∷ []))
two_same k p q = λ i. spelled k ∷ (p i ∷ (q i ∷ []))

line_only : (k : Keyword) (fs : List (List ℕ)) (n : ℕ) (l : Line) → line_by k (given_by (map seen_of fs)) n ≡ Ok l → Only k fs l
line_only keyword.Init fs n l e =
    two_only keyword.Init (λ p. line.Init (record { address = p.0; value = p.1 })) is_number (number_in 65535) is_number (number_in 4294967295) fs n l
    (λ f g p a b. let s = number_only f 65535 p.0 (omega arith) a in let t = number_only g 4294967295 p.1 (omega arith) b in (two_same keyword.Init s.0 t.0, (and_from _ _ s.1 t.1, refl))) e
line_only keyword.Party fs n l e = none_only keyword.Party line.Party fs n l (refl, (refl, refl)) e
line_only keyword.End fs n l e = none_only keyword.End line.End fs n l (refl, (refl, refl)) e
line_only keyword.Load fs n l e =
    two_only keyword.Load (λ p. line.Instruction (Load p.0 p.1)) is_register register_in is_number (number_in 65535) fs n l
    (λ f g p a b. let t = number_only g 65535 p.1 (omega arith) b in (two_same keyword.Load (register_only f p.0 a) t.0, (t.1, refl))) e
line_only keyword.Store fs n l e =
    two_only keyword.Store (λ p. line.Instruction (Store p.0 p.1)) is_number (number_in 65535) is_operand operand_in fs n l
    (λ f g p a b. let s = number_only f 65535 p.0 (omega arith) a in let t = operand_only g p.1 b in (two_same keyword.Store s.0 t.0, (and_from _ _ s.1 t.1, refl))) e
line_only keyword.Exchange fs n l e =
    two_only keyword.Exchange (λ p. line.Instruction (Exchange p.0 p.1)) is_register register_in is_number (number_in 65535) fs n l
    (λ f g p a b. let t = number_only g 65535 p.1 (omega arith) b in (two_same keyword.Exchange (register_only f p.0 a) t.0, (t.1, refl))) e
line_only keyword.Fence fs n l e = none_only keyword.Fence (line.Instruction Fence) fs n l (refl, (refl, refl)) e
line_only keyword.Nop fs n l e = none_only keyword.Nop (line.Instruction Nop) fs n l (refl, (refl, refl)) e
line_only keyword.Set fs n l e =
    two_only keyword.Set (λ p. line.Instruction (Set p.0 p.1)) is_register register_in is_operand operand_in fs n l
    (λ f g p a b. let t = operand_only g p.1 b in (two_same keyword.Set (register_only f p.0 a) t.0, (t.1, refl))) e
line_only keyword.Add fs n l e =
    two_only keyword.Add (λ p. line.Instruction (Add p.0 p.1)) is_register register_in is_operand operand_in fs n l
    (λ f g p a b. let t = operand_only g p.1 b in (two_same keyword.Add (register_only f p.0 a) t.0, (t.1, refl))) e
line_only keyword.JumpNonzero fs n l e =
    two_only keyword.JumpNonzero (λ p. line.Instruction (JumpNonzero p.0 p.1)) is_register register_in is_number (number_in 32) fs n l
    (λ f g p a b. let t = number_only g 32 p.1 (omega arith) b in (two_same keyword.JumpNonzero (register_only f p.0 a) t.0, (t.1, refl))) e
line_only keyword.Jump fs n l e =
    one_only keyword.Jump (λ t. line.Instruction (Jump t)) is_number (number_in 32) fs n l
    (λ f x a. let t = number_only f 32 x (omega arith) a in ((λ i. spelled keyword.Jump ∷ (t.0 i ∷ [])), (t.1, refl))) e

abbrev Written : Stage → List (List ℕ) → Line → Type 0
Written stage fs l = (fs ≡ line_fields l) × ((line_fits l ≡ true) × (may_stand stage (word_of l) ≡ true))

said_only : (o : Option Keyword) (stage : Stage) (f : List ℕ) (fs : List (List ℕ)) (n : ℕ) (l : Line) → ((k : Keyword) → o ≡ Some k → WordOnly stage f k) → said_by o (given_by (map seen_of fs)) n ≡ Ok l → Written stage (f ∷ fs) l
said_only None stage f fs n l only e = cc
said_only (Some k) stage f fs n l only e =
    let w = only k refl in
    let p = line_only k fs n l e in
    (ap (λ f. f ∷ fs) w.0 ∙ p.0, (p.1.0, ap (may_stand stage) p.1.1 ∙ w.1))

fields_only : (fs : List (List ℕ)) (stage : Stage) (n : ℕ) (l : Line) → fields_say stage fs n ≡ Ok l → Written stage fs l
fields_only [] stage n l e = cc
fields_only (f ∷ fs) stage n l e = said_only (keyword_here stage (seen_of f)) stage f fs n l (word_by (register_of f) stage f) e

pub lines_read_as_written : LinesReadAsWritten
lines_read_as_written stage bs n l e =
    let p = fields_only (pieces 32 bs) stage n l e in
    (sym (join_with_byte-slice_split 32 bs) ∙ ap (joined_by 32) p.0, p.1)
