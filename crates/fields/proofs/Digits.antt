-- A number's digits, and the number that they write.
use Rattle.std.proofs.Common.{◌≡◌, ℕ, ◌+◌, ◌-◌, ◌*◌, ◌<◌, ◌≤◌, Bool, true, false, ◌&&◌, eqb, List, [], ◌∷◌, length, get_or, drop, Some, None, decimal, sym, refl, ap, ⊎_elim, arith, rules}
use Rattle.std.specs.Char.{is_ascii_digit}
use Rattle.std.specs.List.{list_all}
use Rattle.std.specs.Str.{all_ascii_digits}
use Rattle.std.proofs.lemmas.List.{at_drop_more}
use Rattle.std.proofs.lemmas.List.Recursion.{same_from_clauses}
use Rattle.std.proofs.lemmas.Bool.{and_parts, lt-leb, le-leb, cond-true, cond-false, eqb-true, eq-eqb, cases_lt}
use Rattle.std.proofs.lemmas.Str.Parse.{IsNumeralModel, numerals_by_fold, tells_all_ascii_digits}
use Rattle.std.proofs.lemmas.Fmt.{digits_decimal, digits_value-decimal, decimal-digits_value, decimal_nonempty, first_decimal, decimal_digit}
use Rattle.fields.specs.Numbers.{WrittenReadsBack, ReadIsWritten, value_on, value_of, is_numeral, up_to}

-- what `all` answers of the digits
pub list_all-digits : (ds : List ℕ) → list_all is_ascii_digit ds ≡ all_ascii_digits ds
list_all-digits ds = same_from_clauses (list_all is_ascii_digit) all_ascii_digits (λ c b. is_ascii_digit c && b) refl (λ _ _. refl) (λ _ _. refl) ds

value_step : (n : ℕ) (ds : List ℕ) (i : ℕ) → i < length ds → value_on n (drop i ds) ≡ value_on (10 * n + (get_or ds i 0 - 48)) (drop (i + 1) ds)
value_step n ds i h = at_drop_more (value_on n) ds i 0 h

value_le : (n : ℕ) (ds : List ℕ) → n ≤ value_on n ds
value_le n [] = omega arith
value_le n (c ∷ cs) = omega (arith, value_le (10 * n + (c - 48)) cs)

-- past max, and so the whole number is
pub value_over : (max n total : ℕ) (ds : List ℕ) (i : ℕ) → i < length ds → value_on n (drop i ds) ≡ total → max < 10 * n + (get_or ds i 0 - 48) → max < total
value_over max n total ds i h e more = omega (arith, value_step n ds i h, value_le (10 * n + (get_or ds i 0 - 48)) (drop (i + 1) ds))

pub numeral_digits : (ds : List ℕ) → is_numeral ds ≡ true → all_ascii_digits ds ≡ true
numeral_digits [] e = refl
numeral_digits (c ∷ []) e = ap (λ b. b && true) e
numeral_digits (c ∷ (d ∷ ds)) e = (and_parts _ _ e).1

pub up_to_no : (max n : ℕ) → max < n → None ≡ up_to max n
up_to_no max n h = sym (cond-false _ _ _ (lt-leb n max h))

pub up_to_yes : (max n : ℕ) → n ≤ max → Some n ≡ up_to max n
up_to_yes max n h = sym (cond-true _ _ _ (le-leb n max h))

own : IsNumeralModel (λ ds. all_ascii_digits ds ≡ true) value_of
own = numerals_by_fold _ tells_all_ascii_digits value_on (search rules)

-- digits that do not begin with 0, or one digit
numeral_from : (ds : List ℕ) → all_ascii_digits ds ≡ true → 0 < length ds → (eqb (get_or ds 0 0) 48 ≡ true → length ds ≡ 1) → is_numeral ds ≡ true
numeral_from [] a s f = absurd (omega arith)
numeral_from (c ∷ []) a s f = (and_parts _ _ a).0
numeral_from (c ∷ (d ∷ ds)) a s f = grind (arith)

numeral_first : (ds : List ℕ) → is_numeral ds ≡ true → get_or ds 0 0 ≡ 48 → length ds ≡ 1
numeral_first [] e z = absurd (let b : ◌≡◌ {A = Bool} false true = e in grind arith)
numeral_first (c ∷ []) e z = refl
numeral_first (c ∷ (d ∷ ds)) e z = let k = eq-eqb c 48 z in grind (arith, and_parts)

numeral_some : (ds : List ℕ) → is_numeral ds ≡ true → 0 < length ds
numeral_some [] e = grind arith
numeral_some (c ∷ ds) e = omega arith

pub written_reads_back : WrittenReadsBack
written_reads_back n h = (
  numeral_from (decimal n) (digits_decimal own n h) (decimal_nonempty n h)
      (λ z. ⊎_elim (λ pos. absurd (omega (arith, first_decimal n pos h, eqb-true _ _ z))) (λ none. ap length (decimal_digit n (omega arith))) (cases_lt 0 n)),
  digits_value-decimal own n h,
)

pub read_is_written : ReadIsWritten
read_is_written ds e h = sym (decimal-digits_value own ds (numeral_digits ds e) (numeral_some ds e) (numeral_first ds e) h)
