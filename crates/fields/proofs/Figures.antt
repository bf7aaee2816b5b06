-- Steps of the loop that writes a number's digits.
use Rattle.std.proofs.Common.{◌≡◌, ℕ, ◌+◌, ◌-◌, ◌/◌, ◌%◌, ◌^◌, ◌<◌, ◌≤◌, List, [], ◌∷◌, ◌++◌, length, drop, set, decimal, sym, ap, ◌∙◌, append_assoc, arith, length-append}
use Rattle.std.proofs.lemmas.List.{drop-set}
use Rattle.std.proofs.lemmas.Fmt.{decimal_digit, decimal_step}

-- a byte put right before what stands from `at` on
pub drop-set_before : (xs : List ℕ) (at x : ℕ) → 0 < at → at ≤ length xs → drop (at - 1) (set xs (at - 1) x) ≡ x ∷ drop at xs
drop-set_before xs at x some low =
    let e : at - 1 + 1 ≡ at = omega arith in
    drop-set xs (at - 1) x (omega arith) ∙ ap (λ n. x ∷ drop n xs) e

pub last_figure : (rest start : ℕ) (digits : List ℕ) (n : ℕ) → rest < 10 → length (decimal rest) ≤ start → start ≤ length digits → decimal rest ++ drop start digits ≡ decimal n → drop (start - 1) (set digits (start - 1) (48 + rest)) ≡ decimal n
last_figure rest start digits n small fits low is =
    let one = decimal_digit rest small in
    let len : length (decimal rest) ≡ 1 = ap length one in
    drop-set_before digits start (48 + rest) (omega arith) low ∙ sym (ap (λ ds. ds ++ drop start digits) one) ∙ is

pub more_figures : (rest start : ℕ) (digits : List ℕ) (n : ℕ) → 10 ≤ rest → rest < 2 ^ 32 → length (decimal rest) ≤ start → start ≤ length digits → decimal rest ++ drop start digits ≡ decimal n → (decimal (rest / 10) ++ drop (start - 1) (set digits (start - 1) (48 + rest % 10)) ≡ decimal n) × (length (decimal (rest / 10)) ≤ start - 1) × (rest / 10 < 2 ^ 32)
more_figures rest start digits n big small fits low is =
    let step = decimal_step rest big (omega arith) in
    let len : length (decimal rest) ≡ length (decimal (rest / 10)) + 1 = ap length step ∙ length-append (decimal (rest / 10)) ((48 + rest % 10) ∷ []) in (
      ap (λ ds. decimal (rest / 10) ++ ds) (drop-set_before digits start (48 + rest % 10) (omega arith) low) ∙ sym (append_assoc (decimal (rest / 10)) ((48 + rest % 10) ∷ []) (drop start digits)) ∙ sym (ap (λ ds. ds ++ drop start digits) step) ∙ is,
      omega arith,
      omega arith,
    )
