-- A number: decimal digits, with no leading zero but for 0 itself.
use Rattle.std.specs.Prelude.{◌≡◌, ℕ, ◌+◌, ◌-◌, ◌*◌, ◌^◌, ◌<◌, Bool, true, false, if◌then◌else◌, not, ◌&&◌, List, [], ◌∷◌, Some, None, decimal, Option, ◌==◌, nat_le}
use Rattle.std.specs.Char.{is_ascii_digit}
use Rattle.std.specs.List.{fold}
use Rattle.std.specs.Str.{all_ascii_digits}

-- the number that digits write after the number n
abbrev pub value_on : ℕ → List ℕ → ℕ
value_on n ds = fold (λ m c. 10 * m + (c - 48)) n ds

abbrev pub value_of : List ℕ → ℕ
value_of ds = value_on 0 ds

abbrev pub is_numeral : List ℕ → Bool
is_numeral [] = false
is_numeral (c ∷ []) = is_ascii_digit c
is_numeral (c ∷ (d ∷ ds)) = not (c == 48) && all_ascii_digits (c ∷ (d ∷ ds))

-- n, where it is at most max
abbrev pub up_to : ℕ → ℕ → Option ℕ
up_to max n = if nat_le n max then Some n else None

-- what is written of a number is a number field, and reads as that number
abbrev pub WrittenReadsBack : Type 0
WrittenReadsBack = (n : ℕ) → n < 2 ^ 64 → (is_numeral (decimal n) ≡ true) × (value_of (decimal n) ≡ n)

-- a number field is what is written of its value
abbrev pub ReadIsWritten : Type 0
ReadIsWritten = (ds : List ℕ) → is_numeral ds ≡ true → value_of ds < 2 ^ 64 → ds ≡ decimal (value_of ds)
