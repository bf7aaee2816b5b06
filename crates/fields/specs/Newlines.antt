-- How many bytes 10 a text has: a place's line is one more than those before it.
use Rattle.std.specs.Prelude.{ℕ, List, count_by, ◌==◌}

abbrev pub newlines : List ℕ → ℕ
newlines text = count_by (λ c. c == 10) text
