-- The cells of a memory, and a write to them.
use Rattle.std.specs.Prelude.{ℕ, if◌then◌else◌, Some, None, Option, ◌==◌}

-- What a memory means: for each address the word that it holds there, or none where the address is not held.
abbrev pub Cells : Type 0
Cells = ℕ → Option ℕ

-- the word w in the place of the one that is held, and nothing where none is
abbrev pub over : Option ℕ → ℕ → Option ℕ
over None w = None
over (Some v) w = Some w

-- the cells after a write of w at a: all others are as they were, and so is a if it is not held
abbrev pub put : Cells → ℕ → ℕ → Cells
put f a w b = if b == a then over (f b) w else f b
