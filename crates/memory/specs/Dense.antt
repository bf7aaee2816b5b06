-- A dense memory: the words of the addresses 0 to 255, and of no others.
use Rattle.std.specs.Prelude.{ℕ, if◌then◌else◌, List, Some, None, nat_lt, slice_index, slice_set}
use Rattle.memory.specs.Cells.{Cells}

-- what the words mean
abbrev pub dense_cells : List ℕ → Cells
dense_cells words a = if nat_lt a 256 then Some (slice_index words a) else None

-- the words after a write of w at a
abbrev pub dense_written : List ℕ → ℕ → ℕ → List ℕ
dense_written words a w = if nat_lt a 256 then slice_set words a w else words
