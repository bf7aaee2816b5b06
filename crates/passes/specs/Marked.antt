-- Lists of marks, one for each position.
use Rattle.std.specs.Prelude.{ℕ, Bool, true, List, slice_index_or}
use Rattle.routine.specs.Thins.{marked}
use Rattle.paths.specs.Paths.{Code}
use Rattle.paths.specs.Marks.{ForwardMarks}

-- past the list each position is marked, since at the end a write shows
abbrev pub exposed_marks : List Bool → ℕ → Bool
exposed_marks m k = slice_index_or m k true

-- d marks what is dirty: beside it there are marks of what is reached
abbrev pub DirtyMarks : Code → List Bool → Type 0
DirtyMarks c d = (r : ℕ → Bool) × ForwardMarks c r (marked d)
