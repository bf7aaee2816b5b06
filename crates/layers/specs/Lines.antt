-- Four lines, and the memory below with its lines laid over it.
use Rattle.std.specs.Prelude.{◌≡◌, ℕ, ◌%◌, ◌<◌, if◌then◌else◌, List, replicate, Some, None, Option, ◌==◌, slice_index_or, slice_set}
use Rattle.memory.specs.Cells.{Cells, over}
use Rattle.memory.specs.Pairs.{cell}
use Rattle.memory.specs.declared.cell.Cell.{Cell}

abbrev pub Slots : Type 0
Slots = List (Option Cell)

abbrev pub empty_lines : Slots
empty_lines = replicate 4 None

-- the line that the address a uses
abbrev pub line_of : Slots → ℕ → Option Cell
line_of ls a = slice_index_or ls (a % 4) None

-- the word that a line has for the address a
abbrev pub word_in : Option Cell → ℕ → Option ℕ
word_in None a = None
word_in (Some l) a = if a == l.address then Some l.word else None

-- the lines after a took its line over, with the word w
abbrev pub lined : Slots → ℕ → ℕ → Slots
lined ls a w = slice_set ls (a % 4) (Some (cell a w))

-- what a line says of the address a, of which o is told below: it counts only where a is held below
abbrev pub upon : Option Cell → ℕ → Option ℕ → Option ℕ
upon None a o = o
upon (Some l) a o = if a == l.address then over o l.word else o

-- the memory below with the lines laid over it
abbrev pub laid : Cells → Slots → Cells
laid f ls a = upon (line_of ls a) a (f a)

-- the number of the line that a line's address uses, and i if it has none
abbrev pub home : ℕ → Option Cell → ℕ
home i None = i
home i (Some l) = l.address % 4

-- each line is empty or has an address that uses it
abbrev pub Placed : Slots → Type 0
Placed ls = (i : ℕ) → i < 4 → home i (slice_index_or ls i None) ≡ i
