-- Lists of cells: what they mean, and which make no sparse memory.
use Rattle.std.specs.Prelude.{ℕ, Bool, false, if◌then◌else◌, ◌||◌, List, [], ◌∷◌, length, Some, None, Option, ◌==◌, find, nat_lt}
use Rattle.std.specs.List.{list_any}
use Rattle.std.specs.Option.{option_map}
use Rattle.memory.specs.Cells.{Cells}
use Rattle.memory.specs.declared.cell.Cell.{Cell}
use Rattle.memory.specs.declared.unfit.Unfit.{Unfit}
use Rattle.memory.specs.declared.unfit.Unfit.TheVariants.{TooMany, Twice}

abbrev pub cell : ℕ → ℕ → Cell
cell a w = record { address = a; word = w }

-- the word of the first cell of the address a
abbrev pub told : List Cell → Cells
told xs a = option_map (λ x. x.word) (find (λ x. x.address == a) xs)

-- does a cell of the address a stand among them
abbrev pub named : List Cell → ℕ → Bool
named xs a = list_any (λ x. x.address == a) xs

-- w as the word of the first cell of the address a, and nothing where there is none
abbrev pub rewritten : List Cell → ℕ → ℕ → List Cell
rewritten [] a w = []
rewritten (x ∷ xs) a w = if x.address == a then cell a w ∷ xs else x ∷ rewritten xs a w

-- does an address stand twice
abbrev pub twice : List Cell → Bool
twice [] = false
twice (x ∷ xs) = named xs x.address || twice xs

-- why they make no sparse memory: their number is asked first
abbrev pub unfit : List Cell → Option Unfit
unfit xs = if nat_lt 32 (length xs) then Some TooMany else if twice xs then Some Twice else None

abbrev pub unfit_number : Unfit → ℕ
unfit_number TooMany = 18
unfit_number Twice = 18
