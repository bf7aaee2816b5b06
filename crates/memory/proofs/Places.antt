-- What a search for an address among cells says of the memory, and what a write to the cell found leaves.
use Rattle.std.proofs.Common.{◌≡◌, ℕ, zero, suc, true, ◌∙◌, ap, Bool, ltb, List, [], ◌∷◌, length, get_or, set, is_some, Some, None, sym, refl, arith}
use mathlib.Core.Path.{fun_ext}
use Rattle.std.specs.List.{position, position_or_len}
use Rattle.std.proofs.lemmas.List.Quantifiers.{position-Some}
use Rattle.std.proofs.lemmas.Grind.{common_steps}
use Rattle.memory.specs.Cells.{put}
use Rattle.memory.specs.Pairs.{cell, told, named, rewritten, twice}
use Rattle.memory.specs.declared.cell.Cell.{Cell}
use Rattle.std.specs.Prelude.{◌==◌}

-- does the cell have the address a
abbrev pub has : ℕ → Cell → Bool
has a x = x.address == a

-- the addresses that have a word are those of the cells
pub told_named : (xs : List Cell) (a : ℕ) → is_some (told xs a) ≡ named xs a
told_named [] a = refl
told_named (x ∷ xs) a = let more = told_named xs a in grind arith

-- an address has a word where the search for it ends before the end
told-position : (xs : List Cell) (a : ℕ) → is_some (told xs a) ≡ ltb (position_or_len (has a) xs) (length xs)
told-position [] a = refl
told-position (x ∷ xs) a = let more = told-position xs a in grind (arith, common_steps)

-- what is rewritten is the cell at which the search ends, and nothing at the end
rewritten-position : (xs : List Cell) (a w : ℕ) → rewritten xs a w ≡ set xs (position_or_len (has a) xs) (cell a w)
rewritten-position [] a w = grind arith
rewritten-position (x ∷ xs) a w = let more = rewritten-position xs a w in grind (arith, common_steps)

-- the cells then mean what a write makes of what they meant
told-rewritten_at : (xs : List Cell) (a w b : ℕ) → told (rewritten xs a w) b ≡ put (told xs) a w b
told-rewritten_at [] a w b = grind arith
told-rewritten_at (y ∷ ys) a w b = let more = told-rewritten_at ys a w b in grind arith

pub told-rewritten : (xs : List Cell) (a w : ℕ) → told (rewritten xs a w) ≡ put (told xs) a w
told-rewritten xs a w = fun_ext (told-rewritten_at xs a w)

-- a cell of the same address in the place of one
named-set : (xs : List Cell) (i : ℕ) (y : Cell) (w b : ℕ) → y ≡ get_or xs i y → named (set xs i (cell y.address w)) b ≡ named xs b
named-set [] i y w b here = grind (arith, common_steps)
named-set (x ∷ xs) zero y w b here = grind (arith, common_steps)
named-set (x ∷ xs) (suc i) y w b here = let more = named-set xs i y w b here in grind (arith, common_steps)

pub twice_set : (xs : List Cell) (i : ℕ) (y : Cell) (w : ℕ) → y ≡ get_or xs i y → twice (set xs i (cell y.address w)) ≡ twice xs
twice_set [] i y w here = grind (arith, common_steps)
twice_set (x ∷ xs) zero y w here = grind (arith, common_steps)
twice_set (x ∷ xs) (suc i) y w here =
    let more = twice_set xs i y w here in
    let same = named-set xs i y w x.address here in
    grind (arith, common_steps)

-- no cell has the address a

pub told_nowhere : (xs : List Cell) (a : ℕ) → None ≡ position (has a) xs → told xs a ≡ None
told_nowhere xs a none = let held = told-position xs a in grind (arith, common_steps)

pub rewritten_nowhere : (xs : List Cell) (a w : ℕ) → None ≡ position (has a) xs → rewritten xs a w ≡ xs
rewritten_nowhere xs a w none = let same = rewritten-position xs a w in grind (arith, common_steps)

pub put_nowhere : (xs : List Cell) (a w : ℕ) → None ≡ position (has a) xs → put (told xs) a w ≡ told xs
put_nowhere xs a w none = sym (told-rewritten xs a w) ∙ ap told (rewritten_nowhere xs a w none)

-- the cell y at place i is the first of the address a

pub told_at : (xs : List Cell) (a i : ℕ) → Some i ≡ position (has a) xs → is_some (told xs a) ≡ true
told_at xs a i found = let held = told-position xs a in grind (arith, common_steps)

pub rewritten_at : (xs : List Cell) (a w i : ℕ) (y : Cell) → Some i ≡ position (has a) xs → y ≡ get_or xs i y → rewritten xs a w ≡ set xs i (cell y.address w)
rewritten_at xs a w i y found here =
    let same = rewritten-position xs a w in
    let at = position-Some (has a) xs i y (sym found) in
    let address : y.address ≡ a = grind (arith, common_steps) in
    grind (arith, common_steps)

pub put_at : (xs : List Cell) (a w i : ℕ) (y : Cell) → position (has a) xs ≡ Some i → y ≡ get_or xs i y → told (set xs i (cell y.address w)) ≡ put (told xs) a w
put_at xs a w i y found here = sym (ap told (rewritten_at xs a w i y (sym found) here)) ∙ told-rewritten xs a w

-- what the check of a write cites
pub ruleset writes = (told_nowhere, rewritten_nowhere, put_nowhere, told_at, rewritten_at, twice_set)
