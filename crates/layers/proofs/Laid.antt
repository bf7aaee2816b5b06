-- Lines that are taken over, and what the cells then are.
use Rattle.std.proofs.Common.{◌≡◌, ℕ, ◌%◌, ◌<◌, ◌≢◌, length, Some, None, Option, refl, ap, ◌∙◌, ⊎_elim, arith, get_or-set_other, get_or-set_same}
use mathlib.Core.Path.{fun_ext}
use Rattle.std.proofs.lemmas.Bool.{cases_eq}
use Rattle.memory.specs.Cells.{Cells, put}
use Rattle.memory.specs.Pairs.{cell}
use Rattle.memory.specs.declared.cell.Cell.{Cell}
use Rattle.layers.specs.Lines.{Placed, Slots, laid, lined, line_of, upon, word_in}

pub line_taken : (ls : Slots) (a w : ℕ) → length ls ≡ 4 → line_of (lined ls a w) a ≡ Some (cell a w)
line_taken ls a w four = let within : a % 4 < length ls = omega arith in rw get_or-set_same

pub placed_lined : (ls : Slots) (a w : ℕ) → length ls ≡ 4 → Placed ls → Placed (lined ls a w)
placed_lined ls a w four placed i h =
    let within : a % 4 < length ls = omega arith in
    ⊎_elim
    (λ (e : i ≡ a % 4). rw e (rw get_or-set_same))
    (λ (ne : i ≢ a % 4). rw get_or-set_other (placed i h))
    (cases_eq i (a % 4))

upon_miss : (l : Option Cell) (a : ℕ) (o : Option ℕ) → word_in l a ≡ None → upon l a o ≡ o
upon_miss None a o miss = refl
upon_miss (Some l) a o miss = grind arith

-- an address that is in no line has the word from below
pub laid_miss : (f : Cells) (ls : Slots) (a : ℕ) → word_in (line_of ls a) a ≡ None → laid f ls a ≡ f a
laid_miss f ls a miss = upon_miss (line_of ls a) a (f a) miss

-- nor has one a word that is not held below
upon_none : (l : Option Cell) (a : ℕ) → upon l a None ≡ None
upon_none None a = refl
upon_none (Some l) a = grind arith

pub laid_none : (f : Cells) (ls : Slots) (a : ℕ) → f a ≡ None → laid f ls a ≡ None
laid_none f ls a none = ap (upon (line_of ls a) a) none ∙ upon_none (line_of ls a) a

-- another word in the line that has a already
pub laid-lined : (f : Cells) (ls : Slots) (a v w : ℕ) → length ls ≡ 4 → line_of ls a ≡ Some (cell a v) → laid f (lined ls a w) ≡ put (laid f ls) a w
laid-lined f ls a v w four had = fun_ext at
  where
    at : (b : ℕ) → laid f (lined ls a w) b ≡ put (laid f ls) a w b
    at b =
        let within : a % 4 < length ls = omega arith in
        ⊎_elim
        (λ (e : b % 4 ≡ a % 4). rw (e, get_or-set_same, had) (grind arith))
        (λ (ne : b % 4 ≢ a % 4). rw get_or-set_other (grind arith))
        (cases_eq (b % 4) (a % 4))
