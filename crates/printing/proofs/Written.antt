-- Texts written one after another.
use Rattle.std.proofs.Common.{◌≡◌, ℕ, suc, ◌+◌, ◌≤◌, List, [], ◌∷◌, ◌++◌, length, drop, set, sym, ap, ◌∙◌, add-zero, zero-add, arith}
pub use Rattle.std.proofs.Common.{append_assoc, length-append}
use lib.Seq.{sets, sets-eq}
pub use Rattle.std.proofs.lemmas.List.Folds.{length-flat_map-take}

-- two texts at once
pub sets-append : (l : List ℕ) (i : ℕ) (xs ys : List ℕ) → sets l i (xs ++ ys) ≡ sets (sets l i xs) (i + length xs) ys
sets-append l i [] ys = ap (λ n. sets l n ys) (sym (add-zero i))
sets-append l i (x ∷ xs) ys =
    let e : suc i + length xs ≡ i + length (x ∷ xs) = omega arith in
    sets-append (set l i x) (suc i) xs ys ∙ ap (λ n. sets (sets (set l i x) (suc i) xs) n ys) e

-- a text that the buffer has room for
pub sets_whole : (text out : List ℕ) → length text ≤ length out → sets out 0 text ≡ text ++ drop (length text) out
sets_whole text out h = sets-eq text out 0 (omega arith) ∙ ap (λ k. text ++ drop k out) (zero-add (length text))

-- writes one after another
pub ruleset in_turn = (sets-append, length-append, append_assoc, length-flat_map-take)
