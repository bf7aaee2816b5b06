-- Bytes 10 before a place.
use Rattle.std.proofs.Common.{◌≡◌, ℕ, suc, ◌+◌, ◌-◌, ◌≤◌, true, cond, List, [], ◌∷◌, ◌++◌, length, take, drop, sym, refl, ap, ◌∙◌, arith, take-add}
use Rattle.std.proofs.lemmas.Bool.{and_parts, not-true}
use Rattle.std.proofs.lemmas.List.Sums.{sum_by-append, sum_by-cons}
use Rattle.fields.specs.Newlines.{newlines}
use Rattle.fields.specs.Pieces.{lacks, IsSplit}
use Rattle.fields.proofs.Cuts.{take_split}

pub newlines-append : (xs ys : List ℕ) → newlines (xs ++ ys) ≡ newlines xs + newlines ys
newlines-append xs ys = sum_by-append _ xs ys

-- in a part of the text
pub newlines_add : (n m : ℕ) (xs : List ℕ) → newlines (take (n + m) xs) ≡ newlines (take n xs) + newlines (take m (drop n xs))
newlines_add n m xs = ap newlines (take-add n m xs) ∙ newlines-append (take n xs) (take m (drop n xs))

-- between two places with the same count
pub newlines_between : (xs : List ℕ) (a k b : ℕ) → a ≤ k → k ≤ b → newlines (take b xs) ≡ newlines (take a xs) → newlines (take k xs) ≡ newlines (take a xs)
newlines_between xs a k b low high same =
    let m = newlines_add a (k - a) xs in
    let n = newlines_add k (b - k) xs in
    let e : a + (k - a) ≡ k = omega arith in
    let f : k + (b - k) ≡ b = omega arith in
    let p : newlines (take k xs) ≡ newlines (take a xs) + newlines (take (k - a) (drop a xs)) = sym (ap (λ t. newlines (take t xs)) e) ∙ m in
    let q : newlines (take b xs) ≡ newlines (take k xs) + newlines (take (b - k) (drop k xs)) = sym (ap (λ t. newlines (take t xs)) f) ∙ n in
    omega arith

newlines_none : (xs : List ℕ) → lacks 10 xs ≡ true → newlines xs ≡ 0
newlines_none [] h = refl
newlines_none (x ∷ xs) h =
    let p = and_parts _ _ h in
    sum_by-cons _ x xs ∙ (λ i. cond (not-true _ p.0 i) 1 0 + newlines_none xs p.1 i)

-- in a line, and past the line that begins at a place
pub newlines_line : (rest bytes after : List ℕ) → IsSplit 10 rest bytes after → newlines bytes ≡ 0
newlines_line rest bytes after s = newlines_none bytes s.first

pub newlines_past : (text : List ℕ) (at : ℕ) (bytes after : List ℕ) → IsSplit 10 (drop at text) bytes after → newlines (take (at + (length bytes + 1)) text) ≡ suc (newlines (take at text))
newlines_past text at bytes after s =
    let one : newlines (bytes ++ (10 ∷ [])) ≡ newlines bytes + 1 = newlines-append bytes (10 ∷ []) in
    let none = newlines_none bytes s.first in
    let front : newlines (take (length bytes + 1) (drop at text)) ≡ newlines (bytes ++ (10 ∷ [])) = ap newlines (take_split 10 (drop at text) bytes after s) in
    omega (arith, newlines_add at (length bytes + 1) text)
