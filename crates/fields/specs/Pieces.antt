-- A text cut at each separator, and put together again.
use Rattle.std.specs.Prelude.{◌≡◌, ℕ, Bool, true, not, List, ◌∷◌, ◌++◌, Some, None, Option, ◌==◌}
use Rattle.std.specs.Borrow.{Bor}
use Rattle.std.specs.List.{list_all, slice_split, join_with_byte}

-- the pieces between the separators: one more than there are separators
abbrev pub pieces : ℕ → List ℕ → List (List ℕ)
pieces sep text = slice_split (λ c. c == sep) text

-- whether a byte is none of the separators
abbrev pub other : ℕ → ℕ → Bool
other sep c = not (c == sep)

-- the pieces with the separator between them
abbrev pub joined_by : ℕ → List (List ℕ) → List ℕ
joined_by sep fs = join_with_byte sep fs

-- whether no byte is the separator
abbrev pub lacks : ℕ → List ℕ → Bool
lacks sep text = list_all (other sep) text

-- the first separator of a text, with the bytes before it and after it
pub record IsSplit (sep : ℕ) (text before after : List ℕ) : Type 0 where
  pub whole : text ≡ before ++ (sep ∷ after)
  pub first : lacks sep before ≡ true

-- the answer to a cut at the first separator
abbrev pub SplitOnce : ℕ → List ℕ → Option (Bor (List ℕ) × Bor (List ℕ)) → Type 0
SplitOnce sep text None = lacks sep text ≡ true
SplitOnce sep text (Some p) = IsSplit sep text p.0.now p.1.now
