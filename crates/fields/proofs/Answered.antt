-- Pieces of what is left of a text.
use Rattle.std.proofs.Common.{ap, ◌≡◌, ℕ, true, eqb, List, [], ◌∷◌, length, refl, arith}
use Rattle.std.proofs.lemmas.List.Splits.{length-slice_split}
use Rattle.fields.specs.Lines.{some}
use Rattle.fields.specs.Pieces.{pieces, lacks, IsSplit}
use Rattle.fields.proofs.Cuts.{pieces_one, pieces-split}

-- there is always a piece
pub pieces-some : (sep : ℕ) (cs : List ℕ) → pieces sep cs ≡ [] → ⊥
pieces-some sep cs e = omega (arith, length-slice_split (λ c. eqb c sep) cs, ap length e)

some_from : (cs : List ℕ) → (length cs ≡ 0 → ⊥) → some cs ≡ true
some_from [] h = absurd (h refl)
some_from (c ∷ cs) h = refl

-- what lies ahead of a reader, from the bytes that are left
pub ahead_unended : (rest : List ℕ) → (length rest ≡ 0 → ⊥) → lacks 10 rest ≡ true → (l : List ℕ) × ((some l ≡ true) × (pieces 10 rest ≡ l ∷ []))
ahead_unended rest ne e = (rest, (some_from rest ne, pieces_one 10 rest e))

parted : (f : List ℕ) (ps qs : List (List ℕ)) → (ps ≡ [] → ⊥) → qs ≡ f ∷ ps → (l : List ℕ) × ((ls : List (List ℕ)) × (qs ≡ f ∷ (l ∷ ls)))
parted f [] qs ne e = absurd (ne refl)
parted f (l ∷ ls) qs ne e = (l, (ls, e))

pub ahead_line : (rest bytes after : List ℕ) → IsSplit 10 rest bytes after → (l : List ℕ) × ((ls : List (List ℕ)) × (pieces 10 rest ≡ bytes ∷ (l ∷ ls)))
ahead_line rest bytes after s = parted bytes (pieces 10 after) (pieces 10 rest) (pieces-some 10 after) (pieces-split 10 rest bytes after s)
