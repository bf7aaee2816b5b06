-- Where a line stands in the text, and a field that is cut off what is left of it.
use Rattle.std.proofs.Common.{◌≡◌, ℕ, ◌+◌, ◌≤◌, List, [], ◌∷◌, ◌++◌, length, take, drop, sym, ap, ◌∙◌, arith}
use Rattle.std.proofs.lemmas.List.{length-drop, length-take, drop-drop, take-take, drop-take}
use Rattle.fields.specs.Newlines.{newlines}
use Rattle.fields.specs.Pieces.{IsSplit}
use Rattle.fields.specs.Tokens.{At}
use Rattle.fields.proofs.Cuts.{take_split, front_split, drop_split, length_split}
use Rattle.fields.proofs.Counting.{newlines-append, newlines_add}

-- a line that a byte 10 ends
pub line_stands : (text bytes after : List ℕ) (line place : ℕ) → IsSplit 10 (drop place text) bytes after → line ≡ newlines (take place text) → At text bytes (line + 1) place
line_stands text bytes after line place split counted = record { own = sym (front_split 10 (drop place text) bytes after split); counted = omega arith }

module _ (text rest : List ℕ) (line place : ℕ) (at : At text rest line place) where
  -- what stands in the text ends there
  pub rest_within : place ≤ length text → place + length rest ≤ length text
  rest_within low = omega (arith, ap length at.own, length-take (length rest) (drop place text), length-drop place text)

  module _ (field others : List ℕ) (split : IsSplit 32 rest field others) where
    len : length rest ≡ length field + 1 + length others
    len = length_split 32 rest field others split

    -- so many bytes of the text from there on are those of the rest
    front : (n : ℕ) → n ≤ length rest → take n (drop place text) ≡ take n rest
    front n le = sym (take-take n (length rest) (drop place text) le) ∙ sym (ap (take n) at.own)

    pub field_stands : At text field line place
    field_stands = record { own = sym (front (length field) (omega (arith, len)) ∙ front_split 32 rest field others split); counted = at.counted }

    none : newlines rest ≡ 0 → (newlines field ≡ 0) × (newlines others ≡ 0)
    none h =
        let e : newlines rest ≡ newlines field + newlines others = ap newlines split.whole ∙ newlines-append field (32 ∷ others) in
        (omega arith, omega arith)

    pub others_unbroken : newlines rest ≡ 0 → newlines others ≡ 0
    others_unbroken h = (none h).1

    others_own : others ≡ take (length others) (drop (place + (length field + 1)) text)
    others_own =
        let n = length field + 1 in
        sym (drop_split 32 rest field others split) ∙ ap (drop n) at.own ∙ ap (λ k. drop n (take k (drop place text))) len
        ∙ drop-take n (length others) (drop place text) ∙ ap (take (length others)) (drop-drop n place text)

    pub others_stand : newlines rest ≡ 0 → At text others line (place + (length field + 1))
    others_stand h =
        let n = length field + 1 in
        let some : newlines (take n (drop place text)) ≡ newlines (field ++ (32 ∷ [])) = ap newlines (front n (omega (arith, len)) ∙ take_split 32 rest field others split) in
        let more : newlines (field ++ (32 ∷ [])) ≡ newlines field + 0 = newlines-append field (32 ∷ []) in
        record { own = others_own; counted = omega (arith, at.counted, newlines_add place n text, (none h).0) }
