-- What the reader's inner steps say.
use Rattle.std.specs.Prelude.{◌≡◌, ℕ, true, List, [], ◌∷◌, drop, Some, None, Ok, Err, Option, Result}
use Rattle.std.specs.Borrow.{Bor}
use Rattle.fields.specs.declared.faults.FieldFault.{FieldFault}
use Rattle.fields.specs.declared.faults.FieldFault.TheVariants.{Bytes}
use Rattle.fields.specs.declared.reader.Reader.{Reader}
use Rattle.fields.specs.Lines.{some}
use Rattle.fields.specs.Pieces.{IsSplit}
use Rattle.fields.specs.Readers.{fields_left, NextField}

-- what lies ahead, by the pieces that are left and the number of the line ahead
abbrev pub LiesAhead : Result (Option (Bor (List ℕ))) FieldFault → List (List ℕ) → ℕ → Type 0
LiesAhead (Ok None) ps line = ps ≡ [] ∷ []
LiesAhead (Ok (Some bs)) ps line = (l : List ℕ) × ((ls : List (List ℕ)) × (ps ≡ bs.now ∷ (l ∷ ls)))
LiesAhead (Err e) ps line = (e ≡ Bytes line) × ((l : List ℕ) × ((some l ≡ true) × (ps ≡ l ∷ [])))

-- the line ahead, with byte 10 after it
pub record IsAhead (r : Reader) (bytes : List ℕ) : Type 0 where
  pub after : List ℕ
  pub split : IsSplit 10 (drop r.next r.text.now) bytes after

-- after the answer to a call for the next field's bytes
abbrev pub AfterCut : Option (Bor (List ℕ)) → Reader → Reader → Type 0
AfterCut None r s = (fields_left r ≡ []) × (s ≡ r)
AfterCut (Some f) r s = NextField f.now r s
