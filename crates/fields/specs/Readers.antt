-- What a reader has yet to give, and what each call leaves.
use Rattle.std.specs.Prelude.{◌≡◌, ℕ, suc, Bool, List, [], ◌∷◌, drop, Some, None, Ok, Err, MatchBool, Option, Result}
use Rattle.std.specs.Option.{option_map_or}
use Rattle.fields.specs.declared.faults.FieldFault.{FieldFault}
use Rattle.fields.specs.declared.reader.Reader.{Reader}
use Rattle.fields.specs.declared.tokens.Token.{Token}
use Rattle.fields.specs.Pieces.{pieces}
use Rattle.fields.specs.Tokens.{At, seen, seen_of, bytes_of, line_of, place_of}

-- the pieces between bytes 10 after the current line
abbrev pub lines_left : Reader → List (List ℕ)
lines_left r = pieces 10 (drop r.next r.text.now)

-- the fields of the current line that are left
abbrev pub fields_left : Reader → List (List ℕ)
fields_left r = option_map_or (λ bytes. pieces 32 bytes.now) r.rest []

-- s is r one line on: its fields are those of the first line that r had left
pub record NextLine (r s : Reader) : Type 0 where
  pub text : s.text.now ≡ r.text.now
  pub number : s.line ≡ suc r.line
  pub begins : s.place ≡ r.next
  pub line : List ℕ
  pub cut : lines_left r ≡ line ∷ lines_left s
  pub fields : fields_left s ≡ pieces 32 line

-- after the answer to a call for the next line
abbrev pub AfterLine : Result Bool FieldFault → Reader → Reader → Type 0
AfterLine (Ok b) r s = MatchBool b (NextLine r s) (s ≡ r)
AfterLine (Err e) r s = s ≡ r

-- s is r after its next field
pub record NextField (bytes : List ℕ) (r s : Reader) : Type 0 where
  pub text : s.text.now ≡ r.text.now
  pub line : s.line ≡ r.line
  pub next : s.next ≡ r.next
  pub cut : fields_left r ≡ bytes ∷ fields_left s
  pub stands : At r.text.now bytes r.line r.place

-- a token says what its field is and where it stands
pub record TokenOf (t : Token) (r : Reader) : Type 0 where
  pub kind : seen t ≡ seen_of (bytes_of t)
  pub line : line_of t ≡ r.line
  pub place : place_of t ≡ r.place
  pub stands : At r.text.now (bytes_of t) (line_of t) (place_of t)

-- after the answer to a call for the next field
abbrev pub AfterField : Option Token → Reader → Reader → Type 0
AfterField None r s = (fields_left r ≡ []) × (s ≡ r)
AfterField (Some t) r s = NextField (bytes_of t) r s × TokenOf t r
