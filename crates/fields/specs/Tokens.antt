-- What a field is, and where its token stands.
use Rattle.std.specs.Prelude.{◌≡◌, ℕ, suc, Bool, false, if◌then◌else◌, List, [], ◌∷◌, length, take, drop, Some, None, Option}
use Rattle.std.specs.Str.{bytes_eq}
use Rattle.fields.specs.declared.registers.Register.{Register}
use Rattle.fields.specs.declared.tokens.Token.{Token}
use Rattle.fields.specs.declared.tokens.Token.TheVariants as token
use Rattle.fields.specs.Newlines.{newlines}
use Rattle.fields.specs.Numbers.{is_numeral}
use Rattle.fields.specs.Registers.{letter_of, register_of}

-- a field by its kind, without where it stands
pub data Seen : Type 0 where
  word : List ℕ → Seen
  register : Register → Seen
  number : List ℕ → Seen

abbrev pub seen : Token → Seen
seen (token.Word t p) = word t.now
seen (token.Register r p) = register r
seen (token.Number d p) = number d.now

abbrev pub bytes_of : Token → List ℕ
bytes_of (token.Word t p) = t.now
bytes_of (token.Register r p) = letter_of r ∷ []
bytes_of (token.Number d p) = d.now

abbrev pub line_of : Token → ℕ
line_of (token.Word t p) = p.line
line_of (token.Register r p) = p.line
line_of (token.Number d p) = p.line

abbrev pub place_of : Token → ℕ
place_of (token.Word t p) = p.index
place_of (token.Register r p) = p.index
place_of (token.Number d p) = p.index

abbrev pub seen_by : Option Register → List ℕ → Seen
seen_by (Some r) bs = register r
seen_by None bs = if is_numeral bs then number bs else word bs

-- the kind of a field: a register's letter, else a number, else a word
abbrev pub seen_of : List ℕ → Seen
seen_of bs = seen_by (register_of bs) bs

-- whether a field is that word
abbrev pub is_word : Seen → List ℕ → Bool
is_word (word bs) w = bytes_eq bs w
is_word (register r) w = false
is_word (number ds) w = false

-- the bytes are the text's own from that place on, and the line is one more than the bytes 10 before it
pub record At (text bytes : List ℕ) (line place : ℕ) : Type 0 where
  pub own : bytes ≡ take (length bytes) (drop place text)
  pub counted : line ≡ suc (newlines (take place text))
