-- When a line is made of fields.
use Rattle.std.specs.Prelude.{ℕ, Bool, true, false, if◌then◌else◌, ◌&&◌, List, [], ◌∷◌, Ok, Err, Result, nat_le}
use Rattle.std.specs.List.{list_all}
use Rattle.fields.specs.declared.faults.FieldFault.{FieldFault}
use Rattle.fields.specs.declared.faults.FieldFault.TheVariants.{Bytes, Spacing}
use Rattle.fields.specs.Pieces.{pieces}

abbrev pub printable : ℕ → Bool
printable b = nat_le 32 b && nat_le b 126

abbrev pub all_printable : List ℕ → Bool
all_printable bytes = list_all printable bytes

abbrev pub some : List ℕ → Bool
some [] = false
some (b ∷ bs) = true

-- no piece is empty
abbrev pub all_some : List (List ℕ) → Bool
all_some fields = list_all some fields

-- the bytes of a line are asked first, then its spaces
abbrev pub line_checked : List ℕ → ℕ → Result (Unit {0}) FieldFault
line_checked bs line =
    if all_printable bs then (if all_some (pieces 32 bs) then Ok tt else Err (Spacing line)) else Err (Bytes line)

abbrev pub there : Result (Unit {0}) FieldFault → Result Bool FieldFault
there (Ok u) = Ok true
there (Err e) = Err e

-- of the pieces between bytes 10 that are left, and the next line's number: whether there is a line.
-- The last piece is no line: it is empty, or it lacks its byte 10.
abbrev pub line_answer : List (List ℕ) → ℕ → Result Bool FieldFault
line_answer [] line = Ok false
line_answer (l ∷ []) line = if some l then Err (Bytes line) else Ok false
line_answer (l ∷ (m ∷ ms)) line = there (line_checked l line)
