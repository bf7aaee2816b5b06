-- The letters of the registers.
use Rattle.std.specs.Prelude.{ℕ, if◌then◌else◌, List, [], ◌∷◌, Some, None, Option, ◌==◌}
use Rattle.fields.specs.declared.registers.Register.{Register}
use Rattle.fields.specs.declared.registers.Register.TheVariants.{A, B, C, D}

abbrev pub letter_of : Register → ℕ
letter_of A = 65
letter_of B = 66
letter_of C = 67
letter_of D = 68

abbrev pub by_letter : ℕ → Option Register
by_letter b =
    if b == 65 then Some A
    else if b == 66 then Some B
    else if b == 67 then Some C
    else if b == 68 then Some D
    else None

-- the register that a field names: it is one of the letters, and nothing more
abbrev pub register_of : List ℕ → Option Register
register_of [] = None
register_of (b ∷ []) = by_letter b
register_of (b ∷ (c ∷ bs)) = None
