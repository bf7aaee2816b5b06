-- The fields after a line's word: their count, then their kinds, then their ranges.
use Rattle.std.specs.Prelude.{ℕ, Bool, true, false, if◌then◌else◌, ◌&&◌, List, [], ◌∷◌, Some, None, Ok, Err, Option, Result}
use Rattle.std.specs.Option.{option_map}
use Rattle.fields.specs.declared.registers.Register.{Register}
use Rattle.fields.specs.Numbers.{value_of, up_to}
use Rattle.fields.specs.Tokens.{Seen, word, register, number, seen}
use Rattle.instructions.specs.declared.arguments.Fields.{Fields}
use Rattle.instructions.specs.declared.arguments.Fields.TheVariants as fields
use Rattle.instructions.specs.declared.faults.LineFault.{LineFault}
use Rattle.instructions.specs.declared.faults.LineFault.TheVariants.{Count, Kind, Range}
use Rattle.instructions.specs.declared.types.Operand.{Operand}
use Rattle.instructions.specs.declared.types.Operand.TheVariants as operand

-- no fields, one, two, or more than any word takes
pub data Given : Type 0 where
  zero : Given
  one : Seen → Given
  two : Seen → Seen → Given
  more : Given

abbrev pub given_by : List Seen → Given
given_by [] = zero
given_by (a ∷ []) = one a
given_by (a ∷ (b ∷ [])) = two a b
given_by (a ∷ (b ∷ (c ∷ cs))) = more

abbrev pub given : Fields → Given
given fields.Zero = zero
given (fields.One a) = one (seen a)
given (fields.Two a b) = two (seen a) (seen b)
given fields.More = more

-- the kinds
abbrev pub is_register : Seen → Bool
is_register (word bs) = false
is_register (register r) = true
is_register (number ds) = false

abbrev pub is_number : Seen → Bool
is_number (word bs) = false
is_number (register r) = false
is_number (number ds) = true

abbrev pub is_operand : Seen → Bool
is_operand (word bs) = false
is_operand (register r) = true
is_operand (number ds) = true

-- the values, where they are in range
abbrev pub register_in : Seen → Option Register
register_in (word bs) = None
register_in (register r) = Some r
register_in (number ds) = None

abbrev pub number_in : ℕ → Seen → Option ℕ
number_in max (word bs) = None
number_in max (register r) = None
number_in max (number ds) = up_to max (value_of ds)

abbrev pub operand_in : Seen → Option Operand
operand_in (word bs) = None
operand_in (register r) = Some (operand.Register r)
operand_in (number ds) = option_map operand.Constant (up_to 4294967295 (value_of ds))

abbrev pub needed : {A B : Type 0} → Option A → LineFault → (A → Result B LineFault) → Result B LineFault
needed None e f = Err e
needed (Some x) e f = f x

abbrev pub of_none : Given → ℕ → Result (Unit {0}) LineFault
of_none zero line = Ok tt
of_none (one a) line = Err (Count line)
of_none (two a b) line = Err (Count line)
of_none more line = Err (Count line)

abbrev pub of_one : {A : Type 0} → (Seen → Bool) → (Seen → Option A) → Given → ℕ → Result A LineFault
of_one kind value zero line = Err (Count line)
of_one kind value (one a) line = if kind a then needed (value a) (Range line) (λ x. Ok x) else Err (Kind line)
of_one kind value (two a b) line = Err (Count line)
of_one kind value more line = Err (Count line)

abbrev pub of_two : {A B : Type 0} → (Seen → Bool) → (Seen → Option A) → (Seen → Bool) → (Seen → Option B) → Given → ℕ → Result (A × B) LineFault
of_two kind value kind' value' zero line = Err (Count line)
of_two kind value kind' value' (one a) line = Err (Count line)
of_two kind value kind' value' (two a b) line =
    if kind a && kind' b
    then needed (value a) (Range line) (λ x. needed (value' b) (Range line) (λ y. Ok (x, y)))
    else Err (Kind line)
of_two kind value kind' value' more line = Err (Count line)
