-- What is told of a fault of the lexical layer.
use Rattle.std.specs.Prelude.{ℕ, List, ◌∷◌, ◌++◌, decimal}
use Rattle.fields.specs.declared.faults.FaultCode.{FaultCode}
use Rattle.fields.specs.declared.faults.FieldFault.{FieldFault}
use Rattle.fields.specs.declared.faults.FieldFault.TheVariants.{Bytes, Spacing}

abbrev pub field_code : FieldFault → FaultCode
field_code (Bytes l) = record { number = 2; layer = 1; line = l }
field_code (Spacing l) = record { number = 3; layer = 1; line = l }

-- how a code is written
abbrev pub code_text : FaultCode → List ℕ
code_text c = decimal c.number ++ (32 ∷ (decimal c.layer ++ (32 ∷ decimal c.line)))
