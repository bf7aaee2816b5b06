-- What is told of a fault of a line: that of a field is told as it is.
use Rattle.fields.specs.Faults.{field_code}
use Rattle.fields.specs.declared.faults.FaultCode.{FaultCode}
use Rattle.instructions.specs.declared.faults.LineFault.{LineFault}
use Rattle.instructions.specs.declared.faults.LineFault.TheVariants.{Field, Word, Count, Kind, Range}

abbrev pub line_code : LineFault → FaultCode
line_code (Field f) = field_code f
line_code (Word l) = record { number = 4; layer = 2; line = l }
line_code (Count l) = record { number = 5; layer = 2; line = l }
line_code (Kind l) = record { number = 6; layer = 2; line = l }
line_code (Range l) = record { number = 7; layer = 2; line = l }
