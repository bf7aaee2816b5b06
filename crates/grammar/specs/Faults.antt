-- What is told of a routine's fault: that of a line is told as it is. Want of memory has number 255.
use Rattle.fields.specs.declared.faults.FaultCode.{FaultCode}
use Rattle.instructions.specs.Faults.{line_code}
use Rattle.grammar.specs.declared.faults.RoutineFault.{RoutineFault}
use Rattle.grammar.specs.declared.faults.RoutineFault.TheVariants.{Line, Length, Order, Room, Empty, Target, Unfinished, Addresses, Memory}

abbrev pub routine_code : RoutineFault → FaultCode
routine_code (Line f) = line_code f
routine_code Length = record { number = 1; layer = 3; line = 0 }
routine_code (Order l) = record { number = 8; layer = 3; line = l }
routine_code (Room l) = record { number = 9; layer = 3; line = l }
routine_code (Empty l) = record { number = 10; layer = 3; line = l }
routine_code (Target l) = record { number = 11; layer = 3; line = l }
routine_code Unfinished = record { number = 12; layer = 3; line = 0 }
routine_code Addresses = record { number = 13; layer = 3; line = 0 }
routine_code Memory = record { number = 255; layer = 0; line = 0 }
