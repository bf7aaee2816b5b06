-- What is told of a refusal to print: its number is 14, its value the length that is needed.
use Rattle.std.specs.Prelude.{ℕ}
use Rattle.printing.specs.declared.faults.PrintFault.{PrintFault}
use Rattle.printing.specs.declared.faults.PrintFault.TheVariants.{Short}
use Rattle.printing.specs.declared.faults.RefusalCode.{RefusalCode}

abbrev pub too_short : ℕ → RefusalCode
too_short needed = record { number = 14; value = needed }

abbrev pub print_code : PrintFault → RefusalCode
print_code (Short n) = too_short n
