-- What printing a text answers, and what it leaves in the buffer.
use Rattle.std.specs.Prelude.{ℕ, List, ◌++◌, length, drop, if◌then◌else◌, Ok, Err, Result, nat_le}
use Rattle.printing.specs.declared.faults.PrintFault.{PrintFault}
use Rattle.printing.specs.declared.faults.PrintFault.TheVariants.{Short}

-- the text's length, where the buffer has room for it
abbrev pub print_answer : List ℕ → ℕ → Result ℕ PrintFault
print_answer text room = if nat_le (length text) room then Ok (length text) else Err (Short (length text))

-- the text and then the buffer's own bytes, or the buffer as it was
abbrev pub printed_over : List ℕ → List ℕ → List ℕ
printed_over text out = if nat_le (length text) (length out) then text ++ drop (length text) out else out
