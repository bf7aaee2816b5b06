-- The number of each refusal of a double run.
use Rattle.std.specs.Prelude.{ℕ}
use Rattle.tso.specs.Faults.{entry_number}
use Rattle.thinning.specs.declared.faults.DoubleFault.{DoubleFault}
use Rattle.thinning.specs.declared.faults.DoubleFault.TheVariants.{Entry, Limit, Ended, Tag, Waiting}

abbrev pub double_number : DoubleFault → ℕ
double_number (Entry f) = entry_number f
double_number Limit = 25
double_number Ended = 26
double_number Tag = 27
double_number Waiting = 28
