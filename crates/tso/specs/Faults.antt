-- The number of each refusal of an entry.
use Rattle.std.specs.Prelude.{ℕ}
use Rattle.tso.specs.declared.faults.EntryFault.{EntryFault}
use Rattle.tso.specs.declared.faults.EntryFault.TheVariants.{NoParty, AtEnd, BufferFull, BufferNotEmpty, BufferEmpty}

abbrev pub entry_number : EntryFault → ℕ
entry_number NoParty = 20
entry_number AtEnd = 21
entry_number BufferFull = 22
entry_number BufferNotEmpty = 23
entry_number BufferEmpty = 24
