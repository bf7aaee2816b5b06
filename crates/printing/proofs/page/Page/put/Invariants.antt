use Rattle.std.proofs.Common.{take}
use Rattle.printing.specs.Pages.{Wrote}
use Rattle.printing.proofs.page.Page.put.Given as goal

abbrev pub invariant-loop-byte : goal.invariant-loop-byte
invariant-loop-byte l = Wrote l.initial.self (take l.byte-index l.bytes) l.self
