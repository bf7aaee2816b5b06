use Rattle.passes.proofs.Copied.{Copied}
use Rattle.passes.proofs.dirty.Arrivals.dirty_ones.Given as goal

abbrev pub invariant-loop-k : goal.invariant-loop-k
invariant-loop-k l = Copied l.self.at l.marks l.k
