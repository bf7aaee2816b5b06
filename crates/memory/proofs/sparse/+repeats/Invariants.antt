use Rattle.std.proofs.Common.{length}
use Rattle.memory.proofs.sparse.+repeats.Given as goal

abbrev pub decreases-repeats : goal.decreases-repeats
decreases-repeats l = length l.pairs.now
