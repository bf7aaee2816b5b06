use Rattle.thinning.proofs.Memories.{orders_kept}
use Rattle.thinning.proofs.theorems.orders_are_kept.Goals as goal

pub returns : goal.returns
returns c = orders_kept
