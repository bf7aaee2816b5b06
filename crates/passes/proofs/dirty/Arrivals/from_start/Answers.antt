use Rattle.passes.proofs.Arriving.{arrives_start}
use Rattle.passes.proofs.dirty.Arrivals.from_start.Goals as goal

pub returns : goal.returns
returns c = arrives_start
