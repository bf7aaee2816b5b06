use Rattle.passes.proofs.Arriving.{dirty_marks}
use Rattle.passes.proofs.dirty.dirty.Goals as goal

pub settle-requires : goal.settle-requires
settle-requires c = c.from_start-arrivals.ensures c.args.code.now

pub returns : goal.returns
returns c = dirty_marks c.args.code.now _ c.dirty_ones.result c.settle.ensures.sound c.settle.ensures.settled c.dirty_ones.ensures
