use Rattle.std.proofs.Common.{rules}
use Rattle.routine.proofs.Storing.{above_asked}
use Rattle.routine.proofs.storage.is_above.Goals as goal

pub returns : goal.returns
returns c = above_asked c.args.address c.args.inits.now c.last.result c.is_none_or.result _ c.last.ensures.value c.is_none_or.ensures (λ x said. search rules)
