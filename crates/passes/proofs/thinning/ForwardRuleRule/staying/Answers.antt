use Rattle.paths.proofs.Marked.{marks_decide}
use Rattle.routine.specs.Thins.{marked}
use Rattle.passes.proofs.thinning.ForwardRuleRule.staying.Goals as goal

pub returns : goal.returns
returns c = let d = c.dirty.ensures in marks_decide.0 c.args.code.now d.0 (marked c.dirty.result) d.1
