use Rattle.paths.proofs.Worked.{examples_hold}
use Rattle.paths.proofs.examples_stand.Goals as goal

pub returns : goal.returns
returns c = examples_hold
