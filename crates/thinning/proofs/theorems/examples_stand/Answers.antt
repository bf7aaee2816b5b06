use Rattle.thinning.proofs.Worked.{examples_hold}
use Rattle.thinning.proofs.theorems.examples_stand.Goals as goal

pub returns : goal.returns
returns c = examples_hold
