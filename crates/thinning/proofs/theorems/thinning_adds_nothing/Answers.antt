use Rattle.thinning.proofs.theorems.thinning_adds_nothing.Goals as goal
use Rattle.thinning.proofs.Retelling.{thinning_adds_nothing}

pub returns : goal.returns
returns c = thinning_adds_nothing
