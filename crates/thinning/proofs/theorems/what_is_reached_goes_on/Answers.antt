use Rattle.thinning.proofs.Promising.{reached_goes_on}
use Rattle.thinning.proofs.theorems.what_is_reached_goes_on.Goals as goal

pub returns : goal.returns
returns c = reached_goes_on
