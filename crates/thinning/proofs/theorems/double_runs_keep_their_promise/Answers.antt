use Rattle.thinning.proofs.Promising.{double_run_promise}
use Rattle.thinning.proofs.theorems.double_runs_keep_their_promise.Goals as goal

pub returns : goal.returns
returns c = double_run_promise
