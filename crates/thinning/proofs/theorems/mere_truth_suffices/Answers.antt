use Rattle.thinning.proofs.Merely.{mere_truth_suffices}
use Rattle.thinning.proofs.theorems.mere_truth_suffices.Goals as goal

pub returns : goal.returns
returns c = mere_truth_suffices
