use Rattle.thinning.proofs.Answering.{accepted_as_answered}
use Rattle.thinning.proofs.Counting.{feeds_are_counted}
use Rattle.thinning.proofs.theorems.feeds_are_counted.Goals as goal

pub returns : goal.returns
returns c = record { answered = accepted_as_answered; counted = feeds_are_counted }
