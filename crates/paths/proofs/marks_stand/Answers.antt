use Rattle.paths.proofs.Marked.{marks_decide}
use Rattle.paths.proofs.marks_stand.Goals as goal

pub returns : goal.returns
returns c = marks_decide
