use Rattle.grammar.proofs.LinesBack.{lines_read_back}
use Rattle.grammar.proofs.LinesOnly.{lines_read_as_written}
use Rattle.grammar.proofs.theorems.lines_stand.Goals as goal

pub returns : goal.returns
returns c = record { back = lines_read_back; only = lines_read_as_written }
