use Rattle.grammar.proofs.Exactly.{reads_exactly, written_is_read, read_is_written}
use Rattle.grammar.proofs.theorems.grammar_stands.Goals as goal

pub returns : goal.returns
returns c = record { exactly = reads_exactly; back = written_is_read; only = read_is_written }
