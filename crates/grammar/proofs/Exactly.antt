-- The theorems on whole texts, from those on lines.
use Rattle.grammar.specs.Grammar.{ReadsExactly, WrittenIsRead, ReadIsWritten}
use Rattle.grammar.proofs.LinesBack.{lines_read_back}
use Rattle.grammar.proofs.LinesOnly.{lines_read_as_written}
use Rattle.grammar.proofs.WholeTexts as whole

pub reads_exactly : ReadsExactly
reads_exactly = whole.reads_exactly lines_read_back lines_read_as_written

pub written_is_read : WrittenIsRead
written_is_read = whole.written_is_read lines_read_back lines_read_as_written

pub read_is_written : ReadIsWritten
read_is_written = whole.read_is_written lines_read_back lines_read_as_written
