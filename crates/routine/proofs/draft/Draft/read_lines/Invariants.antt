use Rattle.std.proofs.Common.{◌≡◌, suc, length}
use Rattle.fields.specs.Pieces.{pieces}
use Rattle.fields.specs.Readers.{lines_left}
use Rattle.grammar.specs.Reads.{read_from, blank}
use Rattle.routine.specs.Drafts.{drafted}
use Rattle.routine.proofs.draft.Draft.read_lines.Given as goal

abbrev pub invariant-loop-line : goal.invariant-loop-line
invariant-loop-line l = read_from (suc l.reader.line) (drafted l.self) (lines_left l.reader) ≡ read_from 1 blank (pieces 10 l.text)

abbrev pub decreases-loop-line : goal.decreases-loop-line
decreases-loop-line l = length (lines_left l.reader)
