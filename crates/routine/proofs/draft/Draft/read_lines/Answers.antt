use Rattle.std.proofs.Common.{suc, Ok, sym, ap, ◌∙◌}
use Rattle.fields.specs.Readers.{lines_left}
use Rattle.routine.proofs.Reading.{line_stands}
use Rattle.routine.proofs.draft.Draft.read_lines.Goals as goal

pub accept-requires : goal.accept-requires
accept-requires c = line_stands c.loop-line.self.stage (lines_left c.loop-line.reader) (suc c.loop-line.reader.line) c.in-Some.line (ap (λ o. Ok o) (sym c.in-Some.is) ∙ c.in_ok-line.ensures.answer)
