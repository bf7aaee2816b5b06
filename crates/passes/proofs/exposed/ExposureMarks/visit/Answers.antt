use Rattle.std.proofs.Common.{sym, ◌∙◌}
use Rattle.passes.proofs.Exposing.{sound_more}
use Rattle.passes.proofs.exposed.ExposureMarks.visit.Goals as goal

pub returns-clause-sound : goal.returns-clause-sound
returns-clause-sound c code at sound = sound_more code c.args.self.now.marks c.args.step.k c.args.step.instruction sound at (sym c.is_exposed.ensures ∙ c.if-not-is_exposed.false)
