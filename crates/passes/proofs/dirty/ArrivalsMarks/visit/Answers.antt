use Rattle.passes.proofs.Arriving.{sound_step}
use Rattle.passes.proofs.dirty.ArrivalsMarks.visit.Goals as goal

pub returns-clause-sound : goal.returns-clause-sound
returns-clause-sound c = sound_step _ _ c.args.step.k c.args.step.instruction _ (rw c.after-to.ensures at c.spread.ensures)
