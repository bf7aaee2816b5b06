use Rattle.routine.specs.Routines.{listing}
use Rattle.passes.proofs.Applied.{Partly}
use Rattle.passes.proofs.thinning.apply.Given as goal

abbrev pub invariant-loop-number : goal.invariant-loop-number
invariant-loop-number g l = Partly g.R.Rule.pass (listing l.from) (listing l.into) l.number
