use Rattle.passes.proofs.sweeps.settle.Given as goal

abbrev pub invariant-loop : goal.invariant-loop
invariant-loop g l = g.M.Marks.is_sound l.code l.marks

abbrev pub decreases-loop : goal.decreases-loop
decreases-loop g l = g.M.Marks.left l.marks
