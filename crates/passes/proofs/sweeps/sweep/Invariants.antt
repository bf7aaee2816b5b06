use Rattle.std.proofs.Common.{◌≡◌, ℕ, ◌<◌, true, false, Some}
use Rattle.instructions.specs.declared.types.Instruction.{Instruction}
use Rattle.paths.specs.Paths.{fetch}
use Rattle.passes.proofs.sweeps.sweep.Given as goal

abbrev pub invariant-loop-k : goal.invariant-loop-k
invariant-loop-k g l = record {
  sound : g.M.Marks.is_sound l.code l.marks;
  same : l.changed ≡ false → l.marks ≡ l.initial.marks;
  settled : l.changed ≡ false → (k : ℕ) (i : Instruction) → k < l.k → fetch l.code k ≡ Some i → g.M.Marks.is_settled l.marks k i;
  fewer : l.changed ≡ true → g.M.Marks.left l.marks < g.M.Marks.left l.initial.marks;
}
