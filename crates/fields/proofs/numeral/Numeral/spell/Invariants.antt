use Rattle.std.proofs.Common.{◌≡◌, ◌^◌, ◌<◌, ◌≤◌, ◌++◌, length, drop, decimal}
use Rattle.fields.proofs.numeral.Numeral.spell.Given as goal

abbrev pub invariant-loop-rest : goal.invariant-loop-rest
invariant-loop-rest l = (decimal l.rest ++ drop l.start l.digits ≡ decimal l.n) × (length (decimal l.rest) ≤ l.start) × (l.start ≤ 10) × (length l.digits ≡ 10) × (l.rest < 2 ^ 32)

abbrev pub decreases-loop-rest : goal.decreases-loop-rest
decreases-loop-rest l = l.rest
