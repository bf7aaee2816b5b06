use Rattle.std.proofs.Common.{◌≡◌, ◌++◌, take, drop}
use Rattle.instructions.specs.Thinning.{thin_from}
use Rattle.routine.specs.Parties.{code_of}
use Rattle.routine.specs.Thins.{marked}
use Rattle.routine.proofs.party.Party.thin.Given as goal

abbrev pub invariant-loop-k : goal.invariant-loop-k
invariant-loop-k l = take l.k l.instruction-items ++ thin_from (marked l.stays) l.k (drop l.k l.instruction-items) ≡ thin_from (marked l.stays) 0 (code_of l.fn.self)
