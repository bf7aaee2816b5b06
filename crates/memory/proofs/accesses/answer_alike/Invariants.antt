use Rattle.std.proofs.Common.{drop}
use Rattle.std.specs.Prelude.{◌↔◌}
use Rattle.memory.specs.Accesses.{Alike}
use Rattle.memory.proofs.Performing.{Going, StillAlike}
use Rattle.memory.proofs.accesses.answer_alike.Given as goal

abbrev pub invariant-loop-access : goal.invariant-loop-access
invariant-loop-access g l =
    record {
      first : Going g.M.Memory.cells g.M.Memory.reads g.M.Memory.writes l.accesses (drop l.access-index l.accesses) l.initial.first l.first;
      second : Going g.N.Memory.cells g.N.Memory.reads g.N.Memory.writes l.accesses (drop l.access-index l.accesses) l.initial.second l.second;
      alike : Alike (g.M.Memory.cells l.initial.first) (g.N.Memory.cells l.initial.second) l.accesses ↔ StillAlike l.alike (g.M.Memory.cells l.first) (g.N.Memory.cells l.second) (drop l.access-index l.accesses);
    }
