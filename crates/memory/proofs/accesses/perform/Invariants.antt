use Rattle.std.proofs.Common.{◌≡◌, ◌≤◌, ◌++◌, length, drop, vec_items, vec_len, vec_capacity}
use Rattle.memory.specs.Accesses.{answers_of}
use Rattle.memory.proofs.Performing.{Going}
use Rattle.memory.proofs.accesses.perform.Given as goal

abbrev pub invariant-loop-access : goal.invariant-loop-access
invariant-loop-access g l =
    record {
      going : Going g.M.Memory.cells g.M.Memory.reads g.M.Memory.writes l.accesses (drop l.access-index l.accesses) l.initial.memory l.memory;
      answers : vec_items l.answers ++ answers_of (g.M.Memory.cells l.memory) (drop l.access-index l.accesses) ≡ answers_of (g.M.Memory.cells l.initial.memory) l.accesses;
      count : vec_len l.answers ≡ l.access-index;
      room : length l.accesses ≤ vec_capacity l.answers;
    }
