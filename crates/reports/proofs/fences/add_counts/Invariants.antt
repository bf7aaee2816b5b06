use Rattle.std.proofs.Common.{◌≡◌, ◌++◌, map, drop, string_bytes}
use Rattle.routine.specs.Parties.{code_of}
use Rattle.reports.specs.Fences.{fence_lines}
use Rattle.reports.proofs.fences.add_counts.Given as goal

abbrev pub invariant-loop-number : goal.invariant-loop-number
invariant-loop-number l =
    string_bytes l.out ++ fence_lines l.number-counter (map code_of (drop l.number-counter l.party-items)) (map code_of l.both)
    ≡ string_bytes l.initial.out ++ fence_lines 0 (map code_of l.party-items) (map code_of l.both)
