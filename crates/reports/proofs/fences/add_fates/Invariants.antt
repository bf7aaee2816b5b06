use Rattle.std.proofs.Common.{◌≡◌, ◌++◌, map, drop, string_bytes}
use Rattle.routine.specs.Parties.{code_of}
use Rattle.reports.specs.Fences.{party_fates}
use Rattle.reports.proofs.fences.add_fates.Given as goal

abbrev pub invariant-loop-number : goal.invariant-loop-number
invariant-loop-number l =
    string_bytes l.out ++ party_fates l.number (map code_of (drop l.number l.party-items)) (map code_of l.forward) (map code_of l.both)
    ≡ string_bytes l.initial.out ++ party_fates 0 (map code_of l.party-items) (map code_of l.forward) (map code_of l.both)
