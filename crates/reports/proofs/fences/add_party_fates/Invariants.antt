use Rattle.std.proofs.Common.{◌≡◌, ◌++◌, drop, string_bytes}
use Rattle.reports.specs.Fences.{fate_lines}
use Rattle.reports.proofs.fences.add_party_fates.Given as goal

abbrev pub invariant-loop-position : goal.invariant-loop-position
invariant-loop-position l =
    string_bytes l.out ++ fate_lines l.party l.position-counter (drop l.position-counter l.original) l.forward l.thinned
    ≡ string_bytes l.initial.out ++ fate_lines l.party 0 l.original l.forward l.thinned
