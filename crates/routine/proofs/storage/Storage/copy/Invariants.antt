use Rattle.std.proofs.Common.{◌≡◌, ◌++◌, map, drop, vec_items}
use Rattle.routine.specs.Parties.{code_of}
use Rattle.routine.specs.Storages.{inits_of, parties_of}
use Rattle.routine.proofs.storage.Storage.copy.Given as goal

abbrev pub invariant-loop-party : goal.invariant-loop-party
invariant-loop-party l = record {
  parties : parties_of l.self ++ map code_of (drop l.party-index (vec_items l.other.parties)) ≡ parties_of l.other;
  inits : inits_of l.self ≡ inits_of l.other;
}
