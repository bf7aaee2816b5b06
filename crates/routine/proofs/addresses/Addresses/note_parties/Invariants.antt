use Rattle.std.proofs.Common.{◌≡◌, map, drop}
use Rattle.grammar.specs.Listings.{noted_parties}
use Rattle.routine.specs.Addresses.{noted_list}
use Rattle.routine.specs.Parties.{code_of}
use Rattle.routine.proofs.addresses.Addresses.note_parties.Given as goal

abbrev pub invariant-loop-party : goal.invariant-loop-party
invariant-loop-party l = noted_parties (map code_of (drop l.party-index l.parties)) (noted_list l.self) ≡ noted_parties (map code_of l.parties) (noted_list l.initial.self)
