use Rattle.std.proofs.Common.{◌≡◌, drop}
use Rattle.grammar.specs.Listings.{noted_inits}
use Rattle.routine.specs.Addresses.{noted_list}
use Rattle.routine.proofs.addresses.Addresses.note_inits.Given as goal

abbrev pub invariant-loop-init : goal.invariant-loop-init
invariant-loop-init l = noted_inits (drop l.init-index l.inits) (noted_list l.self) ≡ noted_inits l.inits (noted_list l.initial.self)
