use Rattle.std.proofs.Common.{◌≡◌, drop}
use Rattle.grammar.specs.Listings.{noted_code}
use Rattle.routine.specs.Addresses.{noted_list}
use Rattle.routine.proofs.addresses.Addresses.note_code.Given as goal

abbrev pub invariant-loop-instruction : goal.invariant-loop-instruction
invariant-loop-instruction l = noted_code (drop l.instruction-index l.code) (noted_list l.self) ≡ noted_code l.code (noted_list l.initial.self)
