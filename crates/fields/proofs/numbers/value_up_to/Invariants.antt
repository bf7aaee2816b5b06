use Rattle.std.proofs.Common.{◌≡◌, drop}
use Rattle.fields.specs.Numbers.{value_on, value_of}
use Rattle.fields.proofs.numbers.value_up_to.Given as goal

abbrev pub invariant-loop-digit : goal.invariant-loop-digit
invariant-loop-digit l = value_on l.value (drop l.digit-index l.digits) ≡ value_of l.digits
