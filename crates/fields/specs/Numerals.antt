-- The bytes that a numeral holds.
use Rattle.std.specs.Prelude.{ℕ, List, drop}
use Rattle.fields.specs.declared.numeral.Numeral.{Numeral}

abbrev pub figures : Numeral → List ℕ
figures n = drop n.start n.digits
