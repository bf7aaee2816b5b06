-- What a read and a write answer, by the cell of their address, and the number of their refusal.
use Rattle.std.specs.Prelude.{ℕ, Some, None, Ok, Err, Option, Result}
use Rattle.memory.specs.declared.refusal.NotHeld.{NotHeld}

abbrev pub not_held : NotHeld
not_held = record {}

abbrev pub not_held_number : NotHeld → ℕ
not_held_number refusal = 17

-- a read answers the word that is held
abbrev pub read_answer : Option ℕ → Result ℕ NotHeld
read_answer None = Err not_held
read_answer (Some v) = Ok v

-- a write answers only that it was done
abbrev pub written : Option ℕ → Result (Unit {0}) NotHeld
written None = Err not_held
written (Some v) = Ok tt
