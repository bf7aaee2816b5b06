use Rattle.std.proofs.Common.{◌≡◌, ◌≤◌, vec_len, vec_capacity}
use Rattle.routine.proofs.storage.four_parties.Given as goal

abbrev pub invariant-loop : goal.invariant-loop
invariant-loop l = (vec_len l.parties ≡ l.counter) × (4 ≤ vec_capacity l.parties)
