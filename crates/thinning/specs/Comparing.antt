-- When two states agree, when no write waits, and sums over parties.
use Rattle.std.specs.Prelude.{◌≡◌, ℕ, zero, suc, ◌+◌, true, [], length}
use Rattle.grammar.specs.Listings.{Listing, addresses_of}
use Rattle.memory.specs.Cells.{Cells}
use Rattle.tso.specs.Machine.{State}
use Rattle.tso.specs.Openings.{member}
use Rattle.thinning.specs.Pairs.{Pair}

-- the same word at every address of the routine
abbrev pub SameWords : Listing → Cells → Cells → Type 0
SameWords l m n = (a : ℕ) → member a (addresses_of l) ≡ true → m a ≡ n a

-- each party has the same position, registers and store buffer, and the words at the routine's addresses are the same
pub record Agree (l : Listing) (s u : State) : Type 0 where
  pub parties : (p : ℕ) → s.party p ≡ u.party p
  pub words : SameWords l s.words u.words

-- every store buffer is empty
abbrev pub NoWriteWaits : State → Type 0
NoWriteWaits s = (p : ℕ) → (s.party p).buffer ≡ []

-- the sum of the numbers at 0 to n - 1
abbrev pub sum_to : ℕ → (ℕ → ℕ) → ℕ
sum_to zero f = 0
sum_to (suc n) f = f n + sum_to n f

-- every accepted entry is on the tape, or is a step that a party below n is behind
abbrev pub Counted : ℕ → Pair → Type 0
Counted n d = length d.accepted ≡ length d.tape + sum_to n d.behind
