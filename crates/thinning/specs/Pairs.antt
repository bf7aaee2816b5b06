-- The pair of a double run: a thinned routine and its original, run side by side, and how the original follows.
use Rattle.std.specs.Prelude.{ℕ, zero, suc, List, [], ◌∷◌, ◌++◌}
use Rattle.grammar.specs.Listings.{Listing}
use Rattle.memory.specs.Cells.{Cells}
use Rattle.orders.specs.declared.entries.Entry.{Entry}
use Rattle.orders.specs.declared.entries.Entry.TheVariants.{Step, Drain}
use Rattle.tso.specs.Machine.{State, Turn, refused, moved, updated, next}
use Rattle.tso.specs.Openings.{opening}
use Rattle.tso.specs.Outcomes.{after}

pub record Pair : Type 0 where
  pub thinned : State
  pub original : State
  -- the order that the original has been given
  pub tape : List Entry
  -- the entries that the thinned side has accepted
  pub accepted : List Entry
  -- how many of its accepted steps each party has still to make on the original side
  pub behind : ℕ → ℕ

-- both sides just opened, the thinned side on a memory of the cells f, the original on one of the cells g
abbrev pub paired : Listing → Listing → Cells → Cells → Pair
paired o t f g = record { thinned = opening t f; original = opening o g; tape = []; accepted = []; behind = λ p. 0 }

abbrev pub party_of : Entry → ℕ
party_of (Step p) = p
party_of (Drain p) = p

-- what an entry leads to on the original side: the state, the tape, and the steps that the entry's party is behind
pub record Followed : Type 0 where
  pub original : State
  pub tape : List Entry
  pub behind : ℕ

-- while the party is behind and the original accepts its step, that step is made
abbrev pub caught_up : Listing → ℕ → ℕ → State → List Entry → Followed
caught_up o p zero s xs = record { original = s; tape = xs; behind = 0 }
caught_up o p (suc n) s xs =
    elim (next o (Step p) s) [
      | refused e ↦ record { original = s; tape = xs; behind = suc n }
      | moved v ↦ caught_up o p n v (xs ++ (Step p ∷ []))
    ]

-- what the original makes of an entry that the thinned side accepted, by the steps that the entry's party was behind:
-- a step is tried at once if the party was not behind, and waits if it was; a drain is given to the original, and then the party catches up as far as it can
abbrev pub followed : Listing → Entry → ℕ → State → List Entry → Followed
followed o (Step p) zero s xs = caught_up o p 1 s xs
followed o (Step p) (suc n) s xs = record { original = s; tape = xs; behind = suc (suc n) }
followed o (Drain p) n s xs = caught_up o p n (after s (next o (Drain p) s)) (xs ++ (Drain p ∷ []))

-- the pair after an entry that took the thinned side to u
abbrev pub joined : Entry → State → Pair → Followed → Pair
joined e u d x = record { thinned = u; original = x.original; tape = x.tape; accepted = d.accepted ++ (e ∷ []); behind = updated d.behind (party_of e) x.behind }

abbrev pub follow : Listing → Entry → State → Pair → Pair
follow o e u d = joined e u d (followed o e (d.behind (party_of e)) d.original d.tape)

-- the pair after an entry on which the thinned side made that turn: nothing changes if it refused
abbrev pub taken : Listing → Entry → Pair → Turn → Pair
taken o e d (refused n) = d
taken o e d (moved u) = follow o e u d

-- the pair after a feed of the entry
abbrev pub fed : Listing → Listing → Entry → Pair → Pair
fed o t e d = taken o e d (next t e d.thinned)

-- the pair after a feed of each entry in turn
abbrev pub fed_all : Listing → Listing → List Entry → Pair → Pair
fed_all o t [] d = d
fed_all o t (e ∷ es) d = fed_all o t es (fed o t e d)
