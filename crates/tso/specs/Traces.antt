-- What a run leaves behind it: each party's steps, all arrivals in memory; and when one order rearranges another.
use Rattle.std.specs.Prelude.{◌≡◌, ℕ, ◌+◌, Bool, false, if◌then◌else◌, List, [], ◌∷◌, ◌++◌, Some, None, Option, ◌==◌}
use Rattle.instructions.specs.declared.types.Instruction.{Instruction}
use Rattle.instructions.specs.declared.types.Instruction.TheVariants.{Load, Store, Exchange, Fence, Nop, Set, Add, JumpNonzero, Jump}
use Rattle.grammar.specs.Listings.{Listing, code_at}
use Rattle.paths.specs.Paths.{fetch}
use Rattle.orders.specs.declared.entries.Entry.{Entry}
use Rattle.orders.specs.declared.entries.Entry.TheVariants.{Step, Drain}
use Rattle.tso.specs.Machine.{Party, State, refused, moved, next}
use Rattle.tso.specs.declared.writes.Write.{Write}

-- what each entry of an order adds, in turn, up to the first that is refused
abbrev pub gathered : {X : Type 0} → (Entry → State → List X) → Listing → List Entry → State → List X
gathered f l [] s = []
gathered f l (e ∷ es) s = elim (next l e s) [ refused n ↦ [] | moved u ↦ f e s ++ gathered f l es u ]

-- the position that the party stood at, if the entry is a step of it
abbrev pub stood_at : ℕ → Entry → State → List ℕ
stood_at p (Step q) s = if p == q then (s.party q).position ∷ [] else []
stood_at p (Drain q) s = []

-- a word that reached memory: whose, where, and which
pub record Arrival : Type 0 where
  pub party : ℕ
  pub address : ℕ
  pub word : ℕ

abbrev pub exchanged : Option Instruction → ℕ → Party → List Arrival
exchanged None p x = []
exchanged (Some (Load r a)) p x = []
exchanged (Some (Store a s)) p x = []
exchanged (Some (Exchange r a)) p x = record { party = p; address = a; word = x.registers r } ∷ []
exchanged (Some Fence) p x = []
exchanged (Some Nop) p x = []
exchanged (Some (Set r s)) p x = []
exchanged (Some (Add r s)) p x = []
exchanged (Some (JumpNonzero r t)) p x = []
exchanged (Some (Jump t)) p x = []

abbrev pub oldest : List Write → ℕ → List Arrival
oldest [] p = []
oldest (w ∷ ws) p = record { party = p; address = w.address; word = w.word } ∷ []

-- what reaches memory at an entry
abbrev pub arriving : Listing → Entry → State → List Arrival
arriving l (Step p) s = exchanged (fetch (code_at l p) (s.party p).position) p (s.party p)
arriving l (Drain p) s = oldest (s.party p).buffer p

-- the steps of a party, by the positions that it stood at, and all arrivals, in turn
abbrev pub steps_of : ℕ → Listing → List Entry → State → List ℕ
steps_of p l es s = gathered (stood_at p) l es s

abbrev pub arrivals_of : Listing → List Entry → State → List Arrival
arrivals_of l es s = gathered (arriving l) l es s

abbrev pub same_entry : Entry → Entry → Bool
same_entry (Step p) (Step q) = p == q
same_entry (Step p) (Drain q) = false
same_entry (Drain p) (Step q) = false
same_entry (Drain p) (Drain q) = p == q

-- how often an entry occurs in an order
abbrev pub occurs : Entry → List Entry → ℕ
occurs e [] = 0
occurs e (x ∷ xs) = (if same_entry e x then 1 else 0) + occurs e xs

-- one order rearranges another: each entry occurs equally often in both
abbrev pub Rearranges : List Entry → List Entry → Type 0
Rearranges xs ys = (e : Entry) → occurs e xs ≡ occurs e ys
