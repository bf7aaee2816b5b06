-- What an accepted entry changes, and why an entry is refused.
use Rattle.std.specs.Prelude.{◌≡◌, ℕ, ◌<◌, ◌≤◌, ◌⊎◌, ◌∷◌, length, Some, ◌≢◌}
use Rattle.fields.specs.declared.registers.Register.{Register}
use Rattle.instructions.specs.declared.types.Instruction.{Instruction}
use Rattle.instructions.specs.declared.types.Instruction.TheVariants.{Store, Exchange}
use Rattle.instructions.specs.declared.types.Operand.{Operand}
use Rattle.grammar.specs.Listings.{Listing, code_at}
use Rattle.paths.specs.Paths.{fetch, Barrier}
use Rattle.memory.specs.Cells.{put}
use Rattle.orders.specs.declared.entries.Entry.{Entry}
use Rattle.orders.specs.declared.entries.Entry.TheVariants.{Step, Drain}
use Rattle.tso.specs.Machine.{State, refused, moved, depth_of, next}
use Rattle.tso.specs.Outcomes.{after}
use Rattle.tso.specs.Tso.{Transition}
use Rattle.tso.specs.declared.faults.EntryFault.{EntryFault}
use Rattle.tso.specs.declared.faults.EntryFault.TheVariants.{NoParty, AtEnd, BufferFull, BufferNotEmpty, BufferEmpty}
use Rattle.tso.specs.declared.writes.Write.{Write}

-- the party of an entry
abbrev pub party_of : Entry → ℕ
party_of (Step p) = p
party_of (Drain p) = p

-- a refused entry changes nothing
abbrev pub RefusedChangesNothing : Type 0
RefusedChangesNothing = (l : Listing) (e : Entry) (s : State) (n : EntryFault) → next l e s ≡ refused n → after s (next l e s) ≡ s

-- from s to u a step of the party leaves memory as it was; but an exchange writes its word there at once
pub record Steps (l : Listing) (p : ℕ) (s u : State) : Type 0 where
  pub words : ((r : Register) (a : ℕ) → fetch (code_at l p) (s.party p).position ≢ Some (Exchange r a)) → u.words ≡ s.words
  pub exchanged : (r : Register) (a : ℕ) → fetch (code_at l p) (s.party p).position ≡ Some (Exchange r a) → u.words ≡ put s.words a ((s.party p).registers r)

-- from s to u a drain of the party moves its oldest waiting write to memory, and no more
pub record Drains (p : ℕ) (s u : State) : Type 0 where
  pub oldest : Write
  pub buffer : (s.party p).buffer ≡ oldest ∷ (u.party p).buffer
  pub position : (u.party p).position ≡ (s.party p).position
  pub registers : (u.party p).registers ≡ (s.party p).registers
  pub words : u.words ≡ put s.words oldest.address oldest.word

abbrev pub Does : Listing → Entry → State → State → Type 0
Does l (Step p) s u = Steps l p s u
Does l (Drain p) s u = Drains p s u

-- an accepted entry leaves the record of every other party as it was, and does to its own and to memory what its kind does
pub record Changes (l : Listing) (e : Entry) (s u : State) : Type 0 where
  pub others : (q : ℕ) → (q ≢ party_of e) → u.party q ≡ s.party q
  pub does : Does l e s u

abbrev pub AcceptedChangesOneParty : Type 0
AcceptedChangesOneParty = (l : Listing) (e : Entry) (s u : State) → next l e s ≡ moved u → Changes l e s u

-- why an entry is refused. The questions come in this order: each supposes that those before it were answered well
pub data Refuses (l : Listing) : Entry → State → EntryFault → Type 0 where
  -- 20: the routine has no such party
  no_party : {e : Entry} {s : State} → length l.parties ≤ party_of e → Refuses l e s NoParty
  -- 21: no instruction stands at the party's position
  at_end : {p : ℕ} {s : State} → p < length l.parties → length (code_at l p) ≤ (s.party p).position → Refuses l (Step p) s AtEnd
  -- 22: a store, and no room for one more waiting write
  full : {p : ℕ} {s : State} (a : ℕ) (o : Operand) → p < length l.parties → fetch (code_at l p) (s.party p).position ≡ Some (Store a o) → depth_of l ≤ length (s.party p).buffer → Refuses l (Step p) s BufferFull
  -- 23: a fence or an exchange, and a write that waits
  not_empty : {p : ℕ} {s : State} (i : Instruction) → p < length l.parties → fetch (code_at l p) (s.party p).position ≡ Some i → Barrier i → 0 < length (s.party p).buffer → Refuses l (Step p) s BufferNotEmpty
  -- 24: a drain, and no write that waits
  empty : {p : ℕ} {s : State} → p < length l.parties → length (s.party p).buffer ≡ 0 → Refuses l (Drain p) s BufferEmpty

abbrev pub RefusesExactly : Type 0
RefusesExactly = (l : Listing) (e : Entry) (s : State) (n : EntryFault) → (next l e s ≡ refused n → Refuses l e s n) × (Refuses l e s n → next l e s ≡ refused n)

-- an entry is refused for one reason, or x86-TSO has one transition by it, and never both
pub record Once (l : Listing) (e : Entry) (s : State) : Type 0 where
  pub either : ((n : EntryFault) × Refuses l e s n) ⊎ ((u : State) × Transition l e s u)
  pub not_both : (n : EntryFault) (u : State) → Refuses l e s n → Transition l e s u → ⊥
  pub one_reason : (m n : EntryFault) → Refuses l e s m → Refuses l e s n → m ≡ n
  pub one_state : (u v : State) → Transition l e s u → Transition l e s v → u ≡ v

abbrev pub AnsweredOnce : Type 0
AnsweredOnce = (l : Listing) (e : Entry) (s : State) → Once l e s
