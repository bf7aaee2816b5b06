-- Which entries are refused, and why.
use Rattle.std.proofs.Common.{◌≡◌, ℕ, ◌<◌, ◌≤◌, Bool, true, false, cond, ltb, ◌⊎◌, List, [], ◌∷◌, length, Some, None, Option, refl, ap, ◌∙◌, subst, inl, inr, arith}
use Rattle.std.proofs.lemmas.Bool.{lt-ltb, le-ltb, ltb-true, ltb-false, cases_lt}
use Rattle.instructions.specs.declared.types.Instruction.{Instruction}
use Rattle.instructions.specs.declared.types.Instruction.TheVariants.{Load, Store, Exchange, Fence, Nop, Set, Add, JumpNonzero, Jump}
use Rattle.grammar.specs.Listings.{Listing, code_at}
use Rattle.paths.specs.Paths.{Code, fetch, Barrier}
use Rattle.paths.proofs.Fetches.{fetch_at, fetch_end}
use Rattle.orders.specs.declared.entries.Entry.{Entry}
use Rattle.orders.specs.declared.entries.Entry.TheVariants.{Step, Drain}
use Rattle.tso.specs.Machine.{Party, State, Turn, refused, moved, depth_of, is_empty, step_fault, next}
use Rattle.tso.specs.Entries.{Refuses, no_party, at_end, full, not_empty, empty, RefusesExactly, AnsweredOnce}
use Rattle.tso.specs.Tso.{Transition}
use Rattle.tso.specs.declared.faults.EntryFault.{EntryFault}
use Rattle.tso.specs.declared.faults.EntryFault.TheVariants.{NoParty, AtEnd, BufferFull, BufferNotEmpty, BufferEmpty}
use Rattle.tso.specs.declared.writes.Write.{Write}
use Rattle.tso.proofs.Published.{moves_as_tso}
use Rattle.tso.proofs.Turns.{step_made}

end_from : (c : Code) (k : ℕ) → fetch c k ≡ None → length c ≤ k
end_from c k e = go (cases_lt k (length c))
  where
    go : (k < length c) ⊎ (length c ≤ k) → length c ≤ k
    go (inl h) = let at = fetch_at c k Nop h in cc
    go (inr h) = h

waits_from : (ws : List Write) (n : EntryFault) → cond (is_empty ws) None (Some BufferNotEmpty) ≡ Some n → (0 < length ws) × (BufferNotEmpty ≡ n)
waits_from [] n e = cc
waits_from (w ∷ ws) n e = (omega arith, cc)

full_from : (b : Bool) (n : EntryFault) → cond b None (Some BufferFull) ≡ Some n → (b ≡ false) × (BufferFull ≡ n)
full_from true n e = cc
full_from false n e = (refl, cc)

module _ (l : Listing) (p : ℕ) (s : State) where
  -- an instruction that is refused
  faulted : (i : Instruction) (n : EntryFault) → p < length l.parties → fetch (code_at l p) (s.party p).position ≡ Some i → step_fault (depth_of l) i (s.party p) ≡ Some n → Refuses l (Step p) s n
  faulted (Load r a) n here at e = cc
  faulted (Store a o) n here at e =
      let (no_room, is) = full_from (ltb (length (s.party p).buffer) (depth_of l)) n e in
      subst (Refuses l (Step p) s) is (full a o here at (ltb-false (length (s.party p).buffer) (depth_of l) no_room))
  faulted (Exchange r a) n here at e =
      let (waits, is) = waits_from (s.party p).buffer n e in
      subst (Refuses l (Step p) s) is (not_empty (Exchange r a) here at tt waits)
  faulted Fence n here at e =
      let (waits, is) = waits_from (s.party p).buffer n e in
      subst (Refuses l (Step p) s) is (not_empty Fence here at tt waits)
  faulted Nop n here at e = cc
  faulted (Set r o) n here at e = cc
  faulted (Add r o) n here at e = cc
  faulted (JumpNonzero r t) n here at e = cc
  faulted (Jump t) n here at e = cc

forth : (l : Listing) (e : Entry) (s : State) (n : EntryFault) → next l e s ≡ refused n → Refuses l e s n
forth l (Step p) s n h = go (ltb p (length l.parties)) refl (fetch (code_at l p) (s.party p).position) refl
  where
    free : (i : Instruction) → ltb p (length l.parties) ≡ true → fetch (code_at l p) (s.party p).position ≡ Some i → (o : Option EntryFault) → step_fault (depth_of l) i (s.party p) ≡ o → Refuses l (Step p) s n
    free i a b None c = let k = step_made l p s i a b c in cc
    free i a b (Some m) c = let same : m ≡ n = cc in faulted l p s i n (ltb-true p (length l.parties) a) b (c ∙ ap Some same)

    go : (b : Bool) → ltb p (length l.parties) ≡ b → (o : Option Instruction) → fetch (code_at l p) (s.party p).position ≡ o → Refuses l (Step p) s n
    go false a o b = let same : NoParty ≡ n = cc in subst (Refuses l (Step p) s) same (no_party (ltb-false p (length l.parties) a))
    go true a None b = let same : AtEnd ≡ n = cc in subst (Refuses l (Step p) s) same (at_end (ltb-true p (length l.parties) a) (end_from (code_at l p) (s.party p).position b))
    go true a (Some i) b = free i a b (step_fault (depth_of l) i (s.party p)) refl
forth l (Drain p) s n h = go (ltb p (length l.parties)) refl (s.party p).buffer refl
  where
    go : (b : Bool) → ltb p (length l.parties) ≡ b → (ws : List Write) → (s.party p).buffer ≡ ws → Refuses l (Drain p) s n
    go false a ws b = let same : NoParty ≡ n = cc in subst (Refuses l (Drain p) s) same (no_party (ltb-false p (length l.parties) a))
    go true a [] b = let same : BufferEmpty ≡ n = cc in subst (Refuses l (Drain p) s) same (empty (ltb-true p (length l.parties) a) (ap length b))
    go true a (w ∷ ws) b = cc

waits_some : (ws : List Write) → 0 < length ws → cond (is_empty ws) None (Some BufferNotEmpty) ≡ Some BufferNotEmpty
waits_some [] h = absurd (omega arith)
waits_some (w ∷ ws) h = refl

waits_none : (ws : List Write) → length ws ≡ 0 → ws ≡ []
waits_none [] h = refl
waits_none (w ∷ ws) h = cc

barred : (d : ℕ) (i : Instruction) (x : Party) → Barrier i → 0 < length x.buffer → step_fault d i x ≡ Some BufferNotEmpty
barred d (Load r a) x b h = absurd b
barred d (Store a s) x b h = absurd b
barred d (Exchange r a) x b h = waits_some x.buffer h
barred d Fence x b h = waits_some x.buffer h
barred d Nop x b h = absurd b
barred d (Set r s) x b h = absurd b
barred d (Add r s) x b h = absurd b
barred d (JumpNonzero r t) x b h = absurd b
barred d (Jump t) x b h = absurd b

step_refused : (l : Listing) (p : ℕ) (s : State) (i : Instruction) (n : EntryFault) → p < length l.parties → fetch (code_at l p) (s.party p).position ≡ Some i → step_fault (depth_of l) i (s.party p) ≡ Some n → next l (Step p) s ≡ refused n
step_refused l p s i n here b c = let a = lt-ltb p (length l.parties) here in cc

back : (l : Listing) (e : Entry) (s : State) (n : EntryFault) → Refuses l e s n → next l e s ≡ refused n
back l (Step p) s n (no_party out) = let a = le-ltb p (length l.parties) out in cc
back l (Drain p) s n (no_party out) = let a = le-ltb p (length l.parties) out in cc
back l e s n (at_end {p = p} here end) = let a = lt-ltb p (length l.parties) here in let b = fetch_end (code_at l p) (s.party p).position end in cc
back l e s n (full {p = p} x o here at h) = step_refused l p s (Store x o) BufferFull here at (rw (le-ltb (length (s.party p).buffer) (depth_of l) h))
back l e s n (not_empty {p = p} i here at b h) = step_refused l p s i BufferNotEmpty here at (barred (depth_of l) i (s.party p) b h)
back l e s n (empty {p = p} here h) = let a = lt-ltb p (length l.parties) here in let b = waits_none (s.party p).buffer h in cc

pub refuses_exactly : RefusesExactly
refuses_exactly l e s n = (forth l e s n, back l e s n)

pub answered_once : AnsweredOnce
answered_once l e s = record {
  either = go (next l e s) refl;
  not_both = λ n u r t. let a = back l e s n r in let b = (moves_as_tso l e s u).1 t in cc;
  one_reason = λ m n r q. let a = back l e s m r in let b = back l e s n q in cc;
  one_state = λ u v t w. let a = (moves_as_tso l e s u).1 t in let b = (moves_as_tso l e s v).1 w in cc;
}
  where
    go : (t : Turn) → next l e s ≡ t → ((n : EntryFault) × Refuses l e s n) ⊎ ((u : State) × Transition l e s u)
    go (refused n) h = inl (n, forth l e s n h)
    go (moved u) h = inr (u, (moves_as_tso l e s u).0 h)
