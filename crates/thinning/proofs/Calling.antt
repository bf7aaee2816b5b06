-- What calls other than feed leave, what a close asks, and what feeds keep over a list of calls.
use Rattle.std.proofs.Common.{◌≡◌, ℕ, zero, suc, ◌<◌, Bool, true, false, cond, eqb, ltb, ◌⊎◌, ◌↔◌, List, [], ◌∷◌, ◌++◌, length, Some, sym, refl, ap, ◌∙◌, subst, inl, inr, arith}
use Rattle.std.proofs.lemmas.Bool.{and_from, and_parts, ltb-true, ltb-false, eqb-false}
use Rattle.grammar.specs.Listings.{Listing}
use Rattle.memory.specs.Cells.{Cells}
use Rattle.orders.specs.declared.entries.Entry.{Entry}
use Rattle.orders.specs.declared.entries.Entry.TheVariants.{Step, Drain}
use Rattle.tso.specs.Machine.{Party, State, Turn, refused, moved, is_empty, next, runs}
use Rattle.tso.specs.Openings.{opening, AcceptsTo}
use Rattle.tso.specs.declared.writes.Write.{Write}
use Rattle.tso.proofs.Turns.{step_inverse, drain_inverse, updated_others}
use Rattle.thinning.specs.Pairs.{Pair, fed}
use Rattle.thinning.specs.Calls.{Double, Outcome, limit, refused_by, reply_to, none_waits, drained_out, abandoned_at, called, performed}
use Rattle.thinning.specs.Comparing.{NoWriteWaits}
use Rattle.thinning.specs.declared.calls.Call.{Call}
use Rattle.thinning.specs.declared.calls.Call.TheVariants.{Feed, Close, Abandon}
use Rattle.thinning.specs.declared.calls.Reply.{Reply}
use Rattle.thinning.specs.declared.calls.Reply.TheVariants.{Closed}
use Rattle.thinning.specs.declared.faults.DoubleFault.TheVariants as fault
use Rattle.thinning.proofs.Updates.{same_or_not}

-- an end, accepted or refused, leaves the pair
abbrev ends_by : Reply → Double → Bool → Bool → Bool → Outcome
ends_by r d a b c =
    cond a
    (cond b (cond c (record { reply = r; left = record { pair = d.pair; control = record { running = false; number = d.control.number } } }) (refused_by fault.Waiting d)) (refused_by fault.Tag d))
    (refused_by fault.Ended d)

end_leaves : (r : Reply) (d : Double) (a b c : Bool) → (ends_by r d a b c).left.pair ≡ d.pair
end_leaves r d true true true = refl
end_leaves r d true true false = refl
end_leaves r d true false c = refl
end_leaves r d false b c = refl

pub close_leaves : (o t : Listing) (i : ℕ) (d : Double) → (called o t (Close i) d).left.pair ≡ d.pair
close_leaves o t i d = end_leaves Closed d d.control.running (eqb i d.control.number) (drained_out t d.pair)

pub abandon_leaves : (o t : Listing) (i : ℕ) (d : Double) → (called o t (Abandon i) d).left.pair ≡ d.pair
abandon_leaves o t i d = end_leaves (abandoned_at d.pair.behind) d d.control.running (eqb i d.control.number) true

-- a feed leaves the control, and a pair that is as it was or fed
abbrev pub feeds_by : Listing → Listing → Entry → Double → Bool → Bool → Outcome
feeds_by o t e d a b =
    cond a
    (cond b (record { reply = reply_to (next t e d.pair.thinned); left = record { pair = fed o t e d.pair; control = d.control } }) (refused_by fault.Limit d))
    (refused_by fault.Ended d)

pub feed_leaves : (o t : Listing) (e : Entry) (d : Double) → (called o t (Feed e) d).left.control ≡ d.control
feed_leaves o t e d = go d.control.running (ltb (length d.pair.accepted) limit)
  where
    go : (a b : Bool) → (feeds_by o t e d a b).left.control ≡ d.control
    go true true = refl
    go true false = refl
    go false b = refl

-- what every feed keeps while there is room, every list of calls keeps
module _ (o t : Listing) (P : Pair → Type 0) (keeps : (e : Entry) (d : Pair) → ltb (length d.accepted) limit ≡ true → P d → P (fed o t e d)) where
  called_keeps : (c : Call) (d : Double) → P d.pair → P (called o t c d).left.pair
  called_keeps (Feed e) d h = go d.control.running (ltb (length d.pair.accepted) limit) refl
    where
      go : (a b : Bool) → ltb (length d.pair.accepted) limit ≡ b → P (feeds_by o t e d a b).left.pair
      go true true r = keeps e d.pair r h
      go true false r = h
      go false b r = h
  called_keeps (Close i) d h = subst P (sym (close_leaves o t i d)) h
  called_keeps (Abandon i) d h = subst P (sym (abandon_leaves o t i d)) h

  pub performed_keeps : (cs : List Call) (d : Double) → P d.pair → P (performed o t cs d).pair
  performed_keeps [] d h = h
  performed_keeps (c ∷ cs) d h = performed_keeps cs (called o t c d).left (called_keeps c d h)

-- one call more
pub performed-snoc : (o t : Listing) (cs : List Call) (c : Call) (d : Double) → performed o t (cs ++ (c ∷ [])) d ≡ (called o t c (performed o t cs d)).left
performed-snoc o t [] c d = refl
performed-snoc o t (x ∷ cs) c d = performed-snoc o t cs c (called o t x d).left

-- an accepted close
pub closed_drained : (o t : Listing) (i : ℕ) (d : Double) → (called o t (Close i) d).reply ≡ Closed → drained_out t d.pair ≡ true
closed_drained o t i d = go d.control.running (eqb i d.control.number) (drained_out t d.pair)
  where
    go : (a b c : Bool) → (ends_by Closed d a b c).reply ≡ Closed → c ≡ true
    go true true true h = refl
    go true true false h = cc
    go true false c h = cc
    go false b c h = cc

-- a party that the routine lacks stays as it was
beyond_apart : (l : Listing) (p q : ℕ) → ltb q (length l.parties) ≡ true → ltb p (length l.parties) ≡ false → p ≡ q → ⊥
beyond_apart l p q here away e = omega (arith, ltb-true q (length l.parties) here, ltb-false p (length l.parties) away)

beyond_next : (l : Listing) (e : Entry) (s u : State) (p : ℕ) → next l e s ≡ moved u → ltb p (length l.parties) ≡ false → u.party p ≡ s.party p
beyond_next l (Step q) s u p h away = let i = step_inverse l q s u h in updated_others s u q _ i.party_is p (beyond_apart l p q i.here away)
beyond_next l (Drain q) s u p h away = let i = drain_inverse l q s u h in updated_others s u q _ i.party_is p (beyond_apart l p q i.here away)

pub beyond_runs : (l : Listing) (es : List Entry) (s u : State) (p : ℕ) → runs l es s ≡ Some u → ltb p (length l.parties) ≡ false → u.party p ≡ s.party p
beyond_runs l [] s u p h away = let e : s ≡ u = cc in ap (λ (x : State). x.party p) (sym e)
beyond_runs l (e ∷ es) s u p h away = go (λ y. beyond_runs l es y u p) (next l e s) refl
  where
    go : ((y : State) → runs l es y ≡ Some u → ltb p (length l.parties) ≡ false → u.party p ≡ y.party p) → (x : Turn) → next l e s ≡ x → u.party p ≡ s.party p
    go ih (refused c) q = cc
    go ih (moved y) q = let k : runs l es y ≡ Some u = cc in ih y k away ∙ beyond_next l e s y p q away

-- the test of a close, party by party
empty_is : (ws : List Write) → is_empty ws ≡ true → ws ≡ []
empty_is [] h = refl
empty_is (w ∷ ws) h = cc

none_waits_at : (n i : ℕ) (g : ℕ → Party) → i < n → none_waits n g ≡ true → (g i).buffer ≡ []
none_waits_at zero i g h e = absurd (omega arith)
none_waits_at (suc n) i g h e = go (λ l. none_waits_at n i g l) (same_or_not i n)
  where
    parts : (is_empty (g n).buffer ≡ true) × (none_waits n g ≡ true)
    parts = and_parts (is_empty (g n).buffer) (none_waits n g) e

    go : (i < n → none_waits n g ≡ true → (g i).buffer ≡ []) → (i ≡ n) ⊎ (eqb i n ≡ false) → (g i).buffer ≡ []
    go ih (inl k) = ap (λ (j : ℕ). (g j).buffer) k ∙ empty_is (g n).buffer parts.0
    go ih (inr k) = ih (omega (arith, eqb-false i n k)) parts.1

none_waits_all : (n : ℕ) (g : ℕ → Party) → ((p : ℕ) → (g p).buffer ≡ []) → none_waits n g ≡ true
none_waits_all zero g h = refl
none_waits_all (suc n) g h = and_from (is_empty (g n).buffer) (none_waits n g) (ap is_empty (h n)) (none_waits_all n g h)

pub drained_is : (t : Listing) (m : Cells) (d : Pair) → AcceptsTo t m d.accepted d.thinned → (drained_out t d ≡ true) ↔ NoWriteWaits d.thinned
drained_is t m d run = (λ h p. to h p (ltb p (length t.parties)) refl, λ h. none_waits_all (length t.parties) d.thinned.party h)
  where
    to : drained_out t d ≡ true → (p : ℕ) (b : Bool) → ltb p (length t.parties) ≡ b → (d.thinned.party p).buffer ≡ []
    to h p true e = none_waits_at (length t.parties) p d.thinned.party (ltb-true p (length t.parties) e) h
    to h p false e = ap (λ (x : Party). x.buffer) (beyond_runs t d.accepted (opening t m) d.thinned p run e)
