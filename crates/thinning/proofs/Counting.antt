-- Every accepted entry is on the tape, or is a step that a party is behind.
use Rattle.std.proofs.Common.{◌≡◌, ℕ, zero, suc, ◌+◌, ◌<◌, ◌≤◌, true, ltb, List, [], ◌∷◌, ◌++◌, length, refl, arith, length-append}
use Rattle.std.proofs.lemmas.Bool.{ltb-true}
use Rattle.grammar.specs.Listings.{Listing}
use Rattle.orders.specs.declared.entries.Entry.{Entry}
use Rattle.orders.specs.declared.entries.Entry.TheVariants.{Step, Drain}
use Rattle.tso.specs.Machine.{State, Turn, refused, moved, next}
use Rattle.tso.specs.Outcomes.{after}
use Rattle.tso.proofs.Turns.{step_inverse, drain_inverse}
use Rattle.thinning.specs.Pairs.{Pair, party_of, caught_up, followed, taken, fed}
use Rattle.thinning.specs.Comparing.{Counted}
use Rattle.thinning.specs.Promises.{FeedsAreCounted}
use Rattle.thinning.proofs.Updates.{sum-updated}

length-snoc : (xs : List Entry) (e : Entry) → length (xs ++ (e ∷ [])) ≡ suc (length xs)
length-snoc xs e = simp length-append (omega arith)

caught_counted : (o : Listing) (p n : ℕ) (s : State) (xs : List Entry) → length (caught_up o p n s xs).tape + (caught_up o p n s xs).behind ≡ length xs + n
caught_counted o p zero s xs = refl
caught_counted o p (suc n) s xs = go (λ v. caught_counted o p n v (xs ++ (Step p ∷ []))) (next o (Step p) s) refl
  where
    go : ((v : State) → length (caught_up o p n v (xs ++ (Step p ∷ []))).tape + (caught_up o p n v (xs ++ (Step p ∷ []))).behind ≡ length (xs ++ (Step p ∷ [])) + n)
        → (t : Turn) → next o (Step p) s ≡ t → length (caught_up o p (suc n) s xs).tape + (caught_up o p (suc n) s xs).behind ≡ length xs + suc n
    go ih (refused c) e = let a : caught_up o p (suc n) s xs ≡ record { original = s; tape = xs; behind = suc n } = cc in rw a
    go ih (moved v) e =
        let a : caught_up o p (suc n) s xs ≡ caught_up o p n v (xs ++ (Step p ∷ [])) = cc in
        let b = ih v in
        let c = length-snoc xs (Step p) in
        rw a (omega arith)

followed_counted : (o : Listing) (e : Entry) (k : ℕ) (s : State) (xs : List Entry) → length (followed o e k s xs).tape + (followed o e k s xs).behind ≡ suc (length xs + k)
followed_counted o (Step p) zero s xs = let a = caught_counted o p 1 s xs in omega arith
followed_counted o (Step p) (suc n) s xs = omega arith
followed_counted o (Drain p) k s xs =
    let a = caught_counted o p k (after s (next o (Drain p) s)) (xs ++ (Drain p ∷ [])) in
    let b = length-snoc xs (Drain p) in
    omega arith

-- the party of an accepted entry is one of the routine's
pub entry_here : (l : Listing) (e : Entry) (s u : State) → next l e s ≡ moved u → ltb (party_of e) (length l.parties) ≡ true
entry_here l (Step p) s u h = (step_inverse l p s u h).here
entry_here l (Drain p) s u h = (drain_inverse l p s u h).here

pub feeds_are_counted : FeedsAreCounted
feeds_are_counted o t n many e d h = go (next t e d.thinned) refl
  where
    go : (x : Turn) → next t e d.thinned ≡ x → Counted n (taken o e d x)
    go (refused c) q = h
    go (moved u) q =
        let a = length-snoc d.accepted e in
        let b = followed_counted o e (d.behind (party_of e)) d.original d.tape in
        let below : party_of e < n = omega (arith, ltb-true (party_of e) (length t.parties) (entry_here t e d.thinned u q)) in
        let c = sum-updated n d.behind (party_of e) (followed o e (d.behind (party_of e)) d.original d.tape).behind below in
        omega arith

-- a feed accepts one entry at most
pub one_more_at_most : (o t : Listing) (e : Entry) (d : Pair) → length (fed o t e d).accepted ≤ suc (length d.accepted)
one_more_at_most o t e d = go (next t e d.thinned)
  where
    go : (x : Turn) → length (taken o e d x).accepted ≤ suc (length d.accepted)
    go (refused c) = omega arith
    go (moved u) = let a = length-snoc d.accepted e in omega arith
