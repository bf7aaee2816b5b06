-- What the original accepts, the thinned routine accepts, with the same state after it.
use Rattle.std.proofs.Common.{◌≡◌, ℕ, Bool, true, false, cond, ltb, List, [], ◌∷◌, length, Some, Option, refl, inl, inr}
use Rattle.instructions.specs.declared.types.Instruction.{Instruction}
use Rattle.instructions.specs.declared.types.Instruction.TheVariants.{Fence, Nop}
use Rattle.grammar.specs.Listings.{Listing, code_at}
use Rattle.paths.specs.Paths.{fetch}
use Rattle.orders.specs.declared.entries.Entry.{Entry}
use Rattle.orders.specs.declared.entries.Entry.TheVariants.{Step, Drain}
use Rattle.passes.specs.Passes.{ThinnedFrom}
use Rattle.tso.specs.Machine.{State, Turn, refused, moved, is_empty, depth_of, step_at, next, runs}
use Rattle.tso.specs.declared.faults.EntryFault.TheVariants.{NoParty}
use Rattle.thinning.proofs.Positions.{Alike, alike, count_kept, depth_kept}

fence_as_nop : (n p : ℕ) (s u : State) → step_at n (Some Fence) p s ≡ moved u → step_at n (Some Nop) p s ≡ moved u
fence_as_nop n p s u = go (is_empty (s.party p).buffer) refl
  where
    go : (b : Bool) → is_empty (s.party p).buffer ≡ b → step_at n (Some Fence) p s ≡ moved u → step_at n (Some Nop) p s ≡ moved u
    go true e h = cc
    go false e h = cc

step_kept : (n : ℕ) (a b : Option Instruction) (p : ℕ) (s u : State) → Alike a b → step_at n a p s ≡ moved u → step_at n b p s ≡ moved u
step_kept n a b p s u (inl e) h = rw e h
step_kept n a b p s u (inr e) h = rw e.1 (fence_as_nop n p s u (rw e.0 at h))

module _ {o f t : Listing} (th : ThinnedFrom o f t) where
  pub next_kept : (e : Entry) (s u : State) → next o e s ≡ moved u → next t e s ≡ moved u
  next_kept (Step p) s u h = rw (count_kept th) (go (ltb p (length o.parties)) h)
    where
      go : (b : Bool)
          → cond b (step_at (depth_of o) (fetch (code_at o p) (s.party p).position) p s) (refused NoParty) ≡ moved u
          → cond b (step_at (depth_of t) (fetch (code_at t p) (s.party p).position) p s) (refused NoParty) ≡ moved u
      go true h = step_kept (depth_of t) _ _ p s u (alike th p (s.party p).position) (rw (depth_kept th) h)
      go false h = h
  next_kept (Drain p) s u h = rw (count_kept th) h

  pub runs_kept : (es : List Entry) (s u : State) → runs o es s ≡ Some u → runs t es s ≡ Some u
  runs_kept [] s u h = h
  runs_kept (e ∷ es) s u h = go (λ v. runs_kept es v u) (next o e s) refl h
    where
      go : ((v : State) → runs o es v ≡ Some u → runs t es v ≡ Some u) → (x : Turn) → next o e s ≡ x → runs o (e ∷ es) s ≡ Some u → runs t (e ∷ es) s ≡ Some u
      go ih (refused n) q h = cc
      go ih (moved v) q h =
          let a : next t e s ≡ moved v = next_kept e s v q in
          let b : runs o es v ≡ Some u = cc in
          let c = ih v b in
          cc
