-- A feed keeps the two sides of a double run tied, and whoever is behind has a write waiting.
use Rattle.std.proofs.Common.{◌≡◌, ℕ, zero, suc, ◌+◌, ◌<◌, Bool, true, false, eqb, ltb, ◌⊎◌, List, [], ◌∷◌, ◌++◌, length, Some, None, Option, sym, refl, ap, ◌∙◌, subst, inl, inr, arith}
use Rattle.std.proofs.lemmas.Bool.{eqb-false}
use Rattle.fields.specs.declared.registers.Register.{Register}
use Rattle.instructions.specs.declared.types.Instruction.{Instruction}
use Rattle.instructions.specs.declared.types.Instruction.TheVariants.{Load, Fence, Nop}
use Rattle.grammar.specs.Listings.{Listing, code_at}
use Rattle.memory.specs.Cells.{Cells}
use Rattle.paths.specs.Paths.{fetch}
use Rattle.paths.specs.Marks.{Walk, Dirty, Exposed}
use Rattle.orders.specs.declared.entries.Entry.{Entry}
use Rattle.orders.specs.declared.entries.Entry.TheVariants.{Step, Drain}
use Rattle.passes.specs.Passes.{ThinnedFrom}
use Rattle.tso.specs.Machine.{Party, State, Turn, refused, moved, depth_of, updated, is_empty, stepped, step_fault, next}
use Rattle.tso.specs.Openings.{Holds}
use Rattle.tso.specs.Outcomes.{after, restricted}
use Rattle.tso.specs.declared.faults.EntryFault.{EntryFault}
use Rattle.tso.specs.declared.writes.Write.{Write}
use Rattle.tso.proofs.Turns.{Stepped, Drained, step_made, step_inverse, drain_made, drain_inverse, updated_others}
use Rattle.tso.proofs.Restriction.{openings_alike}
use Rattle.thinning.specs.Pairs.{Pair, Followed, paired, caught_up, followed, joined, follow, taken, fed}
use Rattle.thinning.proofs.Updates.{same_or_not, updated_same, updated-other, updated_value, updated-twice}
use Rattle.thinning.proofs.Positions.{Alike, alike, forward_at, backward_at, count_kept, depth_kept, opening_kept}
use Rattle.thinning.proofs.Memories.{holds_thinned}
use Rattle.thinning.proofs.Ahead.{Silent, nothing_held, level, First, first, ahead_drained}
use Rattle.thinning.proofs.Clean.{hidden_step, load_exposed, hidden_start, silent_or_load}
use Rattle.thinning.proofs.Ties.{owed, Tied, pair_of, tie_level}
use Rattle.thinning.proofs.Moves.{both_step, both_drain, thinned_step, original_step}

-- if the party is behind, a write of it waits on the original side
abbrev pub Waits : Pair → ℕ → Type 0
Waits d q = 0 < d.behind q → is_empty (d.original.party q).buffer ≡ false

-- what holds between two feeds
pub record Linked (o f t : Listing) (m n : Cells) (d : Pair) : Type 0 where
  pub tied : Tied o f t m n d
  pub waits : (q : ℕ) → Waits d q

pub waiting_of : (l : List Write) → is_empty l ≡ false → (x : Write) × (xs : List Write) × (l ≡ x ∷ xs)
waiting_of [] e = cc
waiting_of (x ∷ xs) e = (x, xs, refl)

-- the original refuses a step that the thinned side could make: it is at a fence, and a write waits
record AtFence (l : Listing) (p : ℕ) (s : State) (i : Instruction) : Type 0 where
  fence : fetch (code_at l p) (s.party p).position ≡ Some Fence
  nop : i ≡ Nop
  waits : is_empty (s.party p).buffer ≡ false

at_fence : (l : Listing) (p : ℕ) (s : State) (b : Option Instruction) (i : Instruction) (c : EntryFault) → ltb p (length l.parties) ≡ true → Alike (fetch (code_at l p) (s.party p).position) b → b ≡ Some i
    → step_fault (depth_of l) i (s.party p) ≡ None → next l (Step p) s ≡ refused c → AtFence l p s i
at_fence l p s b i c h (inl e) a k r = let made = step_made l p s i h (sym e ∙ a) k in cc
at_fence l p s b i c h (inr e) a k r = go (is_empty (s.party p).buffer) refl
  where
    go : (y : Bool) → is_empty (s.party p).buffer ≡ y → AtFence l p s i
    go true q = let made = step_made l p s Fence h e.0 (cc) in cc
    go false q = record { fence = e.0; nop = cc; waits = q }

-- the pair with what the original made up for a party
abbrev rejoined : ℕ → Pair → Followed → Pair
rejoined p d x = pair_of d.thinned x.original x.tape d.accepted (updated d.behind p x.behind)

module _ {o f t : Listing} (th : ThinnedFrom o f t) (m n : Cells) where
  -- the counts are those of a pair that is linked
  same_counts : (u v : State) (xs es : List Entry) (b : ℕ → ℕ) (p k : ℕ) → b p ≡ k → Linked o f t m n (pair_of u v xs es b) → Linked o f t m n (pair_of u v xs es (updated b p k))
  same_counts u v xs es b p k e x = subst (λ (c : ℕ → ℕ). Linked o f t m n (pair_of u v xs es c)) (sym (updated_value b p k e)) x

  on_original : (p : ℕ) → ltb p (length t.parties) ≡ true → ltb p (length o.parties) ≡ true
  on_original p h = subst (λ (k : ℕ). ltb p k ≡ true) (count_kept th) h

  free_on_original : (i : Instruction) (x : Party) → step_fault (depth_of t) i x ≡ None → step_fault (depth_of o) i x ≡ None
  free_on_original i x h = subst (λ (k : ℕ). step_fault k i x ≡ None) (depth_kept th) h

  -- who is behind has a write waiting on the thinned side too
  pub waits_thinned : (d : Pair) (p : ℕ) → Linked o f t m n d → 0 < d.behind p → is_empty (d.thinned.party p).buffer ≡ false
  waits_thinned d p g h =
      let l = waiting_of (d.original.party p).buffer (g.waits p h) in
      let b = ahead_drained (g.tied.tie p).ahead l.0 l.1 l.2 in
      let e = b.buffer_is in
      rw e refl

  catch_up : (p k : ℕ) (d : Pair) → ltb p (length o.parties) ≡ true → Tied o f t m n d → d.behind p ≡ k → ((q : ℕ) → eqb q p ≡ false → Waits d q)
      → Linked o f t m n (rejoined p d (caught_up o p k d.original d.tape))
  catch_up p zero d h g z others = same_counts d.thinned d.original d.tape d.accepted d.behind p 0 z (record { tied = g; waits = λ q. go q (same_or_not q p) })
    where
      go : (q : ℕ) → (q ≡ p) ⊎ (eqb q p ≡ false) → Waits d q
      go q (inl e) = λ l. let y : d.behind q ≡ 0 = cc in absurd (omega arith)
      go q (inr e) = others q e
  catch_up p (suc k) d h g z others = go (λ d'. catch_up p k d' h) (next o (Step p) d.original) refl
    where
      x : First (depth_of t) (code_at t p) k (g.tie p).ks (d.original.party p) (d.thinned.party p)
      x = first (g.tie p).ks ((g.tie p).late ∙ z) (g.tie p).ahead

      stays : (c : EntryFault) → next o (Step p) d.original ≡ refused c → (q : ℕ) → (q ≡ p) ⊎ (eqb q p ≡ false) → Waits d q
      stays c r q (inl e) =
          λ l. subst (λ (j : ℕ). is_empty (d.original.party j).buffer ≡ false) (sym e)
          (at_fence o p d.original _ x.i c h (alike th p (d.original.party p).position) x.at (free_on_original x.i (d.original.party p) x.free) r).waits
      stays c r q (inr e) = others q e

      go : ((d' : Pair) → Tied o f t m n d' → d'.behind p ≡ k → ((q : ℕ) → eqb q p ≡ false → Waits d' q) → Linked o f t m n (rejoined p d' (caught_up o p k d'.original d'.tape)))
          → (y : Turn) → next o (Step p) d.original ≡ y → Linked o f t m n (rejoined p d (caught_up o p (suc k) d.original d.tape))
      go ih (refused c) r =
          let e : caught_up o p (suc k) d.original d.tape ≡ record { original = d.original; tape = d.tape; behind = suc k } = cc in
          subst (λ (y : Followed). Linked o f t m n (rejoined p d y)) (sym e)
          (same_counts d.thinned d.original d.tape d.accepted d.behind p (suc k) z (record { tied = g; waits = λ q. stays c r q (same_or_not q p) }))
      go ih (moved v) r =
          let d' : Pair = pair_of d.thinned v (d.tape ++ (Step p ∷ [])) d.accepted (updated d.behind p k) in
          let y : Followed = caught_up o p k v (d.tape ++ (Step p ∷ [])) in
          let e : caught_up o p (suc k) d.original d.tape ≡ y = cc in
          subst (λ (y : Followed). Linked o f t m n (rejoined p d y)) (sym e)
          (subst (λ (b : ℕ → ℕ). Linked o f t m n (pair_of d.thinned y.original y.tape d.accepted b)) (updated-twice d.behind p k y.behind)
          (ih d' (original_step th m n d p v k g z r) (updated_same d.behind p k)
          (λ q w l.
          let a = updated_others d.original v p _ (step_inverse o p d.original v r).party_is q (eqb-false q p w) in
          let b : d.behind q ≡ updated d.behind p k q = sym (updated-other d.behind p k q w) in
          let c = others q w (rw b l) in
          rw a c)))

  -- a step of a party that is not behind
  step_level : (d : Pair) (p : ℕ) (u : State) → Linked o f t m n d → d.behind p ≡ 0 → next t (Step p) d.thinned ≡ moved u
      → (y : Turn) → next o (Step p) d.original ≡ y → Linked o f t m n (joined (Step p) u d (caught_up o p 1 d.original d.tape))
  step_level d p u g z ht (moved v) ho =
      let e : caught_up o p 1 d.original d.tape ≡ record { original = v; tape = d.tape ++ (Step p ∷ []); behind = 0 } = cc in
      subst (λ (y : Followed). Linked o f t m n (joined (Step p) u d y)) (sym e)
      (same_counts u v (d.tape ++ (Step p ∷ [])) (d.accepted ++ (Step p ∷ [])) d.behind p 0 z
      (record { tied = both_step th m n d p u v g.tied z ht ho; waits = λ q. go q (same_or_not q p) }))
    where
      go : (q : ℕ) → (q ≡ p) ⊎ (eqb q p ≡ false) → Waits (pair_of u v (d.tape ++ (Step p ∷ [])) (d.accepted ++ (Step p ∷ [])) d.behind) q
      go q (inl e) = λ l. let y : d.behind q ≡ 0 = cc in absurd (omega arith)
      go q (inr e) = λ l. rw (updated_others d.original v p _ (step_inverse o p d.original v ho).party_is q (eqb-false q p e)) (g.waits q l)
  step_level d p u g z ht (refused c) ho =
      let e : caught_up o p 1 d.original d.tape ≡ record { original = d.original; tape = d.tape; behind = 1 } = cc in
      subst (λ (y : Followed). Linked o f t m n (joined (Step p) u d y)) (sym e)
      (record { tied = thinned_step th m n d p u 1 g.tied (omega arith) ht A si hi; waits = λ q. go q (same_or_not q p) })
    where
      A : Stepped t p d.thinned u
      A = step_inverse t p d.thinned u ht

      even : d.original.party p ≡ d.thinned.party p
      even = tie_level (g.tied.tie p) z

      X : AtFence o p d.original A.i
      X =
          at_fence o p d.original (fetch (code_at t p) (d.original.party p).position) A.i c (on_original p A.here) (alike th p (d.original.party p).position)
          (rw even A.at) (free_on_original A.i (d.original.party p) (rw even A.free)) ho

      si : Silent A.i
      si = subst (λ (j : Instruction). Silent j) (sym X.nop) tt

      dirty : Dirty (code_at o p) (d.original.party p).position
      dirty = (g.tied.tie p).on_path.dirty X.waits

      nop_there : fetch (code_at t p) (d.original.party p).position ≡ Some Nop
      nop_there = let a = A.at in let b = X.nop in let e = even in cc

      hidden : ¬ Exposed (code_at f p) (suc (d.original.party p).position)
      hidden =
          hidden_start (code_at o p) (code_at f p) (code_at t p) (d.original.party p).position (forward_at th p (d.original.party p).position) (backward_at th p (d.original.party p).position) X.fence nop_there dirty

      hi : ¬ Exposed (code_at f p) (stepped A.i (d.thinned.party p) nothing_held).position
      hi = rw X.nop (rw even at hidden)

      go : (q : ℕ) → (q ≡ p) ⊎ (eqb q p ≡ false) → Waits (pair_of u d.original d.tape (d.accepted ++ (Step p ∷ [])) (updated d.behind p 1)) q
      go q (inl e) = λ l. subst (λ (j : ℕ). is_empty (d.original.party j).buffer ≡ false) (sym e) X.waits
      go q (inr e) = λ l. g.waits q (rw (updated-other d.behind p 1 q e) at l)

  -- a step of a party that is behind: it meets no load, no exchange and no fence
  step_behind : (d : Pair) (p k : ℕ) (u : State) → Linked o f t m n d → d.behind p ≡ suc k → next t (Step p) d.thinned ≡ moved u
      → Linked o f t m n (pair_of u d.original d.tape (d.accepted ++ (Step p ∷ [])) (updated d.behind p (suc (suc k))))
  step_behind d p k u g z ht =
      record { tied = thinned_step th m n d p u (suc (suc k)) g.tied (omega arith) ht A si hi; waits = λ q. go q (same_or_not q p) }
    where
      A : Stepped t p d.thinned u
      A = step_inverse t p d.thinned u ht

      hidden : ¬ Exposed (code_at f p) (d.thinned.party p).position
      hidden = (g.tied.tie p).hidden (omega arith)

      si : Silent A.i
      si = pick (silent_or_load (depth_of t) A.i (d.thinned.party p) A.free (waits_thinned d p g (omega arith)))
        where
          pick : Silent A.i ⊎ ((r : Register) × (a : ℕ) × (A.i ≡ Load r a)) → Silent A.i
          pick (inl x) = x
          pick (inr x) = absurd (hidden (load_exposed (code_at f p) (code_at t p) (backward_at th p) (d.thinned.party p).position x.0 x.1 (A.at ∙ ap {B = Option Instruction} Some x.2)))

      hi : ¬ Exposed (code_at f p) (stepped A.i (d.thinned.party p) nothing_held).position
      hi = hidden_step (code_at f p) (code_at t p) (backward_at th p) (d.thinned.party p) A.i nothing_held A.at si hidden

      go : (q : ℕ) → (q ≡ p) ⊎ (eqb q p ≡ false) → Waits (pair_of u d.original d.tape (d.accepted ++ (Step p ∷ [])) (updated d.behind p (suc (suc k)))) q
      go q (inl e) = λ l. subst (λ (j : ℕ). is_empty (d.original.party j).buffer ≡ false) (sym e) (g.waits p (omega arith))
      go q (inr e) = λ l. g.waits q (rw (updated-other d.behind p (suc (suc k)) q e) at l)

  -- a drain: the original accepts it, and then catches up
  drain_linked : (d : Pair) (p : ℕ) (u : State) → Linked o f t m n d → next t (Drain p) d.thinned ≡ moved u
      → (y : Turn) → next o (Drain p) d.original ≡ y → Linked o f t m n (joined (Drain p) u d (caught_up o p (d.behind p) (after d.original y) (d.tape ++ (Drain p ∷ []))))
  drain_linked d p u g ht (refused c) ho = go (d.behind p) refl
    where
      A : Drained t p d.thinned u
      A = drain_inverse t p d.thinned u ht

      go : (k : ℕ) → d.behind p ≡ k → Linked o f t m n (joined (Drain p) u d (caught_up o p (d.behind p) (after d.original (refused c)) (d.tape ++ (Drain p ∷ []))))
      go zero z = let made = drain_made o p d.original A.w A.ws (on_original p A.here) (rw (tie_level (g.tied.tie p) z) A.buffer_is) in cc
      go (suc k) z =
          let l = waiting_of (d.original.party p).buffer (g.waits p (omega arith)) in
          let made = drain_made o p d.original l.0 l.1 (on_original p A.here) l.2 in cc
  drain_linked d p u g ht (moved v) ho =
      catch_up p (d.behind p) (pair_of u v (d.tape ++ (Drain p ∷ [])) (d.accepted ++ (Drain p ∷ [])) d.behind)
      (on_original p (drain_inverse t p d.thinned u ht).here)
      (both_drain th m n d p u v g.tied ht ho) refl
      (λ q e l. rw (updated_others d.original v p _ (drain_inverse o p d.original v ho).party_is q (eqb-false q p e)) (g.waits q l))

  follow_linked : (d : Pair) (e : Entry) (u : State) → Linked o f t m n d → next t e d.thinned ≡ moved u → Linked o f t m n (follow o e u d)
  follow_linked d (Step p) u g ht = go (d.behind p) refl
    where
      go : (k : ℕ) → d.behind p ≡ k → Linked o f t m n (joined (Step p) u d (followed o (Step p) (d.behind p) d.original d.tape))
      go zero z = rw z (step_level d p u g z ht (next o (Step p) d.original) refl)
      go (suc k) z = rw z (step_behind d p k u g z ht)
  follow_linked d (Drain p) u g ht = drain_linked d p u g ht (next o (Drain p) d.original) refl

  pub fed_linked : (e : Entry) (d : Pair) → Linked o f t m n d → Linked o f t m n (fed o t e d)
  fed_linked e d g = go (next t e d.thinned) refl
    where
      go : (y : Turn) → next t e d.thinned ≡ y → Linked o f t m n (taken o e d y)
      go (refused c) q = g
      go (moved u) q = follow_linked d e u g q

  -- just opened
  pub paired_linked : Holds m t → Holds n o → Linked o f t m n (paired o t m n)
  paired_linked hm hn =
      record {
        tied = record {
          thinned_run = refl;
          original_run = refl;
          words = ap (λ (s : State). s.words) (openings_alike t m n hm (holds_thinned th n hn)) ∙ ap (λ (s : State). (restricted t s).words) (opening_kept th n);
          counts = counts;
          arrivals = refl;
          tie = λ q. record {
            ks = [];
            late = refl;
            ahead = level;
            on_path = record { reach = Walk.here; dirty = λ e. cc };
            hidden = λ h. absurd (omega arith);
            steps = refl;
          };
        };
        waits = λ q h. absurd (omega arith);
      }
    where
      counts : (e : Entry) → 0 ≡ 0 + owed (λ p. 0) e
      counts (Step p) = refl
      counts (Drain p) = refl
