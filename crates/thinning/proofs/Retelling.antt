-- What linked sides say of the tape; and so thinning adds nothing.
use Rattle.std.proofs.Common.{◌≡◌, ℕ, zero, suc, List, [], ◌∷◌, ◌++◌, Some, sym, refl, ap, ◌∙◌, subst, subst₂, append_assoc, append-nil, arith}
use Rattle.grammar.specs.Listings.{Listing}
use Rattle.memory.specs.Cells.{Cells}
use Rattle.orders.specs.declared.entries.Entry.{Entry}
use Rattle.orders.specs.declared.entries.Entry.TheVariants.{Step, Drain}
use Rattle.passes.specs.Passes.{ThinnedFrom}
use Rattle.tso.specs.Machine.{State, Turn, refused, moved, next, runs}
use Rattle.tso.specs.Openings.{Holds, member}
use Rattle.tso.specs.Traces.{Rearranges}
use Rattle.thinning.specs.Pairs.{Pair, paired, follow, taken, fed, fed_all}
use Rattle.thinning.specs.Comparing.{SameWords, Agree, NoWriteWaits}
use Rattle.thinning.specs.Promises.{Retells, ThinningAddsNothing}
use Rattle.thinning.proofs.Positions.{addresses_kept}
use Rattle.thinning.proofs.Memories.{same_words, runs-over, steps_over, arrivals_over, holds_original}
use Rattle.thinning.proofs.Ties.{tie_level, tie_steps}
use Rattle.thinning.proofs.Following.{Linked, waits_thinned, fed_linked, paired_linked}

module _ {o f t : Listing} (th : ThinnedFrom o f t) (m n : Cells) (d : Pair) (g : Linked o f t m n d) where
  -- once no write waits on the thinned side
  pub level : NoWriteWaits d.thinned → (p : ℕ) → d.behind p ≡ 0
  level still p = go (d.behind p) refl
    where
      go : (k : ℕ) → d.behind p ≡ k → d.behind p ≡ 0
      go zero z = z
      go (suc k) z =
          let a = waits_thinned th m n d p g (omega arith) in
          let b = still p in
          let y : ◌≡◌ {A = ℕ} 0 1 = cc in
          absurd (omega arith)

  pub rearranges : NoWriteWaits d.thinned → Rearranges d.tape d.accepted
  rearranges still (Step p) = omega (arith, g.tied.counts (Step p), level still p)
  rearranges still (Drain p) = omega (arith, g.tied.counts (Drain p))

  pub memories : SameWords o d.thinned.words d.original.words
  memories a h = same_words t d.thinned.words d.original.words g.tied.words a (ap (member a) (addresses_kept th) ∙ h)

  pub agree : NoWriteWaits d.thinned → Agree o d.original d.thinned
  agree still = record { parties = λ p. tie_level (g.tied.tie p) (level still p); words = λ a h. sym (memories a h) }

  -- over every memory that holds the addresses
  pub retells : Holds n o → (c : Cells) → Holds c o → Retells o t m c d.accepted d.tape d.thinned
  retells hn c hc =
      let over = runs-over o n c hn hc d.tape d.original g.tied.original_run in
      record {
        end = over.0;
        accepts = over.1;
        arrivals = arrivals_over o c n hc hn d.tape ∙ sym g.tied.arrivals;
        words = λ a h. sym (over.2.words a h) ∙ sym (memories a h);
        parties = λ still p. sym (over.2.parties p) ∙ tie_level (g.tied.tie p) (level still p);
        steps = λ still p. steps_over p o c n hc hn d.tape ∙ sym (tie_steps (g.tied.tie p) (level still p));
      }

-- feeding an order that the thinned routine accepts
module _ {o f t : Listing} (th : ThinnedFrom o f t) (m n : Cells) where
  all_linked : (es : List Entry) (d : Pair) → Linked o f t m n d → Linked o f t m n (fed_all o t es d)
  all_linked [] d g = g
  all_linked (e ∷ es) d g = all_linked es (fed o t e d) (fed_linked th m n e d g)

all_fed : (o t : Listing) (es : List Entry) (d : Pair) (u : State) → runs t es d.thinned ≡ Some u → ((fed_all o t es d).thinned ≡ u) × ((fed_all o t es d).accepted ≡ d.accepted ++ es)
all_fed o t [] d u h = let e : d.thinned ≡ u = cc in (e, sym (append-nil d.accepted))
all_fed o t (e ∷ es) d u h = go (λ d'. all_fed o t es d' u) (next t e d.thinned) refl
  where
    go : ((d' : Pair) → runs t es d'.thinned ≡ Some u → ((fed_all o t es d').thinned ≡ u) × ((fed_all o t es d').accepted ≡ d'.accepted ++ es))
        → (y : Turn) → next t e d.thinned ≡ y → ((fed_all o t (e ∷ es) d).thinned ≡ u) × ((fed_all o t (e ∷ es) d).accepted ≡ d.accepted ++ (e ∷ es))
    go ih (refused c) q = cc
    go ih (moved y) q =
        let k : runs t es y ≡ Some u = cc in
        let x = ih (follow o e y d) k in
        let b : fed o t e d ≡ follow o e y d = ap (taken o e d) q in
        (ap (λ (z : Pair). (fed_all o t es z).thinned) b ∙ x.0, ap (λ (z : Pair). (fed_all o t es z).accepted) b ∙ x.1 ∙ append_assoc d.accepted (e ∷ []) es)

pub thinning_adds_nothing : ThinningAddsNothing
thinning_adds_nothing o f t th m hm es u h =
    record {
      order = d.tape;
      retells = λ c hc. subst₂ (λ (x : List Entry) (s : State). Retells o t m c x d.tape s) is.1 is.0 (retells th m m d linked (holds_original th m hm) c hc);
      rearranges = λ still. subst (λ (x : List Entry). Rearranges d.tape x) is.1 (rearranges th m m d linked (λ p. ap (λ (s : State). (s.party p).buffer) is.0 ∙ still p));
    }
  where
    d : Pair
    d = fed_all o t es (paired o t m m)

    linked : Linked o f t m m d
    linked = all_linked th m m es (paired o t m m) (paired_linked th m m hm (holds_original th m hm))

    is : (d.thinned ≡ u) × (d.accepted ≡ es)
    is = all_fed o t es (paired o t m m) u h
