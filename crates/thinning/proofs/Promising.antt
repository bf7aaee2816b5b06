-- The promise of a double run, from what its feeds keep.
use Rattle.std.proofs.Common.{◌≡◌, ℕ, zero, suc, ◌≤◌, true, ltb, List, [], ◌∷◌, ◌++◌, length, take, sym, refl, ap, ◌∙◌, subst, arith}
use lib.Seq.{take-length}
use Rattle.std.proofs.lemmas.Bool.{le-ltb, ltb-true}
use Rattle.grammar.specs.Listings.{Listing}
use Rattle.memory.specs.Cells.{Cells}
use Rattle.orders.specs.declared.entries.Entry.{Entry}
use Rattle.passes.specs.Passes.{ThinnedFrom}
use Rattle.tso.specs.Machine.{State}
use Rattle.tso.specs.Openings.{Holds, AcceptsTo, opening}
use Rattle.thinning.specs.Pairs.{Pair, paired, fed}
use Rattle.thinning.specs.Calls.{Double, limit, opened, called, performed}
use Rattle.thinning.specs.Comparing.{Agree, sum_to, Counted}
use Rattle.thinning.specs.Promises.{Kept, DoubleRunPromise, ReachedGoesOn}
use Rattle.thinning.specs.declared.calls.Call.{Call}
use Rattle.thinning.proofs.Positions.{count_kept}
use Rattle.thinning.proofs.Memories.{runs-over}
use Rattle.thinning.proofs.Counting.{feeds_are_counted, one_more_at_most}
use Rattle.thinning.proofs.Following.{Linked, fed_linked, paired_linked}
use Rattle.thinning.proofs.Retelling.{level, rearranges, memories, agree, retells}
use Rattle.thinning.proofs.Calling.{close_leaves, abandon_leaves, feed_leaves, performed_keeps, performed-snoc, closed_drained, beyond_runs, drained_is}

sum_none : (n : ℕ) → sum_to n (λ p. 0) ≡ 0
sum_none zero = refl
sum_none (suc n) = omega (arith, sum_none n)

module _ {o f t : Listing} (th : ThinnedFrom o f t) (m n : Cells) where
  same_state : {x y : State} (l : Listing) → Agree l x y → (z : State) → y ≡ z → Agree l z x
  same_state l a z e = record { parties = λ p. sym (a.parties p ∙ ap (λ (s : State). s.party p) e); words = λ b h. sym (a.words b h ∙ ap (λ (s : State). s.words b) e) }

  kept : Holds n o → (d : Double) → Linked o f t m n d.pair → Counted (length o.parties) d.pair → length d.pair.accepted ≤ limit → Kept o t m n d
  kept hn d g c few =
      record {
        memories = memories th m n d.pair g;
        counted = c;
        few = few;
        lacking = λ p far. lacking p far (d.pair.behind p) refl;
        thinned_accepts = g.tied.thinned_run;
        original_accepts = g.tied.original_run;
        retells = retells th m n d.pair g hn;
        ends = ends;
        level = level th m n d.pair g;
        rearranges = rearranges th m n d.pair g;
        agree = agree th m n d.pair g;
        waiting = drained_is t m d.pair g.tied.thinned_run;
        closes = λ i h. (drained_is t m d.pair g.tied.thinned_run).0 (closed_drained o t i d h);
        close_leaves = λ i. close_leaves o t i d;
        abandon_leaves = λ i. abandon_leaves o t i d;
        feed_leaves = λ e. feed_leaves o t e d;
      }
    where
      lacking : (p : ℕ) → length o.parties ≤ p → (k : ℕ) → d.pair.behind p ≡ k → d.pair.behind p ≡ 0
      lacking p far zero z = z
      lacking p far (suc k) z =
          let a = g.waits p (omega arith) in
          let b = beyond_runs o d.pair.tape (opening o n) d.pair.original p g.tied.original_run (le-ltb p (length o.parties) far) in
          let y : ◌≡◌ {A = ℕ} 0 1 = cc in
          absurd (omega arith)

      ends : (c : Cells) → Holds c o → (v : State) → AcceptsTo o c d.pair.tape v → Agree o v d.pair.original
      ends c hc v h =
          let over = runs-over o n c hn hc d.pair.tape d.pair.original g.tied.original_run in
          let a = over.1 in
          let e : over.0 ≡ v = cc in
          same_state o over.2 v e

pub double_run_promise : DoubleRunPromise
double_run_promise o f t th m n hm hn number calls k =
    kept th m n hn (performed o t (take k calls) (opened o t m n number))
    (performed_keeps o t (Linked o f t m n) (λ e d _ g. fed_linked th m n e d g) (take k calls) (opened o t m n number) (paired_linked th m n hm hn))
    (performed_keeps o t (Counted (length o.parties)) (λ e d _ h. feeds_are_counted o t (length o.parties) many e d h) (take k calls) (opened o t m n number) start)
    (performed_keeps o t (λ d. length d.accepted ≤ limit) room (take k calls) (opened o t m n number) (omega arith))
  where
    many : length t.parties ≤ length o.parties
    many = omega (arith, count_kept th)

    start : Counted (length o.parties) (paired o t m n)
    start = omega (arith, sum_none (length o.parties))

    room : (e : Entry) (d : Pair) → ltb (length d.accepted) limit ≡ true → length d.accepted ≤ limit → length (fed o t e d).accepted ≤ limit
    room e d r h = omega (arith, one_more_at_most o t e d, ltb-true (length d.accepted) limit r)

pub reached_goes_on : ReachedGoesOn
reached_goes_on o f t th m n hm hn d r =
    record {
      further = λ c. record { number = r.number; calls = r.calls ++ (c ∷ []); led = ap (λ (x : Double). (called o t c x).left) r.led ∙ sym (performed-snoc o t r.calls c (opened o t m n r.number)) };
      kept = subst (λ (x : Double). Kept o t m n x) (sym (r.led ∙ ap (λ (cs : List Call). performed o t cs (opened o t m n r.number)) (sym (take-length r.calls))))
          (double_run_promise o f t th m n hm hn r.number r.calls (length r.calls));
    }
