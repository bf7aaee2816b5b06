-- The four moves of a double run, each of which keeps its two sides tied.
use Rattle.std.proofs.Common.{◌≡◌, ℕ, suc, ◌+◌, false, cond, eqb, ◌⊎◌, List, [], ◌∷◌, ◌++◌, sym, refl, ap, ◌∙◌, subst, inl, inr, append_assoc, append-nil, arith, length-append}
use Rattle.std.proofs.lemmas.Bool.{eqb-false}
use Rattle.grammar.specs.Listings.{Listing, code_at, addresses_of}
use Rattle.memory.specs.Cells.{Cells}
use Rattle.paths.specs.Paths.{fetch}
use Rattle.paths.specs.Marks.{Exposed}
use Rattle.orders.specs.declared.entries.Entry.{Entry}
use Rattle.orders.specs.declared.entries.Entry.TheVariants.{Step, Drain}
use Rattle.passes.specs.Passes.{ThinnedFrom}
use Rattle.tso.specs.Machine.{Party, State, moved, depth_of, updated, stepped, words_after, drained, next}
use Rattle.tso.specs.Openings.{opening}
use Rattle.tso.specs.Outcomes.{within, restricted}
use Rattle.tso.specs.Traces.{arriving, exchanged, steps_of, arrivals_of, occurs}
use Rattle.tso.specs.declared.writes.Write.{Write}
use Rattle.tso.proofs.Turns.{Stepped, Drained, step_inverse, drain_inverse, updated_own, updated_others}
use Rattle.thinning.specs.Pairs.{Pair}
use Rattle.thinning.proofs.Updates.{eqb_self, same_or_not, updated_same, updated-other}
use Rattle.thinning.proofs.Growing.{runs-snoc, gathered_snoc, occurs-snoc}
use Rattle.thinning.proofs.Positions.{alike}
use Rattle.thinning.proofs.Accepting.{next_kept}
use Rattle.thinning.proofs.Ahead.{Silent, nothing_held, Ahead, level, silent_stepped, silent_words, silent_exchanged, ahead_snoc, First, first, BothDrained, ahead_drained}
use Rattle.thinning.proofs.Clean.{OnPath, on_path_step, on_path_drain}
use Rattle.thinning.proofs.Ties.{owed, TieAt, Tied, pair_of, tie_move, restricted_moved, steps_other, steps_same, steps_drain, tie_level, tie_steps, exchanged_alike, alike_silent}

module _ {o f t : Listing} (th : ThinnedFrom o f t) (m n : Cells) where
  -- both sides step a party that is not behind
  pub both_step : (d : Pair) (p : ℕ) (u v : State) → Tied o f t m n d → d.behind p ≡ 0
      → next t (Step p) d.thinned ≡ moved u → next o (Step p) d.original ≡ moved v
      → Tied o f t m n (pair_of u v (d.tape ++ (Step p ∷ [])) (d.accepted ++ (Step p ∷ [])) d.behind)
  both_step d p u v g z ht ho =
      record {
        thinned_run = runs-snoc t d.accepted (Step p) (opening t m) d.thinned u g.thinned_run ht;
        original_run = runs-snoc o d.tape (Step p) (opening o n) d.original v g.original_run ho;
        words = words;
        counts = λ e. omega (arith, g.counts e, occurs-snoc e (Step p) d.accepted, occurs-snoc e (Step p) d.tape);
        arrivals = arrivals;
        tie = λ q. tie q (same_or_not q p);
      }
    where
      d' : Pair
      d' = pair_of u v (d.tape ++ (Step p ∷ [])) (d.accepted ++ (Step p ∷ [])) d.behind

      A : Stepped t p (restricted t d.thinned) (restricted t u)
      A = step_inverse t p (restricted t d.thinned) (restricted t u) (restricted_moved t (Step p) d.thinned u ht)

      B : Stepped o p d.original v
      B = step_inverse o p d.original v ho

      C : Stepped t p (restricted t d.original) (restricted t v)
      C = step_inverse t p (restricted t d.original) (restricted t v) (restricted_moved t (Step p) d.original v (next_kept th (Step p) d.original v ho))

      even : d.original.party p ≡ d.thinned.party p
      even = tie_level (g.tie p) z

      same_i : A.i ≡ C.i
      same_i = let a = A.at in let b = C.at in let c = even in cc

      words : within (addresses_of t) u.words ≡ within (addresses_of t) v.words
      words = let a = A.words_is in let b = C.words_is in let c = even in let e = same_i in let w = g.words in cc

      same_party : u.party p ≡ v.party p
      same_party =
          let a = updated_own d.thinned u p (stepped A.i (d.thinned.party p) (within (addresses_of t) d.thinned.words)) A.party_is in
          let b = updated_own d.original v p (stepped C.i (d.original.party p) (within (addresses_of t) d.original.words)) C.party_is in
          let c = even in
          let e = same_i in
          let w = g.words in
          cc

      arrivals : arrivals_of t (d.accepted ++ (Step p ∷ [])) (opening t m) ≡ arrivals_of o (d.tape ++ (Step p ∷ [])) (opening o n)
      arrivals =
          let a = gathered_snoc (arriving t) t d.accepted (Step p) (opening t m) d.thinned u g.thinned_run ht in
          let b = gathered_snoc (arriving o) o d.tape (Step p) (opening o n) d.original v g.original_run ho in
          let c = even in
          let e = exchanged_alike (fetch (code_at o p) (d.original.party p).position) (fetch (code_at t p) (d.original.party p).position) p (d.original.party p) (alike th p (d.original.party p).position) in
          let w = g.arrivals in
          cc

      tie_p : TieAt o f t m n d' p
      tie_p =
          record {
            ks = [];
            late = sym z;
            ahead = subst (λ (x : Party). Ahead (depth_of t) (code_at t p) [] (v.party p) x) (sym same_party) level;
            on_path = subst (λ (x : Party). OnPath (code_at o p) x) (sym (updated_own d.original v p (stepped B.i (d.original.party p) d.original.words) B.party_is))
                (on_path_step (depth_of o) (code_at o p) (d.original.party p) B.i d.original.words (g.tie p).on_path B.at B.free);
            hidden = λ h. absurd (omega arith);
            steps =
                let a = steps_same t d.accepted p (opening t m) d.thinned u g.thinned_run ht in
                let b = steps_same o d.tape p (opening o n) d.original v g.original_run ho in
                let c = even in
                let e = tie_steps (g.tie p) z in
                let w = append-nil (steps_of p o (d.tape ++ (Step p ∷ [])) (opening o n)) in
                cc;
          }

      tie : (q : ℕ) → (q ≡ p) ⊎ (eqb q p ≡ false) → TieAt o f t m n d' q
      tie q (inl e) = subst (λ (k : ℕ). TieAt o f t m n d' k) (sym e) tie_p
      tie q (inr e) =
          tie_move refl (updated_others d.original v p _ B.party_is q (eqb-false q p e)) (updated_others d.thinned u p _ A.party_is q (eqb-false q p e))
          (steps_other o d.tape p (opening o n) d.original v g.original_run ho q e) (steps_other t d.accepted p (opening t m) d.thinned u g.thinned_run ht q e) (g.tie q)

  -- both sides drain a party
  pub both_drain : (d : Pair) (p : ℕ) (u v : State) → Tied o f t m n d
      → next t (Drain p) d.thinned ≡ moved u → next o (Drain p) d.original ≡ moved v
      → Tied o f t m n (pair_of u v (d.tape ++ (Drain p ∷ [])) (d.accepted ++ (Drain p ∷ [])) d.behind)
  both_drain d p u v g ht ho =
      record {
        thinned_run = runs-snoc t d.accepted (Drain p) (opening t m) d.thinned u g.thinned_run ht;
        original_run = runs-snoc o d.tape (Drain p) (opening o n) d.original v g.original_run ho;
        words = words;
        counts = λ e. omega (arith, g.counts e, occurs-snoc e (Drain p) d.accepted, occurs-snoc e (Drain p) d.tape);
        arrivals = arrivals;
        tie = λ q. tie q (same_or_not q p);
      }
    where
      d' : Pair
      d' = pair_of u v (d.tape ++ (Drain p ∷ [])) (d.accepted ++ (Drain p ∷ [])) d.behind

      A : Drained t p (restricted t d.thinned) (restricted t u)
      A = drain_inverse t p (restricted t d.thinned) (restricted t u) (restricted_moved t (Drain p) d.thinned u ht)

      B : Drained t p (restricted t d.original) (restricted t v)
      B = drain_inverse t p (restricted t d.original) (restricted t v) (restricted_moved t (Drain p) d.original v (next_kept th (Drain p) d.original v ho))

      C : BothDrained (depth_of t) (code_at t p) (g.tie p).ks (d.original.party p) (d.thinned.party p) B.w B.ws
      C = ahead_drained (g.tie p).ahead B.w B.ws B.buffer_is

      same_w : A.w ≡ B.w
      same_w = let a = A.buffer_is in let b = C.buffer_is in cc

      same_ws : A.ws ≡ C.ts
      same_ws = let a = A.buffer_is in let b = C.buffer_is in cc

      words : within (addresses_of t) u.words ≡ within (addresses_of t) v.words
      words = let a = A.words_is in let b = B.words_is in let e = same_w in let w = g.words in cc

      arrivals : arrivals_of t (d.accepted ++ (Drain p ∷ [])) (opening t m) ≡ arrivals_of o (d.tape ++ (Drain p ∷ [])) (opening o n)
      arrivals =
          let a = gathered_snoc (arriving t) t d.accepted (Drain p) (opening t m) d.thinned u g.thinned_run ht in
          let b = gathered_snoc (arriving o) o d.tape (Drain p) (opening o n) d.original v g.original_run ho in
          let c = A.buffer_is in
          let e = B.buffer_is in
          let h = same_w in
          let w = g.arrivals in
          cc

      tie_p : TieAt o f t m n d' p
      tie_p =
          tie_move refl (updated_own d.original v p _ B.party_is) (updated_own d.thinned u p _ A.party_is ∙ ap (λ (l : List Write). drained (d.thinned.party p) l) same_ws)
          (steps_drain o d.tape p (opening o n) d.original v g.original_run ho p) (steps_drain t d.accepted p (opening t m) d.thinned u g.thinned_run ht p)
          (record {
            ks = (g.tie p).ks;
            late = (g.tie p).late;
            ahead = C.ahead;
            on_path = on_path_drain (code_at o p) (d.original.party p) B.w B.ws (g.tie p).on_path B.buffer_is;
            hidden = (g.tie p).hidden;
            steps = (g.tie p).steps;
          })

      tie : (q : ℕ) → (q ≡ p) ⊎ (eqb q p ≡ false) → TieAt o f t m n d' q
      tie q (inl e) = subst (λ (k : ℕ). TieAt o f t m n d' k) (sym e) tie_p
      tie q (inr e) =
          tie_move refl (updated_others d.original v p _ B.party_is q (eqb-false q p e)) (updated_others d.thinned u p _ A.party_is q (eqb-false q p e))
          (steps_drain o d.tape p (opening o n) d.original v g.original_run ho q) (steps_drain t d.accepted p (opening t m) d.thinned u g.thinned_run ht q) (g.tie q)

  -- the thinned side steps silently, and the original does not
  pub thinned_step : (d : Pair) (p : ℕ) (u : State) (k : ℕ) → Tied o f t m n d → k ≡ suc (d.behind p)
      → next t (Step p) d.thinned ≡ moved u → (A : Stepped t p d.thinned u) → Silent A.i → ¬ Exposed (code_at f p) (stepped A.i (d.thinned.party p) nothing_held).position
      → Tied o f t m n (pair_of u d.original d.tape (d.accepted ++ (Step p ∷ [])) (updated d.behind p k))
  thinned_step d p u k g z ht A si hi =
      record {
        thinned_run = runs-snoc t d.accepted (Step p) (opening t m) d.thinned u g.thinned_run ht;
        original_run = g.original_run;
        words = ap (within (addresses_of t)) (A.words_is ∙ silent_words A.i si (d.thinned.party p) d.thinned.words) ∙ g.words;
        counts = counts;
        arrivals = arrivals;
        tie = λ q. tie q (same_or_not q p);
      }
    where
      d' : Pair
      d' = pair_of u d.original d.tape (d.accepted ++ (Step p ∷ [])) (updated d.behind p k)

      owes : (q : ℕ) → (q ≡ p) ⊎ (eqb q p ≡ false) → updated d.behind p k q ≡ d.behind q + cond (eqb q p) 1 0
      owes q (inl e) = rw e (rw (eqb_self p) (omega arith))
      owes q (inr e) = rw e (omega arith)

      counts : (e : Entry) → occurs e (d.accepted ++ (Step p ∷ [])) ≡ occurs e d.tape + owed (updated d.behind p k) e
      counts (Step q) = omega (arith, g.counts (Step q), occurs-snoc (Step q) (Step p) d.accepted, owes q (same_or_not q p))
      counts (Drain q) = omega (arith, g.counts (Drain q), occurs-snoc (Drain q) (Step p) d.accepted)

      arrivals : arrivals_of t (d.accepted ++ (Step p ∷ [])) (opening t m) ≡ arrivals_of o d.tape (opening o n)
      arrivals =
          let a = gathered_snoc (arriving t) t d.accepted (Step p) (opening t m) d.thinned u g.thinned_run ht in
          let b = A.at in
          let c = silent_exchanged A.i p (d.thinned.party p) si in
          let e = append-nil (arrivals_of t d.accepted (opening t m)) in
          let w = g.arrivals in
          cc

      now_is : u.party p ≡ stepped A.i (d.thinned.party p) nothing_held
      now_is = updated_own d.thinned u p _ A.party_is ∙ silent_stepped A.i si (d.thinned.party p) d.thinned.words nothing_held

      tie_p : TieAt o f t m n d' p
      tie_p =
          tie_move (updated_same d.behind p k) refl now_is refl (steps_same t d.accepted p (opening t m) d.thinned u g.thinned_run ht)
          (record {
            ks = (g.tie p).ks ++ ((d.thinned.party p).position ∷ []);
            late = simp length-append (omega (arith, (g.tie p).late));
            ahead = ahead_snoc (g.tie p).ahead A.i si A.at A.free;
            on_path = (g.tie p).on_path;
            hidden = λ h. hi;
            steps =
                let a = (g.tie p).steps in
                let b = append_assoc (steps_of p o d.tape (opening o n)) (g.tie p).ks ((d.thinned.party p).position ∷ []) in
                cc;
          })

      tie : (q : ℕ) → (q ≡ p) ⊎ (eqb q p ≡ false) → TieAt o f t m n d' q
      tie q (inl e) = subst (λ (j : ℕ). TieAt o f t m n d' j) (sym e) tie_p
      tie q (inr e) =
          tie_move (updated-other d.behind p k q e) refl (updated_others d.thinned u p _ A.party_is q (eqb-false q p e))
          refl (steps_other t d.accepted p (opening t m) d.thinned u g.thinned_run ht q e) (g.tie q)

  -- the original makes up one step
  pub original_step : (d : Pair) (p : ℕ) (v : State) (k : ℕ) → Tied o f t m n d → d.behind p ≡ suc k
      → next o (Step p) d.original ≡ moved v
      → Tied o f t m n (pair_of d.thinned v (d.tape ++ (Step p ∷ [])) d.accepted (updated d.behind p k))
  original_step d p v k g z ho = go (first (g.tie p).ks ((g.tie p).late ∙ z) (g.tie p).ahead)
    where
      d' : Pair
      d' = pair_of d.thinned v (d.tape ++ (Step p ∷ [])) d.accepted (updated d.behind p k)

      B : Stepped o p d.original v
      B = step_inverse o p d.original v ho

      owes : (q : ℕ) → (q ≡ p) ⊎ (eqb q p ≡ false) → updated d.behind p k q + cond (eqb q p) 1 0 ≡ d.behind q
      owes q (inl e) = rw e (rw (eqb_self p) (omega arith))
      owes q (inr e) = rw e (omega arith)

      counts : (e : Entry) → occurs e d.accepted ≡ occurs e (d.tape ++ (Step p ∷ [])) + owed (updated d.behind p k) e
      counts (Step q) = omega (arith, g.counts (Step q), occurs-snoc (Step q) (Step p) d.tape, owes q (same_or_not q p))
      counts (Drain q) = omega (arith, g.counts (Drain q), occurs-snoc (Drain q) (Step p) d.tape)

      go : First (depth_of t) (code_at t p) k (g.tie p).ks (d.original.party p) (d.thinned.party p) → Tied o f t m n d'
      go x =
          record {
            thinned_run = g.thinned_run;
            original_run = runs-snoc o d.tape (Step p) (opening o n) d.original v g.original_run ho;
            words = g.words ∙ sym (ap (within (addresses_of t)) (B.words_is ∙ quiet.1));
            counts = counts;
            arrivals = arrivals;
            tie = λ q. tie q (same_or_not q p);
          }
        where
          quiet : (stepped B.i (d.original.party p) d.original.words ≡ stepped x.i (d.original.party p) nothing_held) × (words_after B.i (d.original.party p) d.original.words ≡ d.original.words)
              × (exchanged (fetch (code_at o p) (d.original.party p).position) p (d.original.party p) ≡ [])
          quiet = alike_silent _ _ B.i x.i p (d.original.party p) d.original.words (alike th p (d.original.party p).position) B.at x.at x.silent

          arrivals : arrivals_of t d.accepted (opening t m) ≡ arrivals_of o (d.tape ++ (Step p ∷ [])) (opening o n)
          arrivals =
              let a = gathered_snoc (arriving o) o d.tape (Step p) (opening o n) d.original v g.original_run ho in
              let b = quiet.2 in
              let c = append-nil (arrivals_of o d.tape (opening o n)) in
              let e = g.arrivals in
              cc

          tie_p : TieAt o f t m n d' p
          tie_p =
              tie_move (updated_same d.behind p k) (updated_own d.original v p _ B.party_is) refl (steps_same o d.tape p (opening o n) d.original v g.original_run ho) refl
              (record {
                ks = x.ks;
                late = x.late;
                ahead = rw quiet.0 x.ahead;
                on_path = on_path_step (depth_of o) (code_at o p) (d.original.party p) B.i d.original.words (g.tie p).on_path B.at B.free;
                hidden = λ h. (g.tie p).hidden (omega arith);
                steps =
                    let a = (g.tie p).steps in
                    let b = x.all in
                    let c = append_assoc (steps_of p o d.tape (opening o n)) ((d.original.party p).position ∷ []) x.ks in
                    cc;
              })

          tie : (q : ℕ) → (q ≡ p) ⊎ (eqb q p ≡ false) → TieAt o f t m n d' q
          tie q (inl e) = subst (λ (j : ℕ). TieAt o f t m n d' j) (sym e) tie_p
          tie q (inr e) =
              tie_move (updated-other d.behind p k q e) (updated_others d.original v p _ B.party_is q (eqb-false q p e)) refl
              (steps_other o d.tape p (opening o n) d.original v g.original_run ho q e) refl (g.tie q)
