-- The worked examples, by marks that are computed.
use Rattle.std.proofs.Common.{◌≡◌, ℕ, suc, Bool, true, false, List, [], ◌∷◌, map, length, Some, sym, refl, ap, ◌∙◌, zero-add}
use Rattle.instructions.specs.Thinning.{thin_from}
use Rattle.instructions.specs.declared.types.Instruction.{Instruction}
use Rattle.instructions.specs.declared.types.Instruction.TheVariants.{Fence, Nop}
use Rattle.paths.specs.Paths.{Code, fetch, Follows, Barrier, StoreAt, Shows}
use Rattle.paths.specs.Rules.{TakenOut, Shielded, Screened, ForwardOf, BackwardOf}
use Rattle.paths.specs.Marks.{Walk, Bare, Dirty, Exposed, ForwardMarks, BackwardMarks}
use Rattle.paths.specs.Examples.{Case, cases, ThinsTo, Each, ExamplesHold}
use Rattle.paths.proofs.Decided.{sure, sure_in, sure_out, both?, not?, same?, Below, below?}
use Rattle.paths.proofs.Fetches.{fetch_below, thin_at}
use Rattle.paths.proofs.Marked.{marks_decide}
use Rattle.paths.proofs.Near.{Leads, leads?, Near, near?, near_at, near_holds, Leak, leak?, leaves_none}
use Rattle.paths.proofs.Standing.{none_some, barrier?, store_at?, fence_at?, shows?}

same_fetches : (t u : Code) → ((k : ℕ) → fetch t k ≡ fetch u k) → t ≡ u
same_fetches [] [] h = refl
same_fetches [] (i ∷ u) h = none_some refl (h 0)
same_fetches (i ∷ t) [] h = none_some (h 0) refl
same_fetches (i ∷ t) (j ∷ u) h = let e = h 0 in let f = same_fetches t u (λ k. h (suc k)) in cc

-- a rule gives one result
taken_is : (G : ℕ → Type 0) (m : ℕ → Bool) (c t : Code) → TakenOut G c (thin_from m 0 c) → TakenOut G c t → t ≡ thin_from m 0 c
taken_is G m c t u x = same_fetches t (thin_from m 0 c) (λ k. at k (fence_at? c k))
  where
    fenced : (k : ℕ) (b : Bool) → m k ≡ b → fetch c k ≡ Some Fence → fetch t k ≡ fetch (thin_from m 0 c) k
    fenced k false e f =
        let h = thin_at m 0 c k Fence f in
        let a = zero-add k in
        let n : fetch (thin_from m 0 c) k ≡ Some Nop = cc in
        x.goes k f (u.only k f n) ∙ sym n
    fenced k true e f =
        let h = thin_at m 0 c k Fence f in
        let a = zero-add k in
        let s = x.stays k (λ g. let n = u.goes k f g.1 in cc) in
        cc

    at : (k : ℕ) → Dec (fetch c k ≡ Some Fence) → fetch t k ≡ fetch (thin_from m 0 c) k
    at k (yes f) = fenced k (m k) refl f
    at k (no n) = x.stays k (λ g. n g.0) ∙ sym (u.stays k (λ g. n g.0))

abbrev Any : Instruction → Type 0
Any i = Unit {0}

abbrev any? : (i : Instruction) → Dec (Any i)
any? i = yes tt

abbrev Clear : Instruction → Type 0
Clear i = ¬ Barrier i

abbrev clear? : (i : Instruction) → Dec (Clear i)
clear? i = not? (barrier? i)

abbrev Reached : Code → ℕ → Type 0
Reached c k = Near c Any (λ l. l ≡ k) (length c) 0

abbrev reached? : (c : Code) (k : ℕ) → Dec (Reached c k)
reached? c k = near? c Any any? (λ l. l ≡ k) (λ l. same? l k) (length c) 0

abbrev Soiling : Code → ℕ → ℕ → Type 0
Soiling c k a = StoreAt c a × (Reached c a × Near c Clear (λ l. l ≡ k) (length c) (suc a))

abbrev Soiled : Code → ℕ → Type 0
Soiled c k = Below (length c) (Soiling c k)

abbrev soiled? : (c : Code) (k : ℕ) → Dec (Soiled c k)
soiled? c k = below? (length c) (Soiling c k) (λ a. both? (store_at? c a) (both? (reached? c a) (near? c Clear clear? (λ l. l ≡ k) (λ l. same? l k) (length c) (suc a))))

abbrev Seen : Code → ℕ → Type 0
Seen c k = Near c Clear (Shows c) (length c) k

abbrev seen? : (c : Code) (k : ℕ) → Dec (Seen c k)
seen? c k = near? c Clear clear? (Shows c) (shows? c) (length c) k

-- a step to what is seen from what is not
abbrev Gap : Code → Type 0
Gap c = Below (length c) (λ k. (¬ Seen c k) × Leads c Clear (Seen c) k)

abbrev gap? : (c : Code) → Dec (Gap c)
gap? c = below? (length c) (λ k. (¬ Seen c k) × Leads c Clear (Seen c) k) (λ k. both? (not? (seen? c k)) (leads? c Clear clear? (Seen c) (seen? c) k))

abbrev pub forward : Code → Code
forward c = thin_from (λ k. sure (soiled? c k)) 0 c

abbrev pub backward : Code → Code
backward c = thin_from (λ k. sure (seen? c (suc k))) 0 c

walk : (c : Code) (k : ℕ) → Reached c k → Walk c 0 k
walk c k = near_holds c Any (λ l. l ≡ k) (λ l. Walk c l k) (λ l e. rw e Walk.here) (λ l j i f o w r. Walk.step i f w r) (length c) 0

bare : (c : Code) (k a : ℕ) → Near c Clear (λ l. l ≡ k) (length c) a → Bare c a k
bare c k = near_holds c Clear (λ l. l ≡ k) (λ l. Bare c l k) (λ l e. rw e Bare.here) (λ l j i f o w r. Bare.step i f o w r) (length c)

dirty : (c : Code) (k : ℕ) → Soiled c k → Dirty c k
dirty c k (a, l, ((address, source, f), (r, n))) = record { from = a; address = address; source = source; reach = walk c a r; store = f; clear = bare c k (suc a) n }

exposed : (c : Code) (k : ℕ) → Seen c k → Exposed c k
exposed c = near_holds c Clear (Shows c) (Exposed c) (λ k s. record { last = k; clear = Bare.here; shows = s }) (λ k j i f o w e. record { last = e.last; clear = Bare.step i f o w e.clear; shows = e.shows }) (length c)

forward_marks : (c : Code) → ¬ Leak c Any (Reached c) → ¬ Leak c Clear (Soiled c) → ForwardMarks c (λ k. sure (reached? c k)) (λ k. sure (soiled? c k))
forward_marks c r d = record {
  start = sure_in (reached? c 0) (near_at c Any (λ l. l ≡ 0) (length c) 0 refl);
  go = λ k j i f w h. sure_in (reached? c j) (leaves_none c Any (Reached c) (reached? c) r k j i f tt w (sure_out (reached? c k) h));
  put = λ k a s f h. sure_in (soiled? c (suc k)) (k, fetch_below c k _ f, ((a, s, f), (sure_out (reached? c k) h, near_at c Clear (λ l. l ≡ suc k) (length c) (suc k) refl)));
  on = λ k j i f o w h. sure_in (soiled? c j) (leaves_none c Clear (Soiled c) (soiled? c) d k j i f o w (sure_out (soiled? c k) h));
  dirtied = λ k h. dirty c k (sure_out (soiled? c k) h);
}

backward_marks : (c : Code) → ¬ Gap c → BackwardMarks c (λ k. sure (seen? c k))
backward_marks c n = record {
  shown = λ k s. sure_in (seen? c k) (near_at c Clear (Shows c) (length c) k s);
  back = back;
  exposed = λ k h. exposed c k (sure_out (seen? c k) h);
}
  where
    back : (k j : ℕ) (i : Instruction) → fetch c k ≡ Some i → ¬ Barrier i → Follows i k j → sure (seen? c j) ≡ true → sure (seen? c k) ≡ true
    back k j i f o w h = go (seen? c k)
      where
        go : (d : Dec (Seen c k)) → sure d ≡ true
        go (yes s) = refl
        go (no m) = absurd (n (k, fetch_below c k i f, (m, (i, f, (o, (j, w, sure_out (seen? c j) h))))))

-- the marks of both passes are closed
abbrev pub Closed : Code → Type 0
Closed c = (¬ Leak c Any (Reached c)) × ((¬ Leak c Clear (Soiled c)) × (¬ Gap (forward c)))

abbrev pub closed? : (c : Code) → Dec (Closed c)
closed? c = both? (not? (leak? c Any any? (Reached c) (reached? c))) (both? (not? (leak? c Clear clear? (Soiled c) (soiled? c))) (not? (gap? (forward c))))

-- whatever the rules give is what the marks come to
pub thins_to : (c d : Code) → Closed c → backward (forward c) ≡ d → (f t : Code) → ForwardOf c f → BackwardOf f t → t ≡ d
thins_to c d h e f t F T = last (rw one at T) ∙ e
  where
    one : f ≡ forward c
    one = taken_is (Shielded c) _ c f (marks_decide.0 c _ _ (forward_marks c h.0 h.1.0)) F

    last : BackwardOf (forward c) t → t ≡ backward (forward c)
    last x = taken_is (λ k. Screened (forward c) (suc k)) _ (forward c) t (marks_decide.1 (forward c) _ (backward_marks (forward c) h.1.1)) x

abbrev computed : Case → Bool × Code
computed c = (sure (closed? c.code), backward (forward c.code))

abbrev wanted : Case → Bool × Code
wanted c = (true, c.thinned)

same_heads : (f g : Case → Bool × Code) (c : Case) (cs : List Case) → map f (c ∷ cs) ≡ map g (c ∷ cs) → (f c ≡ g c) × (map f cs ≡ map g cs)
same_heads f g c cs e = (cc, cc)

each : (cs : List Case) → map computed cs ≡ map wanted cs → Each ThinsTo cs
each [] h = tt
each (c ∷ cs) h =
    let e = same_heads computed wanted c cs h in
    (thins_to c.code c.thinned (sure_out (closed? c.code) (ap (λ x. x.0) e.0)) (ap (λ x. x.1) e.0), each cs e.1)

pub examples_hold : ExamplesHold
examples_hold = each cases refl
