-- What a visit of the backward rule keeps.
use Rattle.std.proofs.Common.{◌≡◌, ℕ, suc, ◌+◌, ◌<◌, ◌≤◌, Bool, true, false, not, ◌&&◌, ◌||◌, eqb, ltb, leb, ◌≢◌, List, length, set, Some, sym, refl, ◌∙◌, subst, ⊎_elim, zero-add, add-one, arith, get_or-set_other, ltb-false, ltb-true, leb-true, eqb-true}
use Rattle.std.proofs.lemmas.Bool.{cases_lt, le-leb}
use Rattle.std.proofs.lemmas.List.{get_or_past}
use Rattle.std.proofs.lemmas.Bool.{eqb-false}
use Rattle.instructions.specs.Thinning.{thin_from}
use Rattle.instructions.specs.declared.types.Instruction.{Instruction}
use Rattle.instructions.specs.declared.types.Instruction.TheVariants.{Load, Nop}
use Rattle.paths.specs.Paths.{Code, fetch, Follows, Barrier, Shows}
use Rattle.paths.specs.Marks.{Bare, Exposed, BackwardMarks}
use Rattle.paths.specs.Rules.{BackwardOf}
use Rattle.passes.specs.Local.{AtEach, next_of, is_load, is_barrier, some, look, Exposes, SettledAt}
use Rattle.passes.specs.Marked.{exposed_marks}
use Rattle.routine.specs.Thins.{marked}
use Rattle.paths.proofs.Fetches.{fetch_at, fetch_end, fetch_below, thin_same}
use Rattle.paths.proofs.Marked.{marks_decide}
use Rattle.passes.proofs.Leading.{leads, follows, no_barrier, is_no_barrier, load_shows, MarkedNext, some_marks, marks_some}

look_true : (c : Code) (m : List Bool) (k : ℕ) (i : Instruction) → Exposes c m → fetch c k ≡ Some i → look i k m ≡ true → Exposed c k
look_true c m k i t f h = load (is_load i) refl
  where
    next : MarkedNext (exposed_marks m) (next_of i k) → ¬ Barrier i → Exposed c k
    next p n =
        let e = t.truth p.place p.is in
        record { last = e.last; clear = Bare.step i f n (follows i k p.place p.led) e.clear; shows = e.shows }

    barrier : (v : Bool) → is_barrier i ≡ v → (not v && some (exposed_marks m) (next_of i k)) ≡ true → Exposed c k
    barrier true q z = cc
    barrier false q z = next (some_marks (exposed_marks m) (next_of i k) z) (no_barrier i q)

    load : (v : Bool) → is_load i ≡ v → Exposed c k
    load true q = record { last = k; clear = Bare.here; shows = load_shows c k i f q }
    load false q = barrier (is_barrier i) refl (rw q at h)

look_marks : (m : List Bool) (k j : ℕ) (i : Instruction) → ¬ Barrier i → Follows i k j → exposed_marks m j ≡ true → look i k m ≡ true
look_marks m k j i n g h = go (is_load i) (is_barrier i) (is_no_barrier i n) (marks_some (exposed_marks m) (next_of i k) j (leads i k j g) h)
  where
    go : (u v : Bool) {w : Bool} → v ≡ false → w ≡ true → (u || (not v && w)) ≡ true
    go true v e q = refl
    go false v e q = rw e q

pub sound_more : (c : Code) (m : List Bool) (k : ℕ) (i : Instruction) → Exposes c m → fetch c k ≡ Some i → look i k m ≡ true → Exposes c (set m k true)
sound_more c m k i t f h =
    record {
      truth = λ j e. go j e (eqb j k) refl;
      ends = λ j l. let n : j ≢ k = omega (arith, fetch_below c k i f) in get_or-set_other m k j true true n ∙ t.ends j l;
    }
  where
    go : (j : ℕ) → exposed_marks (set m k true) j ≡ true → (v : Bool) → eqb j k ≡ v → Exposed c j
    go j e true q = subst (λ (x : ℕ). Exposed c x) (sym (eqb-true j k q)) (look_true c m k i t f h)
    go j e false q = t.truth j (sym (get_or-set_other m k j true true (eqb-false j k q)) ∙ e)

pub settled_marks : (c : Code) (m : List Bool) → Exposes c m → AtEach (SettledAt m) c → BackwardMarks c (exposed_marks m)
settled_marks c m t s =
    record {
      shown = shown;
      back = λ k j i f n g h. s k i f (look_marks m k j i n g h);
      exposed = t.truth;
    }
  where
    shown : (k : ℕ) → Shows c k → exposed_marks m k ≡ true
    shown k (Shows.load r a f) = s k (Load r a) f refl
    shown k (Shows.end f) = go (ltb k (length c)) refl
      where
        go : (b : Bool) → ltb k (length c) ≡ b → exposed_marks m k ≡ true
        go true q = let e = fetch_at c k Nop (ltb-true k (length c) q) in cc
        go false q = t.ends k (ltb-false k (length c) q)

-- marks on the end and past it only
pub sound_start : (c : Code) (m : List Bool) → length c ≤ 32 → length m ≡ 33 → ((k : ℕ) → k < 33 → exposed_marks m k ≡ leb (length c) k) → Exposes c m
sound_start c m short long is = record {
  truth = λ k e. record { last = k; clear = Bare.here; shows = Shows.end (fetch_end c k (leb-true (length c) k (sym (all k) ∙ e))) };
  ends = λ k h. all k ∙ le-leb (length c) k h;
}
  where
    all : (k : ℕ) → exposed_marks m k ≡ leb (length c) k
    all k = ⊎_elim (is k) (λ (past : 33 ≤ k). get_or_past m k true (omega arith) ∙ sym (le-leb (length c) k (omega arith))) (cases_lt k 33)

-- the marks of the positions after, for the positions of a code
pub shift_decides : (c : Code) (stays marks : List Bool) → length c ≤ 32 → BackwardMarks c (exposed_marks marks) → ((j : ℕ) → j < 33 → marked stays j ≡ exposed_marks marks (j + 1)) → BackwardOf c (thin_from (marked stays) 0 c)
shift_decides c stays marks short bm same =
    subst (BackwardOf c) (sym (thin_same (marked stays) (λ k. exposed_marks marks (suc k)) 0 c (λ k h. rw (zero-add, ← add-one) (same k (omega arith))))) (marks_decide.1 c (exposed_marks marks) bm)
