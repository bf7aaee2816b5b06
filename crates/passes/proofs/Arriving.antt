-- What a visit of the forward rule keeps.
use Rattle.std.proofs.Common.{◌≡◌, ℕ, zero, suc, ◌≤◌, Bool, true, false, if◌then◌else◌, ◌⊎◌, List, ◌∷◌, replicate, ltb, Some, sym, refl, subst, inl, inr, arith, leb, leb-true, ltb-true, ltb-false, IsTrue, ◌↔◌}
use Rattle.std.proofs.lemmas.Bool.{le-leb}
use Rattle.std.proofs.lemmas.List.{get_or_past, get_or-replicate}
use Rattle.instructions.specs.declared.types.Instruction.{Instruction}
use Rattle.instructions.specs.declared.types.Instruction.TheVariants.{Store}
use Rattle.instructions.specs.declared.types.Operand.{Operand}
use Rattle.paths.specs.Paths.{Code, fetch}
use Rattle.paths.specs.Marks.{Walk}
use Rattle.passes.specs.declared.dirty.Arrival.{Arrival}
use Rattle.passes.specs.declared.dirty.Arrival.TheVariants as arrival
use Rattle.passes.specs.Arrivals.{arrival_at, rank_of, is_dirty, after_of, Spread, Good, Arrives, SpentAt}
use Rattle.passes.specs.Local.{AtEach, next_of, is_store, is_barrier, Leads}
use Rattle.passes.specs.Marked.{DirtyMarks}
use Rattle.routine.specs.Thins.{marked}
use Rattle.passes.proofs.Leading.{follows, is_no_barrier}
use Rattle.passes.proofs.Ways.{good_step}

pub sound_step : (m m' : List Arrival) (k : ℕ) (i : Instruction) (v : Bool) → Spread (next_of i k) (after_of i (arrival_at m k)) v m m' → (c : Code) → fetch c k ≡ Some i → Arrives c m → Arrives c m'
sound_step m m' k i v s c f t = record { truth = λ j. go j (s.origin j); start = omega (arith, t.start, s.grows 0) }
  where
    go : (j : ℕ) → (arrival_at m' j ≡ arrival_at m j) ⊎ (Leads (next_of i k) j × (arrival_at m' j ≡ after_of i (arrival_at m k))) → Good c j (arrival_at m' j)
    go j (inl e) = subst (λ (x : Arrival). Good c j x) (sym e) (t.truth j)
    go j (inr p) = subst (λ (x : Arrival). Good c j x) (sym p.1) (good_step c k j i (arrival_at m k) f (follows i k j p.0) (t.truth k))

pub dirty_is : (a : Arrival) → is_dirty a ≡ true → a ≡ arrival.Dirty
dirty_is arrival.Never e = absurd cc
dirty_is arrival.Clean e = absurd cc
dirty_is arrival.Dirty e = refl

rank_dirty : (a : Arrival) → 2 ≤ rank_of a → a ≡ arrival.Dirty
rank_dirty arrival.Never h = absurd (omega arith)
rank_dirty arrival.Clean h = absurd (omega arith)
rank_dirty arrival.Dirty h = refl

after_reached : (i : Instruction) (a : Arrival) → 1 ≤ rank_of a → 1 ≤ rank_of (after_of i a)
after_reached i arrival.Never h = absurd (omega arith)
after_reached i arrival.Clean h = go (is_store i)
  where
    go : (v : Bool) → 1 ≤ rank_of (if v then arrival.Dirty else arrival.Clean)
    go true = omega arith
    go false = omega arith
after_reached i arrival.Dirty h = go (is_barrier i)
  where
    go : (v : Bool) → 1 ≤ rank_of (if v then arrival.Clean else arrival.Dirty)
    go true = omega arith
    go false = omega arith

after-put : (x : ℕ) (s : Operand) (a : Arrival) → 1 ≤ rank_of a → 2 ≤ rank_of (after_of (Store x s) a)
after-put x s arrival.Never h = absurd (omega arith)
after-put x s arrival.Clean h = omega arith
after-put x s arrival.Dirty h = omega arith

after_dirty : (i : Instruction) (a : Arrival) → is_barrier i ≡ false → a ≡ arrival.Dirty → 2 ≤ rank_of (after_of i a)
after_dirty i a n e = rw e (rw n (omega arith))

-- where nothing is left to raise, the marks are those of the rule
pub dirty_marks : (c : Code) (m : List Arrival) (d : List Bool) → Arrives c m → AtEach (SpentAt m) c → ((k : ℕ) → IsTrue (marked d k) ↔ (arrival_at m k ≡ arrival.Dirty)) → DirtyMarks c d
dirty_marks c m d t s e = (
  (λ k. leb 1 (rank_of (arrival_at m k))),
  record {
    start = le-leb _ _ t.start;
    go = λ k j i f g h. le-leb _ _ (omega (arith, s k i f j g, after_reached i (arrival_at m k) (leb-true _ _ h)));
    put = λ k a o f h. (e (suc k)).1 (rank_dirty _ (omega (arith, s k (Store a o) f (suc k) refl, after-put a o (arrival_at m k) (leb-true _ _ h))));
    on = λ k j i f n g h. (e j).1 (rank_dirty _ (omega (arith, s k i f j g, after_dirty i (arrival_at m k) (is_no_barrier i n) ((e k).0 h))));
    dirtied = λ k h. (subst (λ (a : Arrival). Good c k a) ((e k).0 h) (t.truth k)).1;
  },
)

-- the arrivals to begin with
never_at : (k : ℕ) → arrival_at (replicate 32 arrival.Never) k ≡ arrival.Never
never_at k = go (ltb k 32) refl
  where
    go : (b : Bool) → ltb k 32 ≡ b → arrival_at (replicate 32 arrival.Never) k ≡ arrival.Never
    go true q = get_or-replicate 32 k arrival.Never arrival.Never (ltb-true k 32 q)
    go false q = get_or_past (replicate 32 arrival.Never) k arrival.Never (ltb-false k 32 q)

pub arrives_start : (c : Code) → Arrives c (arrival.Clean ∷ replicate 32 arrival.Never)
arrives_start c = record { truth = truth; start = omega arith }
  where
    truth : (k : ℕ) → Good c k (arrival_at (arrival.Clean ∷ replicate 32 arrival.Never) k)
    truth zero = Walk.here
    truth (suc k) = subst (λ (a : Arrival). Good c (suc k) a) (sym (never_at k)) tt
