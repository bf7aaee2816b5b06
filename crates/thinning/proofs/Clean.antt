-- Where a write can wait, and where a party that is ahead can be.
use Rattle.std.proofs.Common.{◌≡◌, ℕ, suc, Bool, true, false, cond, eqb, ◌⊎◌, List, ◌∷◌, Some, None, sym, refl, ◌∙◌, subst, inl, inr}
use Rattle.fields.specs.declared.registers.Register.{Register}
use Rattle.instructions.specs.declared.types.Instruction.{Instruction}
use Rattle.instructions.specs.declared.types.Instruction.TheVariants.{Load, Store, Exchange, Fence, Nop, Set, Add, JumpNonzero, Jump}
use Rattle.memory.specs.Cells.{Cells}
use Rattle.paths.specs.Paths.{Code, fetch, Follows, Barrier, Shows}
use Rattle.paths.specs.Marks.{Walk, Bare, Dirty, Exposed}
use Rattle.tso.specs.Machine.{Party, is_empty, stepped, step_fault, drained}
use Rattle.tso.specs.declared.writes.Write.{Write}
use Rattle.thinning.proofs.Ahead.{Silent}
use Rattle.thinning.proofs.Positions.{Passed}

walk_snoc : {c : Code} {a k j : ℕ} → Walk c a k → (i : Instruction) → fetch c k ≡ Some i → Follows i k j → Walk c a j
walk_snoc Walk.here i f g = Walk.step i f g Walk.here
walk_snoc (Walk.step x p q r) i f g = Walk.step x p q (walk_snoc r i f g)

bare_snoc : {c : Code} {a k j : ℕ} → Bare c a k → (i : Instruction) → fetch c k ≡ Some i → ¬ Barrier i → Follows i k j → Bare c a j
bare_snoc Bare.here i f n g = Bare.step i f n g Bare.here
bare_snoc (Bare.step x p m q r) i f n g = Bare.step x p m q (bare_snoc r i f n g)

stepped_follows : (i : Instruction) (o : Party) (m : Cells) → Follows i o.position (stepped i o m).position
stepped_follows (Load r a) o m = refl
stepped_follows (Store a s) o m = refl
stepped_follows (Exchange r a) o m = refl
stepped_follows Fence o m = refl
stepped_follows Nop o m = refl
stepped_follows (Set r s) o m = refl
stepped_follows (Add r s) o m = refl
stepped_follows (JumpNonzero r t) o m = go (eqb (o.registers r) 0)
  where
    go : (b : Bool) → (cond b (suc o.position) t ≡ t) ⊎ (cond b (suc o.position) t ≡ suc o.position)
    go true = inr refl
    go false = inl refl
stepped_follows (Jump t) o m = refl

-- a party is on a path of its code, and where a write of it waits, that path has a store with no barrier after it
pub record OnPath (c : Code) (o : Party) : Type 0 where
  pub reach : Walk c 0 o.position
  pub dirty : is_empty o.buffer ≡ false → Dirty c o.position

dirty_on : {c : Code} {k j : ℕ} → Dirty c k → (i : Instruction) → fetch c k ≡ Some i → ¬ Barrier i → Follows i k j → Dirty c j
dirty_on d i f n g = record { from = d.from; address = d.address; source = d.source; reach = d.reach; store = d.store; clear = bare_snoc d.clear i f n g }

dirty_step : (n : ℕ) (c : Code) (o : Party) (i : Instruction) (m : Cells) → OnPath c o → fetch c o.position ≡ Some i → step_fault n i o ≡ None
    → is_empty (stepped i o m).buffer ≡ false → Dirty c (stepped i o m).position
dirty_step n c o (Load r a) m s f b e = dirty_on (s.dirty e) (Load r a) f (λ x. x) refl
dirty_step n c o (Store a v) m s f b e = record { from = o.position; address = a; source = v; reach = s.reach; store = f; clear = Bare.here }
dirty_step n c o (Exchange r a) m s f b e = cc
dirty_step n c o Fence m s f b e = cc
dirty_step n c o Nop m s f b e = dirty_on (s.dirty e) Nop f (λ x. x) refl
dirty_step n c o (Set r v) m s f b e = dirty_on (s.dirty e) (Set r v) f (λ x. x) refl
dirty_step n c o (Add r v) m s f b e = dirty_on (s.dirty e) (Add r v) f (λ x. x) refl
dirty_step n c o (JumpNonzero r t) m s f b e = dirty_on (s.dirty e) (JumpNonzero r t) f (λ x. x) (stepped_follows (JumpNonzero r t) o m)
dirty_step n c o (Jump t) m s f b e = dirty_on (s.dirty e) (Jump t) f (λ x. x) refl

pub on_path_step : (n : ℕ) (c : Code) (o : Party) (i : Instruction) (m : Cells) → OnPath c o → fetch c o.position ≡ Some i → step_fault n i o ≡ None → OnPath c (stepped i o m)
on_path_step n c o i m s f b = record { reach = walk_snoc s.reach i f (stepped_follows i o m); dirty = dirty_step n c o i m s f b }

pub on_path_drain : (c : Code) (o : Party) (w : Write) (ws : List Write) → OnPath c o → o.buffer ≡ w ∷ ws → OnPath c (drained o ws)
on_path_drain c o w ws s e = record { reach = s.reach; dirty = λ x. s.dirty (cc) }

silent_bare : (i : Instruction) → Silent i → ¬ Barrier i
silent_bare (Load r a) q = absurd q
silent_bare (Store a s) q = λ x. x
silent_bare (Exchange r a) q = absurd q
silent_bare Fence q = absurd q
silent_bare Nop q = λ x. x
silent_bare (Set r s) q = λ x. x
silent_bare (Add r s) q = λ x. x
silent_bare (JumpNonzero r t) q = λ x. x
silent_bare (Jump t) q = λ x. x

-- what stands in the thinned code at each position, by the code f before the backward pass
abbrev pub ByBackward : Code → Code → Type 0
ByBackward f t = (k : ℕ) → Passed (fetch f k) (fetch t k) (Exposed f (suc k))

-- a silent step leads from where no write shows to where none does
pub hidden_step : (f t : Code) → ByBackward f t → (x : Party) (i : Instruction) (m : Cells) → fetch t x.position ≡ Some i → Silent i
    → ¬ Exposed f x.position → ¬ Exposed f (stepped i x m).position
hidden_step f t h x i m a q n = go (h x.position)
  where
    go : Passed (fetch f x.position) (fetch t x.position) (Exposed f (suc x.position)) → ¬ Exposed f (stepped i x m).position
    go (inl e) = λ y. n (record { last = y.last; clear = Bare.step i (sym e ∙ a) (silent_bare i q) (stepped_follows i x m) y.clear; shows = y.shows })
    go (inr e) = let d : Nop ≡ i = cc in subst (λ (j : Instruction). ¬ Exposed f (stepped j x m).position) d e.2

-- at a load a write shows
pub load_exposed : (f t : Code) → ByBackward f t → (k : ℕ) (r : Register) (a : ℕ) → fetch t k ≡ Some (Load r a) → Exposed f k
load_exposed f t h k r a e = go (h k)
  where
    go : Passed (fetch f k) (fetch t k) (Exposed f (suc k)) → Exposed f k
    go (inl x) = record { last = k; clear = Bare.here; shows = Shows.load r a (sym x ∙ e) }
    go (inr x) = cc

-- a fence that the original waits at and the thinned party passes was taken out by the backward rule
pub hidden_start : (o f t : Code) (k : ℕ) → Passed (fetch o k) (fetch f k) (Dirty o k) → Passed (fetch f k) (fetch t k) (Exposed f (suc k)) → fetch o k ≡ Some Fence → fetch t k ≡ Some Nop → Dirty o k → ¬ Exposed f (suc k)
hidden_start o f t k (inl x) (inl y) a b d = cc
hidden_start o f t k (inl x) (inr y) a b d = y.2
hidden_start o f t k (inr x) y a b d = absurd (x.2 d)

-- what is not silent, while a write waits, is a load
pub silent_or_load : (n : ℕ) (i : Instruction) (x : Party) → step_fault n i x ≡ None → is_empty x.buffer ≡ false → Silent i ⊎ ((r : Register) × (a : ℕ) × (i ≡ Load r a))
silent_or_load n (Load r a) x b e = inr (r, a, refl)
silent_or_load n (Store a s) x b e = inl tt
silent_or_load n (Exchange r a) x b e = cc
silent_or_load n Fence x b e = cc
silent_or_load n Nop x b e = inl tt
silent_or_load n (Set r s) x b e = inl tt
silent_or_load n (Add r s) x b e = inl tt
silent_or_load n (JumpNonzero r t) x b e = inl tt
silent_or_load n (Jump t) x b e = inl tt
