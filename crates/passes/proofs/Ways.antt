-- Paths that go one step on at their end.
use Rattle.std.proofs.Common.{◌≡◌, ℕ, Bool, true, false, if◌then◌else◌, Some, sym, refl, subst}
use Rattle.instructions.specs.declared.types.Instruction.{Instruction}
use Rattle.instructions.specs.declared.types.Instruction.TheVariants.{Load, Store, Exchange, Fence, Nop, Set, Add, JumpNonzero, Jump}
use Rattle.paths.specs.Paths.{Code, fetch, Follows, Barrier}
use Rattle.paths.specs.Marks.{Walk, Bare, Dirty}
use Rattle.passes.specs.declared.dirty.Arrival.{Arrival}
use Rattle.passes.specs.declared.dirty.Arrival.TheVariants as arrival
use Rattle.passes.specs.Arrivals.{Good, after_of}
use Rattle.passes.specs.Local.{is_store, is_barrier}
use Rattle.passes.proofs.Leading.{no_barrier}

pub walk_snoc : {c : Code} {a k j : ℕ} → Walk c a k → (i : Instruction) → fetch c k ≡ Some i → Follows i k j → Walk c a j
walk_snoc Walk.here i f g = Walk.step i f g Walk.here
walk_snoc (Walk.step x e h w) i f g = Walk.step x e h (walk_snoc w i f g)

pub bare_snoc : {c : Code} {a k j : ℕ} → Bare c a k → (i : Instruction) → fetch c k ≡ Some i → ¬ Barrier i → Follows i k j → Bare c a j
bare_snoc Bare.here i f n g = Bare.step i f n g Bare.here
bare_snoc (Bare.step x e m h w) i f n g = Bare.step x e m h (bare_snoc w i f n g)

-- after a ST the next position is dirty
after_store : (c : Code) (k j : ℕ) (i : Instruction) → fetch c k ≡ Some i → Follows i k j → Walk c 0 k → is_store i ≡ true → Dirty c j
after_store c k j (Store a s) f g w e =
    subst (λ (x : ℕ). Dirty c x) (sym g) (record { from = k; address = a; source = s; reach = w; store = f; clear = Bare.here })
after_store c k j (Load r a) f g w e = cc
after_store c k j (Exchange r a) f g w e = cc
after_store c k j Fence f g w e = cc
after_store c k j Nop f g w e = cc
after_store c k j (Set r s) f g w e = cc
after_store c k j (Add r s) f g w e = cc
after_store c k j (JumpNonzero r t) f g w e = cc
after_store c k j (Jump t) f g w e = cc

-- an arrival that has its paths passes paths on
pub good_step : (c : Code) (k j : ℕ) (i : Instruction) (s : Arrival) → fetch c k ≡ Some i → Follows i k j → Good c k s → Good c j (after_of i s)
good_step c k j i arrival.Never f g h = tt
good_step c k j i arrival.Clean f g h = go (is_store i) refl
  where
    go : (v : Bool) → is_store i ≡ v → Good c j (if v then arrival.Dirty else arrival.Clean)
    go true q = (walk_snoc h i f g, after_store c k j i f g h q)
    go false q = walk_snoc h i f g
good_step c k j i arrival.Dirty f g h = go (is_barrier i) refl
  where
    go : (v : Bool) → is_barrier i ≡ v → Good c j (if v then arrival.Clean else arrival.Dirty)
    go true q = walk_snoc h.0 i f g
    go false q =
        let d = h.1 in
        (walk_snoc h.0 i f g, record { from = d.from; address = d.address; source = d.source; reach = d.reach; store = d.store; clear = bare_snoc d.clear i f (no_barrier i q) g })
