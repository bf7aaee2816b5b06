-- What the code's tests of one instruction say of paths.
use Rattle.std.proofs.Common.{◌≡◌, ℕ, Bool, true, false, ◌||◌, Option, Some, None, refl, inl, inr, arith}
use Rattle.std.specs.Option.{option_map_or}
use Rattle.instructions.specs.declared.types.Instruction.{Instruction}
use Rattle.instructions.specs.declared.types.Instruction.TheVariants.{Load, Store, Exchange, Fence, Nop, Set, Add, JumpNonzero, Jump}
use Rattle.paths.specs.Paths.{Code, fetch, Follows, Barrier, Shows}
use Rattle.passes.specs.Local.{next_of, is_load, is_barrier, Leads, some}

pub leads : (i : Instruction) (k j : ℕ) → Follows i k j → Leads (next_of i k) j
leads (Load r a) k j f = inl (omega arith)
leads (Store a s) k j f = inl (omega arith)
leads (Exchange r a) k j f = inl (omega arith)
leads Fence k j f = inl (omega arith)
leads Nop k j f = inl (omega arith)
leads (Set r s) k j f = inl (omega arith)
leads (Add r s) k j f = inl (omega arith)
leads (JumpNonzero r t) k j (inl f) = inr cc
leads (JumpNonzero r t) k j (inr f) = inl (omega arith)
leads (Jump t) k j f = inl f

pub follows : (i : Instruction) (k j : ℕ) → Leads (next_of i k) j → Follows i k j
follows (Load r a) k j (inl f) = omega arith
follows (Store a s) k j (inl f) = omega arith
follows (Exchange r a) k j (inl f) = omega arith
follows Fence k j (inl f) = omega arith
follows Nop k j (inl f) = omega arith
follows (Set r s) k j (inl f) = omega arith
follows (Add r s) k j (inl f) = omega arith
follows (JumpNonzero r t) k j (inl f) = inr (omega arith)
follows (JumpNonzero r t) k j (inr f) = inl cc
follows (Jump t) k j (inl f) = f
follows (Load r a) k j (inr f) = cc
follows (Store a s) k j (inr f) = cc
follows (Exchange r a) k j (inr f) = cc
follows Fence k j (inr f) = cc
follows Nop k j (inr f) = cc
follows (Set r s) k j (inr f) = cc
follows (Add r s) k j (inr f) = cc
follows (Jump t) k j (inr f) = cc

pub no_barrier : (i : Instruction) → is_barrier i ≡ false → ¬ Barrier i
no_barrier (Load r a) e = λ x. x
no_barrier (Store a s) e = λ x. x
no_barrier (Exchange r a) e = cc
no_barrier Fence e = cc
no_barrier Nop e = λ x. x
no_barrier (Set r s) e = λ x. x
no_barrier (Add r s) e = λ x. x
no_barrier (JumpNonzero r t) e = λ x. x
no_barrier (Jump t) e = λ x. x

pub is_no_barrier : (i : Instruction) → ¬ Barrier i → is_barrier i ≡ false
is_no_barrier (Load r a) n = refl
is_no_barrier (Store a s) n = refl
is_no_barrier (Exchange r a) n = absurd (n tt)
is_no_barrier Fence n = absurd (n tt)
is_no_barrier Nop n = refl
is_no_barrier (Set r s) n = refl
is_no_barrier (Add r s) n = refl
is_no_barrier (JumpNonzero r t) n = refl
is_no_barrier (Jump t) n = refl

pub load_shows : (c : Code) (k : ℕ) (i : Instruction) → fetch c k ≡ Some i → is_load i ≡ true → Shows c k
load_shows c k (Load r a) f e = Shows.load r a f
load_shows c k (Store a s) f e = cc
load_shows c k (Exchange r a) f e = cc
load_shows c k Fence f e = cc
load_shows c k Nop f e = cc
load_shows c k (Set r s) f e = cc
load_shows c k (Add r s) f e = cc
load_shows c k (JumpNonzero r t) f e = cc
load_shows c k (Jump t) f e = cc

-- a next position that is marked
pub record MarkedNext (x : ℕ → Bool) (n : ℕ × Option ℕ) : Type 0 where
  pub place : ℕ
  pub led : Leads n place
  pub is : x place ≡ true

pub some_marks : (x : ℕ → Bool) (n : ℕ × Option ℕ) → some x n ≡ true → MarkedNext x n
some_marks x (a, o) e = go (x a) refl o refl e
  where
    go : (v : Bool) → x a ≡ v → (p : Option ℕ) → o ≡ p → (v || option_map_or x p false) ≡ true → MarkedNext x (a, o)
    go true q p r z = record { place = a; led = inl refl; is = q }
    go false q (Some b) r z = record { place = b; led = inr r; is = z }
    go false q None r z = cc

pub marks_some : (x : ℕ → Bool) (n : ℕ × Option ℕ) (j : ℕ) → Leads n j → x j ≡ true → some x n ≡ true
marks_some x n j (inl l) e = let h : x n.0 ≡ true = cc in rw h refl
marks_some x n j (inr l) e = go (x n.0)
  where
    go : (v : Bool) → (v || option_map_or x n.1 false) ≡ true
    go true = refl
    go false = rw l e
