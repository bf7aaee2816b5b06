-- What stands at a position of a code, and of a thinned code.
use Rattle.std.proofs.Common.{◌≡◌, ℕ, zero, suc, ◌+◌, ◌<◌, ◌≤◌, Bool, true, false, [], ◌∷◌, length, get_or, Some, None, refl, ap, add-zero, arith}
use Rattle.instructions.specs.Thinning.{unless, thin_from}
use Rattle.instructions.specs.declared.types.Instruction.{Instruction}
use Rattle.instructions.specs.declared.types.Instruction.TheVariants.{Load, Store, Exchange, Fence, Nop, Set, Add, JumpNonzero, Jump}
use Rattle.paths.specs.Paths.{Code, fetch}

pub fetch_at : (c : Code) (k : ℕ) (d : Instruction) → k < length c → fetch c k ≡ Some (get_or c k d)
fetch_at [] k d h = absurd (omega arith)
fetch_at (i ∷ c) zero d h = refl
fetch_at (i ∷ c) (suc k) d h = fetch_at c k d (omega arith)

pub fetch_end : (c : Code) (k : ℕ) → length c ≤ k → fetch c k ≡ None
fetch_end [] k h = refl
fetch_end (i ∷ c) zero h = absurd (omega arith)
fetch_end (i ∷ c) (suc k) h = fetch_end c k (omega arith)

pub fetch_below : (c : Code) (k : ℕ) (i : Instruction) → fetch c k ≡ Some i → k < length c
fetch_below [] k i e = cc
fetch_below (x ∷ c) zero i e = omega arith
fetch_below (x ∷ c) (suc k) i e = let h = fetch_below c k i e in omega arith

pub thin_length : (m : ℕ → Bool) (n : ℕ) (c : Code) → length (thin_from m n c) ≡ length c
thin_length m n [] = refl
thin_length m n (i ∷ c) = ap suc (thin_length m (suc n) c)

pub thin_at : (m : ℕ → Bool) (n : ℕ) (c : Code) (k : ℕ) (i : Instruction) → fetch c k ≡ Some i → fetch (thin_from m n c) k ≡ Some (unless (m (n + k)) i)
thin_at m n [] k i e = cc
thin_at m n (x ∷ c) zero i e = let f : x ≡ i = cc in rw (add-zero, f)
thin_at m n (x ∷ c) (suc k) i e = let f : suc n + k ≡ n + suc k = omega arith in let h = thin_at m (suc n) c k i e in rw f at h

pub thin_end : (m : ℕ → Bool) (n : ℕ) (c : Code) (k : ℕ) → fetch c k ≡ None → fetch (thin_from m n c) k ≡ None
thin_end m n [] k e = refl
thin_end m n (x ∷ c) zero e = cc
thin_end m n (x ∷ c) (suc k) e = thin_end m (suc n) c k e

-- marks that agree on the code's positions give the same code
pub thin_same : (m n : ℕ → Bool) (from : ℕ) (c : Code) → ((k : ℕ) → k < length c → m (from + k) ≡ n (from + k)) → thin_from m from c ≡ thin_from n from c
thin_same m n from [] h = refl
thin_same m n from (i ∷ c) h =
    let first : m from ≡ n from = let e = h 0 (omega arith) in let z = add-zero from in cc in
    let rest = thin_same m n (suc from) c (λ k l. let e : suc from + k ≡ from + suc k = omega arith in let f = h (suc k) (omega arith) in rw e f) in
    cc

-- an instruction changes only if it is a fence without a mark
pub unless_same : (b : Bool) (i : Instruction) → (b ≡ false → ¬ (i ≡ Fence)) → unless b i ≡ i
unless_same true i h = refl
unless_same false (Load r a) h = refl
unless_same false (Store a s) h = refl
unless_same false (Exchange r a) h = refl
unless_same false Fence h = absurd (h refl refl)
unless_same false Nop h = refl
unless_same false (Set r s) h = refl
unless_same false (Add r s) h = refl
unless_same false (JumpNonzero r t) h = refl
unless_same false (Jump t) h = refl
