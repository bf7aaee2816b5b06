-- The two rules for fences, over all paths, and what a pass that keeps to them gives.
use Rattle.std.specs.Prelude.{◌≡◌, ℕ, suc, List, ◌∷◌, ◌++◌, length, Some}
use Rattle.instructions.specs.declared.types.Instruction.TheVariants.{Fence, Nop}
use Rattle.paths.specs.Paths.{Code, fetch, Road, StoreAt, BarrierAt, Among, Shows}

-- every path from 0 to k that has a ST before its last position has a barrier after the last such ST and before its last position
abbrev pub Shielded : Code → ℕ → Type 0
Shielded c k = (xs ys : List ℕ) (a : ℕ) → Road c 0 (xs ++ (a ∷ ys)) k → StoreAt c a → ¬ Among (StoreAt c) ys → Among (BarrierAt c) ys

-- every path from k that ends where a write shows has a barrier before its last position
abbrev pub Screened : Code → ℕ → Type 0
Screened c k = (ks : List ℕ) (l : ℕ) → Road c k ks l → Shows c l → Among (BarrierAt c) ks

-- t is c with NOP for each MFENCE that G speaks of, and for no other; all else is equal, position by position
pub record TakenOut (G : ℕ → Type 0) (c t : Code) : Type 0 where
  pub long : length t ≡ length c
  pub goes : (k : ℕ) → fetch c k ≡ Some Fence → G k → fetch t k ≡ Some Nop
  pub only : (k : ℕ) → fetch c k ≡ Some Fence → fetch t k ≡ Some Nop → G k
  pub stays : (k : ℕ) → ¬ ((fetch c k ≡ Some Fence) × G k) → fetch t k ≡ fetch c k

-- the forward pass: a fence goes where every waiting write has met a barrier before
abbrev pub ForwardOf : Code → Code → Type 0
ForwardOf o f = TakenOut (Shielded o) o f

-- the backward pass: a fence goes where every write meets a barrier later, before it shows
abbrev pub BackwardOf : Code → Code → Type 0
BackwardOf f t = TakenOut (λ k. Screened f (suc k)) f t
