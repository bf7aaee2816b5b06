-- Paths of bounded length, decided.
use Rattle.std.proofs.Common.{◌≡◌, ℕ, zero, suc, ◌⊎◌, length, Some, refl, inl, inr}
use Rattle.instructions.specs.declared.types.Instruction.{Instruction}
use Rattle.instructions.specs.declared.types.Instruction.TheVariants.{Load, Store, Exchange, Fence, Nop, Set, Add, JumpNonzero, Jump}
use Rattle.paths.specs.Paths.{Code, fetch, Follows}
use Rattle.paths.proofs.Decided.{both?, either?, not?, change?, Below, below?}
use Rattle.paths.proofs.Fetches.{fetch_below}
use Rattle.paths.proofs.Standing.{At, at?}

-- some position after i at k is as P says
abbrev pub Next : (ℕ → Type 0) → Instruction → ℕ → Type 0
Next P i k = (j : ℕ) × Follows i k j × P j

abbrev pub next? : (P : ℕ → Type 0) → ((j : ℕ) → Dec (P j)) → (i : Instruction) (k : ℕ) → Dec (Next P i k)
next? P d i k = go i
  where
    one : (x : ℕ) → Dec ((j : ℕ) × (j ≡ x) × P j)
    one x = change? (λ p. (x, refl, p)) (λ y. let e = y.1 in rw e at y.2) (d x)

    two : {A B : ℕ → Type 0} → ((j : ℕ) × A j × P j) ⊎ ((j : ℕ) × B j × P j) → (j : ℕ) × (A j ⊎ B j) × P j
    two (inl x) = (x.0, inl x.1, x.2)
    two (inr x) = (x.0, inr x.1, x.2)

    apart_two : {A B : ℕ → Type 0} → (j : ℕ) × (A j ⊎ B j) × P j → ((j : ℕ) × A j × P j) ⊎ ((j : ℕ) × B j × P j)
    apart_two (j, inl a, p) = inl (j, a, p)
    apart_two (j, inr b, p) = inr (j, b, p)

    go : (i : Instruction) → Dec (Next P i k)
    go (Load r a) = one (suc k)
    go (Store a s) = one (suc k)
    go (Exchange r a) = one (suc k)
    go Fence = one (suc k)
    go Nop = one (suc k)
    go (Set r s) = one (suc k)
    go (Add r s) = one (suc k)
    go (JumpNonzero r t) = change? two apart_two (either? (one t) (one (suc k)))
    go (Jump t) = one t

-- one step through an instruction of which O holds leads from k to where P holds
abbrev pub Leads : Code → (Instruction → Type 0) → (ℕ → Type 0) → ℕ → Type 0
Leads c O P k = At c (λ i. O i × Next P i k) k

abbrev pub leads? : (c : Code) (O : Instruction → Type 0) → ((i : Instruction) → Dec (O i)) → (P : ℕ → Type 0) → ((j : ℕ) → Dec (P j)) → (k : ℕ) → Dec (Leads c O P k)
leads? c O o P d k = at? c (λ i. O i × Next P i k) (λ i. both? (o i) (next? P d i k)) k

-- at most n such steps lead from k to where G holds
abbrev pub Near : Code → (Instruction → Type 0) → (ℕ → Type 0) → ℕ → ℕ → Type 0
Near c O G zero k = G k
Near c O G (suc n) k = G k ⊎ Leads c O (Near c O G n) k

abbrev pub near? : (c : Code) (O : Instruction → Type 0) → ((i : Instruction) → Dec (O i)) → (G : ℕ → Type 0) → ((k : ℕ) → Dec (G k)) → (n k : ℕ) → Dec (Near c O G n k)
near? c O o G g zero k = g k
near? c O o G g (suc n) k = either? (g k) (leads? c O o (Near c O G n) (near? c O o G g n) k)

pub near_at : (c : Code) (O : Instruction → Type 0) (G : ℕ → Type 0) (n k : ℕ) → G k → Near c O G n k
near_at c O G zero k g = g
near_at c O G (suc n) k g = inl g

-- what holds where G does, and goes backward over such steps, holds at k
pub near_holds : (c : Code) (O : Instruction → Type 0) (G P : ℕ → Type 0) → ((k : ℕ) → G k → P k) → ((k j : ℕ) (i : Instruction) → fetch c k ≡ Some i → O i → Follows i k j → P j → P k) → (n k : ℕ) → Near c O G n k → P k
near_holds c O G P g s zero k h = g k h
near_holds c O G P g s (suc n) k (inl h) = g k h
near_holds c O G P g s (suc n) k (inr (i, f, (o, (j, w, h)))) = s k j i f o w (near_holds c O G P g s n j h)

-- a step from a position where P holds to one where it does not
abbrev pub Leak : Code → (Instruction → Type 0) → (ℕ → Type 0) → Type 0
Leak c O P = Below (length c) (λ k. P k × Leads c O (λ j. ¬ P j) k)

abbrev pub leak? : (c : Code) (O : Instruction → Type 0) → ((i : Instruction) → Dec (O i)) → (P : ℕ → Type 0) → ((j : ℕ) → Dec (P j)) → Dec (Leak c O P)
leak? c O o P d = below? (length c) (λ k. P k × Leads c O (λ j. ¬ P j) k) (λ k. both? (d k) (leads? c O o (λ j. ¬ P j) (λ j. not? (d j)) k))

pub leaves_none : (c : Code) (O : Instruction → Type 0) (P : ℕ → Type 0) → ((j : ℕ) → Dec (P j)) → ¬ Leak c O P → (k j : ℕ) (i : Instruction) → fetch c k ≡ Some i → O i → Follows i k j → P k → P j
leaves_none c O P d n k j i f o w p = go (d j)
  where
    go : Dec (P j) → P j
    go (yes q) = q
    go (no m) = absurd (n (k, fetch_below c k i f, (p, (i, f, (o, (j, w, m))))))
