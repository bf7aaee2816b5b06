-- Updates of a function at one number, and sums.
use Rattle.std.proofs.Common.{◌≡◌, ℕ, zero, suc, ◌+◌, ◌<◌, Bool, true, false, cond, eqb, ◌⊎◌, sym, refl, ap, ◌∙◌, inl, inr, arith}
use mathlib.Core.Path.{fun_ext}
use Rattle.std.proofs.lemmas.Bool.{eq-eqb, eqb-true, eqb-false}
use Rattle.tso.specs.Machine.{updated}
use Rattle.thinning.specs.Comparing.{sum_to}

pub eqb_self : (n : ℕ) → eqb n n ≡ true
eqb_self n = eq-eqb n n refl

pub same_or_not : (j k : ℕ) → (j ≡ k) ⊎ (eqb j k ≡ false)
same_or_not j k = go (eqb j k) refl
  where
    go : (b : Bool) → eqb j k ≡ b → (j ≡ k) ⊎ (eqb j k ≡ false)
    go true e = inl (eqb-true j k e)
    go false e = inr e

pub updated_same : {V : Type 0} (f : ℕ → V) (k : ℕ) (v : V) → updated f k v k ≡ v
updated_same f k v = rw (eqb_self k)

pub updated-other : {V : Type 0} (f : ℕ → V) (k : ℕ) (v : V) (j : ℕ) → eqb j k ≡ false → updated f k v j ≡ f j
updated-other f k v j e = rw e

pub updated_value : {V : Type 0} (f : ℕ → V) (k : ℕ) (v : V) → f k ≡ v → updated f k v ≡ f
updated_value f k v h = fun_ext (λ j. go j (same_or_not j k))
  where
    go : (j : ℕ) → (j ≡ k) ⊎ (eqb j k ≡ false) → updated f k v j ≡ f j
    go j (inl e) = ap (updated f k v) e ∙ updated_same f k v ∙ sym h ∙ ap f (sym e)
    go j (inr e) = updated-other f k v j e

pub updated-twice : {V : Type 0} (f : ℕ → V) (k : ℕ) (v w : V) → updated (updated f k v) k w ≡ updated f k w
updated-twice f k v w = fun_ext (λ j. elim (eqb j k) as (λ (b : Bool). cond b w (cond b v (f j)) ≡ cond b w (f j)) [ true ↦ refl | false ↦ refl ])

-- a sum with one of its numbers changed
sum-outside : (n : ℕ) (f : ℕ → ℕ) (k v : ℕ) → n < suc k → sum_to n (updated f k v) ≡ sum_to n f
sum-outside zero f k v h = refl
sum-outside (suc n) f k v h = let ih = sum-outside n f k v (omega arith) in go (same_or_not n k) ih
  where
    go : (n ≡ k) ⊎ (eqb n k ≡ false) → sum_to n (updated f k v) ≡ sum_to n f → sum_to (suc n) (updated f k v) ≡ sum_to (suc n) f
    go (inl e) ih = absurd (omega arith)
    go (inr e) ih = let x = updated-other f k v n e in omega arith

pub sum-updated : (n : ℕ) (f : ℕ → ℕ) (k v : ℕ) → k < n → sum_to n (updated f k v) + f k ≡ sum_to n f + v
sum-updated zero f k v h = absurd (omega arith)
sum-updated (suc n) f k v h = go (λ l. sum-updated n f k v l) (same_or_not n k)
  where
    go : (k < n → sum_to n (updated f k v) + f k ≡ sum_to n f + v) → (n ≡ k) ⊎ (eqb n k ≡ false) → sum_to (suc n) (updated f k v) + f k ≡ sum_to (suc n) f + v
    go ih (inl e) = let x : updated f k v n ≡ v = ap (updated f k v) e ∙ updated_same f k v in let y = sum-outside n f k v (omega arith) in let z : f n ≡ f k = ap f e in omega arith
    go ih (inr e) = let x = updated-other f k v n e in let y = eqb-false n k e in let z = ih (omega arith) in omega arith
