-- Decisions that compute.
use Rattle.std.proofs.Common.{◌≡◌, ℕ, zero, suc, ◌<◌, Bool, true, false, ◌⊎◌, refl, ap, inl, inr, arith}

abbrev pub sure : {P : Type 0} → Dec P → Bool
sure (yes p) = true
sure (no n) = false

pub sure_in : {P : Type 0} (d : Dec P) → P → sure d ≡ true
sure_in (yes q) p = refl
sure_in (no n) p = absurd (n p)

pub sure_out : {P : Type 0} (d : Dec P) → sure d ≡ true → P
sure_out (yes q) e = q
sure_out (no n) e = cc

abbrev pub both? : {P Q : Type 0} → Dec P → Dec Q → Dec (P × Q)
both? (no n) e = no (λ x. n x.0)
both? (yes p) (no n) = no (λ x. n x.1)
both? (yes p) (yes q) = yes (p, q)

abbrev pub either? : {P Q : Type 0} → Dec P → Dec Q → Dec (P ⊎ Q)
either? (yes p) e = yes (inl p)
either? (no n) (yes q) = yes (inr q)
either? (no n) (no m) = no (λ x. elim x [ inl y ↦ n y | inr y ↦ m y ])

abbrev pub not? : {P : Type 0} → Dec P → Dec (¬ P)
not? (yes p) = no (λ n. n p)
not? (no n) = yes n

abbrev pub change? : {P Q : Type 0} → (P → Q) → (Q → P) → Dec P → Dec Q
change? f g (yes p) = yes (f p)
change? f g (no n) = no (λ q. n (g q))

abbrev pub same? : (a b : ℕ) → Dec (a ≡ b)
same? zero zero = yes refl
same? zero (suc b) = no (λ e. omega arith)
same? (suc a) zero = no (λ e. omega arith)
same? (suc a) (suc b) = change? (λ e. ap suc e) (λ e. omega arith) (same? a b)

-- some number below n is as P says
abbrev pub Below : ℕ → (ℕ → Type 0) → Type 0
Below n P = (k : ℕ) × (k < n) × P k

pub below_split : (P : ℕ → Type 0) (n : ℕ) → Below (suc n) P → P 0 ⊎ Below n (λ k. P (suc k))
below_split P n (zero, l, p) = inl p
below_split P n (suc k, l, p) = inr (k, omega arith, p)

pub below_join : (P : ℕ → Type 0) (n : ℕ) → P 0 ⊎ Below n (λ k. P (suc k)) → Below (suc n) P
below_join P n (inl p) = (0, omega arith, p)
below_join P n (inr x) = let l = x.1 in (suc x.0, omega arith, x.2)

abbrev pub below? : (n : ℕ) (P : ℕ → Type 0) → ((k : ℕ) → Dec (P k)) → Dec (Below n P)
below? zero P d = no (λ x. let l = x.1 in omega arith)
below? (suc n) P d = change? (below_join P n) (below_split P n) (either? (d 0) (below? n (λ k. P (suc k)) (λ k. d (suc k))))
