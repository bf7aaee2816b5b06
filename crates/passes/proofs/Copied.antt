-- Which arrivals are dirty, position by position.
use Rattle.std.proofs.Common.{◌≡◌, ℕ, ◌<◌, ◌≤◌, Bool, true, false, ltb, List, length, sym, refl, ap, ◌∙◌, arith, ltb-false, ltb-true}
use Rattle.std.proofs.lemmas.List.{get_or_past}
use Rattle.passes.specs.declared.dirty.Arrival.{Arrival}
use Rattle.passes.specs.declared.dirty.Arrival.TheVariants as arrival
use Rattle.passes.specs.Arrivals.{arrival_at, is_dirty}
use Rattle.routine.specs.Thins.{marked}

pub record Copied (m : List Arrival) (d : List Bool) (n : ℕ) : Type 0 where
  pub size : length d ≡ 33
  pub below : (k : ℕ) → k < n → marked d k ≡ is_dirty (arrival_at m k)

pub copied_all : {m : List Arrival} {d : List Bool} {n : ℕ} → length m ≡ 33 → Copied m d n → 33 ≤ n → (k : ℕ) → marked d k ≡ is_dirty (arrival_at m k)
copied_all {m} {d} {n} z c h k = go (ltb k 33) refl
  where
    go : (b : Bool) → ltb k 33 ≡ b → marked d k ≡ is_dirty (arrival_at m k)
    go true q = c.below k (omega (arith, ltb-true k 33 q))
    go false q =
        let l : 33 ≤ k = ltb-false k 33 q in
        get_or_past d k false (omega (arith, c.size)) ∙ sym (ap is_dirty (get_or_past m k arrival.Never (omega (arith, z))))
