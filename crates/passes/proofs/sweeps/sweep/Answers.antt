use Rattle.std.proofs.Common.{◌≡◌, ℕ, ◌+◌, ◌<◌, Some, length, sym, ap, subst, ⊎_elim, arith}
use Rattle.std.proofs.lemmas.Bool.{cases_eq, or_parts}
use Rattle.std.proofs.lemmas.Grind.{common_steps}
use Rattle.instructions.specs.declared.types.Instruction.{Instruction}
use Rattle.paths.specs.Paths.{Code, fetch}
use Rattle.paths.proofs.Fetches.{fetch_at, fetch_below}
use Rattle.passes.proofs.Lawful.{lawful_within}
use Rattle.passes.proofs.sweeps.sweep.Goals as goal

-- one position more
settled_more : {M : Type 0} (S : M → ℕ → Instruction → Type 0) (c : Code) {m m' : M} {n : ℕ} {i : Instruction} → fetch c n ≡ Some i → m' ≡ m → S m' n i
    → ((k : ℕ) (j : Instruction) → k < n → fetch c k ≡ Some j → S m k j) → (k : ℕ) (j : Instruction) → k < n + 1 → fetch c k ≡ Some j → S m' k j
settled_more S c {m} {m'} {n} {i} at same here below k j low f = ⊎_elim
    (λ (e : k ≡ n). let p : i ≡ j = cc in subst (S m' k) p (subst (λ l. S m' l i) (sym e) here))
    (λ (e : k ≡ n → ⊥). subst (λ x. S x k j) (sym same) (below k j (omega arith) f))
    (cases_eq k n)

pub invariant_of-visit-clause-within : goal.invariant_of-visit-clause-within
invariant_of-visit-clause-within g c j follows =
    let h = lawful_within _ c.loop-k.k j _ c.code.invariant (fetch_at c.code.inside.instructions.now c.loop-k.k _ c.loop-k-test.true) follows in
    omega arith

pub loop-k-preserved : goal.loop-k-preserved
loop-k-preserved g c = let here = fetch_at c.code.inside.instructions.now c.loop-k.k _ c.loop-k-test.true in record {
  sound = c.visit-changed.ensures.sound c.args.code.now (rw (← c.code.view_is) here) c.loop-k.invariant.sound;
  same = grind (arith, common_steps);
  settled = λ still.
      let parts = or_parts c.loop-k.changed c.visit-changed.result still in
      settled_more g.M.Marks.is_settled c.args.code.now (rw (← c.code.view_is) here) (c.visit-changed.ensures.same parts.1) (c.visit-changed.ensures.settled parts.1) (c.loop-k.invariant.settled parts.0);
  fewer = grind (arith, common_steps);
}

pub returns-clause-settled : goal.returns-clause-settled
returns-clause-settled g c still k i at =
    c.loop-k.invariant.settled still k i (let h = fetch_below c.args.code.now k i at in omega (arith, c.loop-k-test.false, ap length c.code.view_is)) at
