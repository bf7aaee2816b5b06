-- That a routine is thinned, from the mere truth of it: each part is an equation between members of a set, or says that there is no path of some kind.
use Rattle.std.proofs.Common.{ℕ, suc, ◌↔◌}
use native.Mathlib.Nat.{ℕ_set}
use mathlib.Core.HLevel.{⊥_prop}
use mathlib.Core.Logic.{∥∥₁_elim, ∥∥₁_map}
use Rattle.grammar.specs.Listings.{Listing, code_at}
use Rattle.paths.specs.Paths.{Code}
use Rattle.paths.specs.Rules.{TakenOut}
use Rattle.paths.proofs.Roads.{shielded_is, screened_is}
use Rattle.passes.specs.Passes.{RuleOf, PassedBy}
use Rattle.passes.specs.declared.pass.Pass.{Pass}
use Rattle.passes.specs.declared.pass.Pass.TheVariants.{Forward, Backward}
use Rattle.thinning.specs.Truths.{MereTruthSuffices}
use Rattle.thinning.proofs.Sets.{instruction_set, inits_set}

merely : {P B : Type 0} → P ↔ (¬ B) → ∥ P ∥₁ → P
merely h x = h.1 (λ b. ∥∥₁_elim x ⊥_prop (λ p. h.0 p b))

rule : (pass : Pass) (c : Code) (k : ℕ) → ∥ RuleOf pass c k ∥₁ → RuleOf pass c k
rule Forward c k = merely (shielded_is c k)
rule Backward c k = merely (screened_is c (suc k))

taken_out : (pass : Pass) (c t : Code) → ∥ TakenOut (RuleOf pass c) c t ∥₁ → TakenOut (RuleOf pass c) c t
taken_out pass c t h =
    record {
      long = ∥∥₁_elim h (ℕ_set _ _) (λ x. x.long);
      goes = λ k a g. ∥∥₁_elim h (instruction_set _ _) (λ x. x.goes k a g);
      only = λ k a b. rule pass c k (∥∥₁_map h (λ x. x.only k a b));
      stays = λ k n. ∥∥₁_elim h (instruction_set _ _) (λ x. x.stays k n);
    }

passed_by : (pass : Pass) (l m : Listing) → ∥ PassedBy pass l m ∥₁ → PassedBy pass l m
passed_by pass l m h =
    record {
      inits = ∥∥₁_elim h (inits_set _ _) (λ x. x.inits);
      count = ∥∥₁_elim h (ℕ_set _ _) (λ x. x.count);
      each = λ p. taken_out pass (code_at l p) (code_at m p) (∥∥₁_map h (λ x. x.each p));
    }

pub mere_truth_suffices : MereTruthSuffices
mere_truth_suffices o f t h = record { forward = passed_by Forward o f (∥∥₁_map h (λ x. x.forward)); backward = passed_by Backward f t (∥∥₁_map h (λ x. x.backward)) }
