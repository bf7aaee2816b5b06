use mathlib.Core.Logic.{∥∥₁_map}
use Rattle.passes.proofs.routines.Thinned.new.Goals as goal

pub invariant_of-result : goal.invariant_of-result
invariant_of-result c = record { thinned_from = ∥∥₁_map c.requires.forward (λ f. record { forward = f; backward = c.requires.backward }) }
