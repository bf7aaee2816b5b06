-- What a pass makes of a whole routine, and of both passes one after the other.
use Rattle.std.specs.Prelude.{◌≡◌, ℕ, suc, length}
use Rattle.grammar.specs.Listings.{Listing, code_at}
use Rattle.paths.specs.Paths.{Code}
use Rattle.paths.specs.Rules.{TakenOut, Shielded, Screened}
use Rattle.passes.specs.declared.pass.Pass.{Pass}
use Rattle.passes.specs.declared.pass.Pass.TheVariants.{Forward, Backward}

-- the rule by which a pass takes out the fence at a position
abbrev pub RuleOf : Pass → Code → ℕ → Type 0
RuleOf Forward c k = Shielded c k
RuleOf Backward c k = Screened c (suc k)

-- m is l after the pass: party by party, fences are taken out by the rule and nothing else has changed
pub record PassedBy (pass : Pass) (l m : Listing) : Type 0 where
  pub inits : m.inits ≡ l.inits
  pub count : length m.parties ≡ length l.parties
  pub each : (p : ℕ) → TakenOut (RuleOf pass (code_at l p)) (code_at l p) (code_at m p)

-- t is o thinned: f is o after the forward pass, and t is f after the backward pass
pub record ThinnedFrom (o f t : Listing) : Type 0 where
  pub forward : PassedBy Forward o f
  pub backward : PassedBy Backward f t
