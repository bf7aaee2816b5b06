-- That a routine is thinned, known as a mere truth, as the type of thinned routines has it.
use Rattle.grammar.specs.Listings.{Listing}
use Rattle.passes.specs.Passes.{ThinnedFrom}

-- from the mere truth the relation itself can be had, and so every promise
abbrev pub MereTruthSuffices : Type 0
MereTruthSuffices = (o f t : Listing) → ∥ ThinnedFrom o f t ∥₁ → ThinnedFrom o f t
