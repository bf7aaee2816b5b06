-- A routine with fences taken out of one party.
use Rattle.std.specs.Prelude.{ℕ, Bool, false, List, [], slice_index_or, slice_set}
use Rattle.instructions.specs.Thinning.{thin_from}
use Rattle.grammar.specs.Listings.{Listing}

-- the positions that a list of marks marks
abbrev pub marked : List Bool → ℕ → Bool
marked m k = slice_index_or m k false

-- a party that the routine lacks changes nothing
abbrev pub thinned_at : ℕ → (ℕ → Bool) → Listing → Listing
thinned_at p m l = record { inits = l.inits; parties = slice_set l.parties p (thin_from m 0 (slice_index_or l.parties p [])) }
