-- How control arrives at a position, and what a sweep over all of them keeps.
use Rattle.std.specs.Prelude.{◌≡◌, ℕ, ◌-◌, ◌<◌, ◌≤◌, Bool, true, false, if◌then◌else◌, ◌⊎◌, List, Option, sum_by, slice_index_or}
use Rattle.instructions.specs.declared.types.Instruction.{Instruction}
use Rattle.paths.specs.Paths.{Code, Follows}
use Rattle.paths.specs.Marks.{Walk, Dirty}
use Rattle.passes.specs.declared.dirty.Arrival.{Arrival}
use Rattle.passes.specs.declared.dirty.Arrival.TheVariants as arrival
use Rattle.passes.specs.Local.{is_store, is_barrier, Leads}

-- past the list control never arrives
abbrev pub arrival_at : List Arrival → ℕ → Arrival
arrival_at m k = slice_index_or m k arrival.Never

-- the order in which an arrival is raised
abbrev pub rank_of : Arrival → ℕ
rank_of arrival.Never = 0
rank_of arrival.Clean = 1
rank_of arrival.Dirty = 2

abbrev pub is_dirty : Arrival → Bool
is_dirty arrival.Never = false
is_dirty arrival.Clean = false
is_dirty arrival.Dirty = true

-- the arrival after instruction i, by the one at it
abbrev pub after_of : Instruction → Arrival → Arrival
after_of i arrival.Never = arrival.Never
after_of i arrival.Clean = if is_store i then arrival.Dirty else arrival.Clean
after_of i arrival.Dirty = if is_barrier i then arrival.Clean else arrival.Dirty

-- by how much a list of arrivals can still be raised
abbrev pub lacking : List Arrival → ℕ
lacking m = sum_by (λ a. 2 - rank_of a) m

-- m becomes m', the positions of n being raised to t at least; v says whether any was lower
pub record Spread (n : ℕ × Option ℕ) (t : Arrival) (v : Bool) (m m' : List Arrival) : Type 0 where
  pub same : v ≡ false → m' ≡ m
  pub fewer : v ≡ true → lacking m' < lacking m
  pub raised : (j : ℕ) → Leads n j → rank_of t ≤ rank_of (arrival_at m' j)
  pub grows : (j : ℕ) → rank_of (arrival_at m j) ≤ rank_of (arrival_at m' j)
  pub origin : (j : ℕ) → (arrival_at m' j ≡ arrival_at m j) ⊎ (Leads n j × (arrival_at m' j ≡ t))

-- an arrival at k has its paths
abbrev pub Good : Code → ℕ → Arrival → Type 0
Good c k arrival.Never = Unit {0}
Good c k arrival.Clean = Walk c 0 k
Good c k arrival.Dirty = Walk c 0 k × Dirty c k

-- each arrival has its paths, and there is one at the start
pub record Arrives (c : Code) (m : List Arrival) : Type 0 where
  pub truth : (k : ℕ) → Good c k (arrival_at m k)
  pub start : 1 ≤ rank_of (arrival_at m 0)

-- what follows from position k with instruction i has arrived
abbrev pub SpentAt : List Arrival → ℕ → Instruction → Type 0
SpentAt m k i = (j : ℕ) → Follows i k j → rank_of (after_of i (arrival_at m k)) ≤ rank_of (arrival_at m j)
