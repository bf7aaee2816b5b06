-- What is seen at one position, and what a sweep over all of them keeps.
use Rattle.std.specs.Prelude.{◌≡◌, ℕ, ◌+◌, ◌≤◌, Bool, true, false, not, ◌&&◌, ◌||◌, ◌⊎◌, List, length, Option, Some, None}
use Rattle.std.specs.Option.{option_map_or}
use Rattle.instructions.specs.declared.types.Instruction.{Instruction}
use Rattle.instructions.specs.declared.types.Instruction.TheVariants.{Load, Store, Exchange, Fence, JumpNonzero, Jump}
use Rattle.paths.specs.Paths.{Code, fetch}
use Rattle.paths.specs.Marks.{Exposed}
use Rattle.passes.specs.Marked.{exposed_marks}

-- where control can go after instruction i at k: a position, and another, if there is one
abbrev pub next_of : Instruction → ℕ → ℕ × Option ℕ
next_of (JumpNonzero r t) k = (k + 1, Some t)
next_of (Jump t) k = (t, None)
next_of _ k = (k + 1, None)

-- j is one of the two
abbrev pub Leads : ℕ × Option ℕ → ℕ → Type 0
Leads n j = (j ≡ n.0) ⊎ (n.1 ≡ Some j)

abbrev pub is_load : Instruction → Bool
is_load (Load r a) = true
is_load _ = false

abbrev pub is_store : Instruction → Bool
is_store (Store a s) = true
is_store _ = false

abbrev pub is_barrier : Instruction → Bool
is_barrier (Exchange r a) = true
is_barrier Fence = true
is_barrier _ = false

-- whether one of the two is marked
abbrev pub some : (ℕ → Bool) → ℕ × Option ℕ → Bool
some x n = x n.0 || option_map_or x n.1 false

-- whether position k with instruction i is exposed by what is marked
abbrev pub look : Instruction → ℕ → List Bool → Bool
look i k m = is_load i || (not (is_barrier i) && some (exposed_marks m) (next_of i k))

-- each mark has its path, and the positions from the end on are marked
pub record Exposes (c : Code) (m : List Bool) : Type 0 where
  pub truth : (k : ℕ) → exposed_marks m k ≡ true → Exposed c k
  pub ends : (k : ℕ) → length c ≤ k → exposed_marks m k ≡ true

-- P holds at each position of the code, and of the instruction there
abbrev pub AtEach : (ℕ → Instruction → Type 0) → Code → Type 0
AtEach P c = (k : ℕ) (i : Instruction) → fetch c k ≡ Some i → P k i

-- what a look at position k with instruction i finds is marked
abbrev pub SettledAt : List Bool → ℕ → Instruction → Type 0
SettledAt m k i = look i k m ≡ true → exposed_marks m k ≡ true
