-- A memory seen from a distance on.
use Rattle.std.specs.Prelude.{◌≡◌, ℕ, ◌+◌, if◌then◌else◌, None, MatchBool, nat_le}
use Rattle.memory.specs.Cells.{Cells}
use Rattle.layers.specs.declared.offset.Offset.{Offset}

-- the address a means a + d below, and nothing where that is no address
abbrev pub shifted : Cells → ℕ → Cells
shifted f d a = if nat_le (a + d) 65535 then f (a + d) else None

-- What a call at a makes of m: its distance stays, and the memory below makes the same call at a + distance, or none.
-- Call b k l says that the call at b makes l of the memory k.
abbrev pub Through : {M : Type 0} → (ℕ → M → M → Type 0) → Offset M → ℕ → Offset M → Type 0
Through Call m a n =
    (n.distance ≡ m.distance)
    × MatchBool (nat_le (a + m.distance) 65535) (Call (a + m.distance) m.below n.below) (n.below ≡ m.below)
