-- What a call makes of a cache and of the memory below it. Of that memory, C are the cells, R is its own read and W its own write.
use Rattle.std.specs.Prelude.{◌≡◌, ℕ, Some, None, Option}
use Rattle.memory.specs.Cells.{Cells}
use Rattle.memory.specs.Pairs.{cell}
use Rattle.memory.specs.declared.cell.Cell.{Cell}
use Rattle.layers.specs.Lines.{laid, line_of, lined, word_in}
use Rattle.layers.specs.declared.cache.Cache.{Cache}

-- the memory below, with the lines laid over it
abbrev pub cache_cells : {M : Type 0} → (M → Cells) → Cache M → Cells
cache_cells C c = laid (C c.below) c.lines.slots

-- a line is written down, and an empty one is not
abbrev pub WrittenDown : {M : Type 0} → (M → ℕ → ℕ → M → Type 0) → Option Cell → M → M → Type 0
WrittenDown W None m n = n ≡ m
WrittenDown W (Some l) m n = W m l.address l.word n

-- a miss: the memory below reads a, then the line that a takes over is written down, and w is the word of a in it
pub record Missed {M : Type 0} (R : M → ℕ → M → Type 0) (W : M → ℕ → ℕ → M → Type 0) (c : Cache M) (a w : ℕ) (d : Cache M) : Type 0 where
  pub between : M
  pub read : R c.below a between
  pub written : WrittenDown W (line_of c.lines.slots a) between d.below
  pub line : d.lines.slots ≡ lined c.lines.slots a w

-- A read of a makes d of c. Where a is not held, and where its line has it, nothing changes; a held word is then in its line.
pub record CacheRead {M : Type 0} (C : M → Cells) (R : M → ℕ → M → Type 0) (W : M → ℕ → ℕ → M → Type 0) (c : Cache M) (a : ℕ) (d : Cache M) : Type 0 where
  pub refused : C c.below a ≡ None → d ≡ c
  pub hit : (v : ℕ) → word_in (line_of c.lines.slots a) a ≡ Some v → d ≡ c
  pub miss : (v : ℕ) → C c.below a ≡ Some v → word_in (line_of c.lines.slots a) a ≡ None → Missed R W c a v d
  pub line : (v : ℕ) → cache_cells C c a ≡ Some v → line_of d.lines.slots a ≡ Some (cell a v)

-- A write of w at a makes d of c. Where a is not held, nothing changes; where its line has it, only that line; where a is held, w is then in its line.
pub record CacheWritten {M : Type 0} (C : M → Cells) (R : M → ℕ → M → Type 0) (W : M → ℕ → ℕ → M → Type 0) (c : Cache M) (a w : ℕ) (d : Cache M) : Type 0 where
  pub refused : C c.below a ≡ None → d ≡ c
  pub hit : (u v : ℕ) → C c.below a ≡ Some u → word_in (line_of c.lines.slots a) a ≡ Some v → (d.below ≡ c.below) × (d.lines.slots ≡ lined c.lines.slots a w)
  pub miss : (u : ℕ) → C c.below a ≡ Some u → word_in (line_of c.lines.slots a) a ≡ None → Missed R W c a w d
  pub line : (v : ℕ) → cache_cells C c a ≡ Some v → line_of d.lines.slots a ≡ Some (cell a w)
