-- Marks on positions that decide the two rules.
use Rattle.std.specs.Prelude.{◌≡◌, ℕ, suc, Bool, true, Some}
use Rattle.instructions.specs.Thinning.{thin_from}
use Rattle.instructions.specs.declared.types.Instruction.{Instruction}
use Rattle.instructions.specs.declared.types.Instruction.TheVariants.{Store}
use Rattle.instructions.specs.declared.types.Operand.{Operand}
use Rattle.paths.specs.Paths.{Code, fetch, Follows, Barrier, Shows}
use Rattle.paths.specs.Rules.{ForwardOf, BackwardOf}

-- a path from k to l
pub data Walk (c : Code) : ℕ → ℕ → Type 0 where
  here : {k : ℕ} → Walk c k k
  step : {k j l : ℕ} (i : Instruction) → fetch c k ≡ Some i → Follows i k j → Walk c j l → Walk c k l

-- a path from k to l with no barrier before l
pub data Bare (c : Code) : ℕ → ℕ → Type 0 where
  here : {k : ℕ} → Bare c k k
  step : {k j l : ℕ} (i : Instruction) → fetch c k ≡ Some i → ¬ Barrier i → Follows i k j → Bare c j l → Bare c k l

-- some path from 0 to k has a ST before its last position and no barrier after that ST and before k
pub record Dirty (c : Code) (k : ℕ) : Type 0 where
  pub from : ℕ
  pub address : ℕ
  pub source : Operand
  pub reach : Walk c 0 from
  pub store : fetch c from ≡ Some (Store address source)
  pub clear : Bare c (suc from) k

-- some path from k ends where a write shows, with no barrier before
pub record Exposed (c : Code) (k : ℕ) : Type 0 where
  pub last : ℕ
  pub clear : Bare c k last
  pub shows : Shows c last

-- r marks what is reached from 0 and d what is dirty: both are closed along the code, and each mark of d has its path
pub record ForwardMarks (c : Code) (r d : ℕ → Bool) : Type 0 where
  pub start : r 0 ≡ true
  pub go : (k j : ℕ) (i : Instruction) → fetch c k ≡ Some i → Follows i k j → r k ≡ true → r j ≡ true
  pub put : (k a : ℕ) (s : Operand) → fetch c k ≡ Some (Store a s) → r k ≡ true → d (suc k) ≡ true
  pub on : (k j : ℕ) (i : Instruction) → fetch c k ≡ Some i → ¬ Barrier i → Follows i k j → d k ≡ true → d j ≡ true
  pub dirtied : (k : ℕ) → d k ≡ true → Dirty c k

-- x marks what is exposed: it is closed against the code, and each mark has its path
pub record BackwardMarks (c : Code) (x : ℕ → Bool) : Type 0 where
  pub shown : (k : ℕ) → Shows c k → x k ≡ true
  pub back : (k j : ℕ) (i : Instruction) → fetch c k ≡ Some i → ¬ Barrier i → Follows i k j → x j ≡ true → x k ≡ true
  pub exposed : (k : ℕ) → x k ≡ true → Exposed c k

-- such marks give what the rules ask for
abbrev pub MarksDecide : Type 0
MarksDecide =
    ((c : Code) (r d : ℕ → Bool) → ForwardMarks c r d → ForwardOf c (thin_from d 0 c))
    × ((c : Code) (x : ℕ → Bool) → BackwardMarks c x → BackwardOf c (thin_from (λ k. x (suc k)) 0 c))
