-- Paths through a party's code, whatever its registers hold.
use Rattle.std.specs.Prelude.{◌≡◌, ℕ, zero, suc, ◌⊎◌, List, [], ◌∷◌, Some, None, Option}
use Rattle.instructions.specs.declared.types.Instruction.{Instruction}
use Rattle.instructions.specs.declared.types.Instruction.TheVariants.{Load, Store, Exchange, Fence, Nop, Set, Add, JumpNonzero, Jump}
use Rattle.instructions.specs.declared.types.Operand.{Operand}
use Rattle.fields.specs.declared.registers.Register.{Register}

abbrev pub Code : Type 0
Code = List Instruction

-- the instruction at a position; at the end and past it there is none
abbrev pub fetch : Code → ℕ → Option Instruction
fetch [] k = None
fetch (i ∷ is) zero = Some i
fetch (i ∷ is) (suc k) = fetch is k

-- after instruction i at k the next position can be j
abbrev pub Follows : Instruction → ℕ → ℕ → Type 0
Follows (Load r a) k j = j ≡ suc k
Follows (Store a s) k j = j ≡ suc k
Follows (Exchange r a) k j = j ≡ suc k
Follows Fence k j = j ≡ suc k
Follows Nop k j = j ≡ suc k
Follows (Set r s) k j = j ≡ suc k
Follows (Add r s) k j = j ≡ suc k
Follows (JumpNonzero r t) k j = (j ≡ t) ⊎ (j ≡ suc k)
Follows (Jump t) k j = j ≡ t

-- MFENCE and XCHG are barriers
abbrev pub Barrier : Instruction → Type 0
Barrier (Load r a) = ⊥
Barrier (Store a s) = ⊥
Barrier (Exchange r a) = Unit {0}
Barrier Fence = Unit {0}
Barrier Nop = ⊥
Barrier (Set r s) = ⊥
Barrier (Add r s) = ⊥
Barrier (JumpNonzero r t) = ⊥
Barrier (Jump t) = ⊥

-- a path from k to l, each position following from the one before; ks are its positions before the last
pub data Road (c : Code) : ℕ → List ℕ → ℕ → Type 0 where
  here : {k : ℕ} → Road c k [] k
  step : {k j l : ℕ} {ks : List ℕ} (i : Instruction) → fetch c k ≡ Some i → Follows i k j → Road c j ks l → Road c k (k ∷ ks) l

abbrev pub StoreAt : Code → ℕ → Type 0
StoreAt c k = (a : ℕ) × (s : Operand) × (fetch c k ≡ Some (Store a s))

abbrev pub BarrierAt : Code → ℕ → Type 0
BarrierAt c k = (i : Instruction) × (fetch c k ≡ Some i) × Barrier i

-- some position of the list is as P says
abbrev pub Among : (ℕ → Type 0) → List ℕ → Type 0
Among P [] = ⊥
Among P (k ∷ ks) = P k ⊎ Among P ks

-- where a write that still waits would show: at a load, and at the end
pub data Shows (c : Code) (l : ℕ) : Type 0 where
  load : (r : Register) (a : ℕ) → fetch c l ≡ Some (Load r a) → Shows c l
  end : fetch c l ≡ None → Shows c l
