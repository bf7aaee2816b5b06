-- Code with fences taken out where no mark says that they stay.
use Rattle.std.specs.Prelude.{ℕ, suc, Bool, true, false, List, [], ◌∷◌}
use Rattle.instructions.specs.declared.types.Instruction.{Instruction}
use Rattle.instructions.specs.declared.types.Instruction.TheVariants.{Fence, Nop}

-- MFENCE becomes NOP where it is not marked; all else stays
abbrev pub unless : Bool → Instruction → Instruction
unless true i = i
unless false Fence = Nop
unless false i = i

-- the code whose first instruction stands at n, thinned by the marks of its positions
abbrev pub thin_from : (ℕ → Bool) → ℕ → List Instruction → List Instruction
thin_from stays n [] = []
thin_from stays n (i ∷ is) = unless (stays n) i ∷ thin_from stays (suc n) is
