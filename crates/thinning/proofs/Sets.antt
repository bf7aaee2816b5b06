-- Instructions and INIT lines are sets: two proofs of one equation between them are equal.
use Rattle.std.proofs.Common.{◌≡◌, ℕ, zero, suc, List, Some, None, Option, refl, ap, ◌∙◌}
use native.Mathlib.Nat.{ℕ_set}
use mathlib.Core.HLevel.{Σ_set}
use mathlib.Core.List.{is_set}
use ghost.Sets.{retract_set}
use Rattle.fields.specs.declared.registers.Register.{Register}
use Rattle.fields.specs.declared.registers.Register.TheVariants.{A, B, C, D}
use Rattle.instructions.specs.declared.types.Init.{Init}
use Rattle.instructions.specs.declared.types.Instruction.{Instruction}
use Rattle.instructions.specs.declared.types.Instruction.TheVariants.{Load, Store, Exchange, Fence, Nop, Set, Add, JumpNonzero, Jump}
use Rattle.instructions.specs.declared.types.Operand.{Operand}
use Rattle.instructions.specs.declared.types.Operand.TheVariants as operand

abbrev letter : Register → ℕ
letter A = 0
letter B = 1
letter C = 2
letter D = 3

abbrev register : ℕ → Register
register zero = A
register (suc zero) = B
register (suc (suc zero)) = C
register (suc (suc (suc n))) = D

registers : (r : Register) → register (letter r) ≡ r
registers A = refl
registers B = refl
registers C = refl
registers D = refl

-- an operand as two numbers
abbrev numbers : Operand → ℕ × ℕ
numbers (operand.Register r) = (0, letter r)
numbers (operand.Constant n) = (1, n)

abbrev operand_of : ℕ → ℕ → Operand
operand_of zero n = operand.Register (register n)
operand_of (suc k) n = operand.Constant n

abbrev operand_from : ℕ × ℕ → Operand
operand_from x = operand_of x.0 x.1

operands : (s : Operand) → operand_from (numbers s) ≡ s
operands (operand.Register A) = refl
operands (operand.Register B) = refl
operands (operand.Register C) = refl
operands (operand.Register D) = refl
operands (operand.Constant n) = refl

-- an instruction, or none, as four numbers
abbrev four_of : Option Instruction → ℕ × (ℕ × (ℕ × ℕ))
four_of None = (0, (0, (0, 0)))
four_of (Some (Load r a)) = (1, (letter r, (a, 0)))
four_of (Some (Store a s)) = (2, (a, ((numbers s).0, (numbers s).1)))
four_of (Some (Exchange r a)) = (3, (letter r, (a, 0)))
four_of (Some Fence) = (4, (0, (0, 0)))
four_of (Some Nop) = (5, (0, (0, 0)))
four_of (Some (Set r s)) = (6, (letter r, ((numbers s).0, (numbers s).1)))
four_of (Some (Add r s)) = (7, (letter r, ((numbers s).0, (numbers s).1)))
four_of (Some (JumpNonzero r t)) = (8, (letter r, (t, 0)))
four_of (Some (Jump t)) = (9, (t, (0, 0)))

abbrev instruction_of : ℕ → ℕ → ℕ → ℕ → Option Instruction
instruction_of zero x y z = None
instruction_of (suc zero) x y z = Some (Load (register x) y)
instruction_of (suc (suc zero)) x y z = Some (Store x (operand_of y z))
instruction_of (suc (suc (suc zero))) x y z = Some (Exchange (register x) y)
instruction_of (suc (suc (suc (suc zero)))) x y z = Some Fence
instruction_of (suc (suc (suc (suc (suc zero))))) x y z = Some Nop
instruction_of (suc (suc (suc (suc (suc (suc zero)))))) x y z = Some (Set (register x) (operand_of y z))
instruction_of (suc (suc (suc (suc (suc (suc (suc zero))))))) x y z = Some (Add (register x) (operand_of y z))
instruction_of (suc (suc (suc (suc (suc (suc (suc (suc zero)))))))) x y z = Some (JumpNonzero (register x) y)
instruction_of (suc (suc (suc (suc (suc (suc (suc (suc (suc n))))))))) x y z = Some (Jump x)

abbrev from_four : ℕ × (ℕ × (ℕ × ℕ)) → Option Instruction
from_four x = instruction_of x.0 x.1.0 x.1.1.0 x.1.1.1

instructions : (o : Option Instruction) → from_four (four_of o) ≡ o
instructions None = refl
instructions (Some (Load r a)) = ap (λ (q : Register). Some (Load q a)) (registers r)
instructions (Some (Store a s)) = ap (λ (q : Operand). Some (Store a q)) (operands s)
instructions (Some (Exchange r a)) = ap (λ (q : Register). Some (Exchange q a)) (registers r)
instructions (Some Fence) = refl
instructions (Some Nop) = refl
instructions (Some (Set r s)) = ap (λ (q : Register). Some (Set q (operand_from (numbers s)))) (registers r) ∙ ap (λ (q : Operand). Some (Set r q)) (operands s)
instructions (Some (Add r s)) = ap (λ (q : Register). Some (Add q (operand_from (numbers s)))) (registers r) ∙ ap (λ (q : Operand). Some (Add r q)) (operands s)
instructions (Some (JumpNonzero r t)) = ap (λ (q : Register). Some (JumpNonzero q t)) (registers r)
instructions (Some (Jump t)) = refl

pub instruction_set : IsSet (Option Instruction)
instruction_set = retract_set four_of from_four instructions (Σ_set ℕ_set (λ _. Σ_set ℕ_set (λ _. Σ_set ℕ_set (λ _. ℕ_set))))

init_set : IsSet Init
init_set = retract_set {B = ℕ × ℕ} (λ i. (i.address, i.value)) (λ x. record { address = x.0; value = x.1 }) (λ i. refl) (Σ_set ℕ_set (λ _. ℕ_set))

pub inits_set : IsSet (List Init)
inits_set = is_set init_set
