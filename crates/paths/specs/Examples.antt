-- Worked examples: code, and what both passes make of it.
use Rattle.std.specs.Prelude.{◌≡◌, List, [], ◌∷◌}
use Rattle.fields.specs.declared.registers.Register.TheVariants.{A, B}
use Rattle.instructions.specs.declared.types.Instruction.TheVariants.{Load, Store, Exchange, Fence, Nop, JumpNonzero, Jump}
use Rattle.instructions.specs.declared.types.Operand.TheVariants.{Constant}
use Rattle.paths.specs.Paths.{Code}
use Rattle.paths.specs.Rules.{ForwardOf, BackwardOf}

pub record Case : Type 0 where
  pub code : Code
  pub thinned : Code

abbrev pub cases : List Case
cases =
    record { code = Store 0 (Constant 1) ∷ (Fence ∷ (Load A 1 ∷ [])); thinned = Store 0 (Constant 1) ∷ (Fence ∷ (Load A 1 ∷ [])) }
    ∷ (record { code = Store 0 (Constant 1) ∷ (Fence ∷ (Fence ∷ (Load A 1 ∷ []))); thinned = Store 0 (Constant 1) ∷ (Fence ∷ (Nop ∷ (Load A 1 ∷ []))) }
    ∷ (record { code = Store 0 (Constant 1) ∷ (Fence ∷ (Store 1 (Constant 1) ∷ (Fence ∷ (Load A 2 ∷ [])))); thinned = Store 0 (Constant 1) ∷ (Nop ∷ (Store 1 (Constant 1) ∷ (Fence ∷ (Load A 2 ∷ [])))) }
    ∷ (record { code = Jump 2 ∷ (Store 0 (Constant 1) ∷ (Fence ∷ (Load A 1 ∷ []))); thinned = Jump 2 ∷ (Store 0 (Constant 1) ∷ (Nop ∷ (Load A 1 ∷ []))) }
    ∷ (record { code = Store 0 (Constant 1) ∷ (Fence ∷ []); thinned = Store 0 (Constant 1) ∷ (Fence ∷ []) }
    ∷ (record { code = Store 0 (Constant 1) ∷ (Fence ∷ (Fence ∷ (Store 1 (Constant 1) ∷ (Fence ∷ (Load A 2 ∷ []))))); thinned = Store 0 (Constant 1) ∷ (Nop ∷ (Nop ∷ (Store 1 (Constant 1) ∷ (Fence ∷ (Load A 2 ∷ []))))) }
    ∷ (record { code = Store 0 (Constant 1) ∷ (Fence ∷ (Jump 4 ∷ (Store 0 (Constant 2) ∷ (Fence ∷ (Load A 1 ∷ []))))); thinned = Store 0 (Constant 1) ∷ (Fence ∷ (Jump 4 ∷ (Store 0 (Constant 2) ∷ (Nop ∷ (Load A 1 ∷ []))))) }
    ∷ (record { code = JumpNonzero A 4 ∷ (Store 0 (Constant 1) ∷ (Fence ∷ (Jump 5 ∷ (Exchange B 0 ∷ (Fence ∷ (Load A 1 ∷ [])))))); thinned = JumpNonzero A 4 ∷ (Store 0 (Constant 1) ∷ (Fence ∷ (Jump 5 ∷ (Exchange B 0 ∷ (Nop ∷ (Load A 1 ∷ [])))))) }
    ∷ (record { code = Fence ∷ (Store 0 (Constant 1) ∷ (Jump 0 ∷ [])); thinned = Nop ∷ (Store 0 (Constant 1) ∷ (Jump 0 ∷ [])) }
    ∷ (record { code = Store 0 (Constant 1) ∷ (Fence ∷ (Jump 2 ∷ [])); thinned = Store 0 (Constant 1) ∷ (Nop ∷ (Jump 2 ∷ [])) }
    ∷ (record { code = Load A 1 ∷ (Fence ∷ (Store 0 (Constant 1) ∷ (JumpNonzero A 0 ∷ []))); thinned = Load A 1 ∷ (Fence ∷ (Store 0 (Constant 1) ∷ (JumpNonzero A 0 ∷ []))) }
    ∷ []))))))))))

-- whatever the two passes give by their rules is what the case says
abbrev pub ThinsTo : Case → Type 0
ThinsTo c = (f t : Code) → ForwardOf c.code f → BackwardOf f t → t ≡ c.thinned

abbrev pub Each : (Case → Type 0) → List Case → Type 0
Each P [] = Unit {0}
Each P (c ∷ cs) = P c × Each P cs

abbrev pub ExamplesHold : Type 0
ExamplesHold = Each ThinsTo cases
