-- Worked examples: what both passes make of a code, the tape of a double run, which text is refused, and what an order comes to.
use Rattle.std.specs.Prelude.{◌≡◌, ℕ, List, [], ◌∷◌, map, Some, None, Ok, Err, Option, Result}
use Rattle.fields.specs.declared.registers.Register.TheVariants.{A, B}
use Rattle.instructions.specs.declared.types.Instruction.TheVariants.{Load, Store, Exchange, Fence, Nop, JumpNonzero, Jump}
use Rattle.instructions.specs.declared.types.Operand.TheVariants.{Constant}
use Rattle.grammar.specs.Faults.{routine_code}
use Rattle.grammar.specs.Listings.{Listing}
use Rattle.grammar.specs.Reads.{read_of}
use Rattle.grammar.specs.declared.faults.RoutineFault.{RoutineFault}
use Rattle.memory.specs.Cells.{Cells}
use Rattle.orders.specs.declared.entries.Entry.{Entry}
use Rattle.orders.specs.declared.entries.Entry.TheVariants.{Step, Drain}
use Rattle.passes.specs.Passes.{ThinnedFrom}
use Rattle.paths.specs.Paths.{Code}
use Rattle.paths.specs.Rules.{ForwardOf, BackwardOf}
use Rattle.tso.specs.Examples.{Case, cases, Comes}
use Rattle.thinning.specs.Pairs.{paired, fed_all}

pub data Example : Type 0 where
  -- the two passes make the second code of the first
  thins : Code → Code → Example
  -- a double run of the code, as the only party's, that is fed the first entries has the second as its tape
  retells : Code → List Entry → List Entry → Example
  -- the text is refused with the number
  refuses : List ℕ → ℕ → Example
  -- an order on a run that was just opened comes to what the case says
  comes : Case → Example

-- a routine of one party
abbrev pub alone : Code → Listing
alone c = record { inits = []; parties = c ∷ [] }

-- the number with which a text is refused, if it is
abbrev pub refusal : Result Listing RoutineFault → Option ℕ
refusal (Ok l) = None
refusal (Err e) = Some (routine_code e).number

-- whatever the passes give by their rules, and on whatever memories, it comes out as the example says
abbrev pub Stands : Example → Type 0
Stands (thins c d) = (f t : Code) → ForwardOf c f → BackwardOf f t → t ≡ d
Stands (retells c es xs) = (f t : Listing) → ThinnedFrom (alone c) f t → (m n : Cells) → (fed_all (alone c) t es (paired (alone c) t m n)).tape ≡ xs
Stands (refuses text n) = refusal (read_of text) ≡ Some n
Stands (comes c) = Comes c

abbrev pub examples : List Example
examples =
    thins (Store 0 (Constant 1) ∷ (Fence ∷ (Load A 1 ∷ []))) (Store 0 (Constant 1) ∷ (Fence ∷ (Load A 1 ∷ [])))
    ∷ (thins (Store 0 (Constant 1) ∷ (Fence ∷ (Fence ∷ (Load A 1 ∷ [])))) (Store 0 (Constant 1) ∷ (Fence ∷ (Nop ∷ (Load A 1 ∷ []))))
    ∷ (thins (Store 0 (Constant 1) ∷ (Fence ∷ (Store 1 (Constant 1) ∷ (Fence ∷ (Load A 2 ∷ []))))) (Store 0 (Constant 1) ∷ (Nop ∷ (Store 1 (Constant 1) ∷ (Fence ∷ (Load A 2 ∷ [])))))
    ∷ (thins (Jump 2 ∷ (Store 0 (Constant 1) ∷ (Fence ∷ (Load A 1 ∷ [])))) (Jump 2 ∷ (Store 0 (Constant 1) ∷ (Nop ∷ (Load A 1 ∷ []))))
    ∷ (thins (Store 0 (Constant 1) ∷ (Fence ∷ [])) (Store 0 (Constant 1) ∷ (Fence ∷ []))
    ∷ (thins (Store 0 (Constant 1) ∷ (Fence ∷ (Fence ∷ (Store 1 (Constant 1) ∷ (Fence ∷ (Load A 2 ∷ [])))))) (Store 0 (Constant 1) ∷ (Nop ∷ (Nop ∷ (Store 1 (Constant 1) ∷ (Fence ∷ (Load A 2 ∷ []))))))
    ∷ (thins (Store 0 (Constant 1) ∷ (Fence ∷ (Jump 4 ∷ (Store 0 (Constant 2) ∷ (Fence ∷ (Load A 1 ∷ [])))))) (Store 0 (Constant 1) ∷ (Fence ∷ (Jump 4 ∷ (Store 0 (Constant 2) ∷ (Nop ∷ (Load A 1 ∷ []))))))
    ∷ (thins (JumpNonzero A 4 ∷ (Store 0 (Constant 1) ∷ (Fence ∷ (Jump 5 ∷ (Exchange B 0 ∷ (Fence ∷ (Load A 1 ∷ []))))))) (JumpNonzero A 4 ∷ (Store 0 (Constant 1) ∷ (Fence ∷ (Jump 5 ∷ (Exchange B 0 ∷ (Nop ∷ (Load A 1 ∷ [])))))))
    ∷ (thins (Fence ∷ (Store 0 (Constant 1) ∷ (Jump 0 ∷ []))) (Nop ∷ (Store 0 (Constant 1) ∷ (Jump 0 ∷ [])))
    ∷ (thins (Store 0 (Constant 1) ∷ (Fence ∷ (Jump 2 ∷ []))) (Store 0 (Constant 1) ∷ (Nop ∷ (Jump 2 ∷ [])))
    ∷ (thins (Load A 1 ∷ (Fence ∷ (Store 0 (Constant 1) ∷ (JumpNonzero A 0 ∷ [])))) (Load A 1 ∷ (Fence ∷ (Store 0 (Constant 1) ∷ (JumpNonzero A 0 ∷ []))))
    ∷ (retells (Store 0 (Constant 1) ∷ (Fence ∷ (Store 1 (Constant 1) ∷ (Fence ∷ (Load A 2 ∷ [])))))
    (Step 0 ∷ (Step 0 ∷ (Step 0 ∷ (Drain 0 ∷ (Drain 0 ∷ (Step 0 ∷ (Step 0 ∷ [])))))))
    (Step 0 ∷ (Drain 0 ∷ (Step 0 ∷ (Step 0 ∷ (Drain 0 ∷ (Step 0 ∷ (Step 0 ∷ [])))))))
    ∷ (retells (Store 0 (Constant 1) ∷ (Fence ∷ (Store 1 (Constant 1) ∷ (Fence ∷ (Load A 2 ∷ [])))))
    (Step 0 ∷ (Step 0 ∷ (Step 0 ∷ [])))
    (Step 0 ∷ [])
    ∷ (refuses [] 1
    ∷ map comes cases)))))))))))))

abbrev pub Each : (Example → Type 0) → List Example → Type 0
Each P [] = Unit {0}
Each P (x ∷ xs) = P x × Each P xs

abbrev pub ExamplesHold : Type 0
ExamplesHold = Each Stands examples
