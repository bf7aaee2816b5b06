-- Which instruction stands at a position, decided.
use Rattle.std.proofs.Common.{◌≡◌, ℕ, Some, None, Option, refl, ap, ◌∙◌, arith}
use Rattle.fields.specs.declared.registers.Register.{Register}
use Rattle.instructions.specs.declared.types.Instruction.{Instruction}
use Rattle.instructions.specs.declared.types.Instruction.TheVariants.{Load, Store, Exchange, Fence, Nop, Set, Add, JumpNonzero, Jump}
use Rattle.instructions.specs.declared.types.Operand.{Operand}
use Rattle.paths.specs.Paths.{Code, fetch, Barrier, StoreAt, Shows}
use Rattle.paths.proofs.Decided.{change?}

pub none_some : {P : Type 0} {o : Option Instruction} {i : Instruction} → o ≡ None → o ≡ Some i → P
none_some p q = cc

pub some_same : {o : Option Instruction} {i j : Instruction} → o ≡ Some i → o ≡ Some j → i ≡ j
some_same p q = cc

-- `cc` would tell constructors apart as well, but its proofs would be part of what the decisions below unfold to
abbrev pub tag : Instruction → ℕ
tag (Load r a) = 0
tag (Store a s) = 1
tag (Exchange r a) = 2
tag Fence = 3
tag Nop = 4
tag (Set r s) = 5
tag (Add r s) = 6
tag (JumpNonzero r t) = 7
tag (Jump t) = 8

abbrev pub barrier? : (i : Instruction) → Dec (Barrier i)
barrier? (Load r a) = no (λ x. x)
barrier? (Store a s) = no (λ x. x)
barrier? (Exchange r a) = yes tt
barrier? Fence = yes tt
barrier? Nop = no (λ x. x)
barrier? (Set r s) = no (λ x. x)
barrier? (Add r s) = no (λ x. x)
barrier? (JumpNonzero r t) = no (λ x. x)
barrier? (Jump t) = no (λ x. x)

abbrev pub load? : (i : Instruction) → Dec ((r : Register) × (a : ℕ) × (i ≡ Load r a))
load? (Load r a) = yes (r, a, refl)
load? (Store a s) = no (λ x. let e = ap tag x.2 in omega arith)
load? (Exchange r a) = no (λ x. let e = ap tag x.2 in omega arith)
load? Fence = no (λ x. let e = ap tag x.2 in omega arith)
load? Nop = no (λ x. let e = ap tag x.2 in omega arith)
load? (Set r s) = no (λ x. let e = ap tag x.2 in omega arith)
load? (Add r s) = no (λ x. let e = ap tag x.2 in omega arith)
load? (JumpNonzero r t) = no (λ x. let e = ap tag x.2 in omega arith)
load? (Jump t) = no (λ x. let e = ap tag x.2 in omega arith)

abbrev pub store? : (i : Instruction) → Dec ((a : ℕ) × (s : Operand) × (i ≡ Store a s))
store? (Load r a) = no (λ x. let e = ap tag x.2 in omega arith)
store? (Store a s) = yes (a, s, refl)
store? (Exchange r a) = no (λ x. let e = ap tag x.2 in omega arith)
store? Fence = no (λ x. let e = ap tag x.2 in omega arith)
store? Nop = no (λ x. let e = ap tag x.2 in omega arith)
store? (Set r s) = no (λ x. let e = ap tag x.2 in omega arith)
store? (Add r s) = no (λ x. let e = ap tag x.2 in omega arith)
store? (JumpNonzero r t) = no (λ x. let e = ap tag x.2 in omega arith)
store? (Jump t) = no (λ x. let e = ap tag x.2 in omega arith)

abbrev pub fence? : (i : Instruction) → Dec (i ≡ Fence)
fence? (Load r a) = no (λ x. let e = ap tag x in omega arith)
fence? (Store a s) = no (λ x. let e = ap tag x in omega arith)
fence? (Exchange r a) = no (λ x. let e = ap tag x in omega arith)
fence? Fence = yes refl
fence? Nop = no (λ x. let e = ap tag x in omega arith)
fence? (Set r s) = no (λ x. let e = ap tag x in omega arith)
fence? (Add r s) = no (λ x. let e = ap tag x in omega arith)
fence? (JumpNonzero r t) = no (λ x. let e = ap tag x in omega arith)
fence? (Jump t) = no (λ x. let e = ap tag x in omega arith)

-- the instruction at k is as Q says
abbrev pub At : Code → (Instruction → Type 0) → ℕ → Type 0
At c Q k = (i : Instruction) × (fetch c k ≡ Some i) × Q i

abbrev pub at? : (c : Code) (Q : Instruction → Type 0) → ((i : Instruction) → Dec (Q i)) → (k : ℕ) → Dec (At c Q k)
at? c Q d k = go (fetch c k) refl
  where
    go : (o : Option Instruction) → fetch c k ≡ o → Dec (At c Q k)
    go None e = no (λ x. none_some e x.1)
    go (Some i) e = change? (λ q. (i, e, q)) (λ x. rw (some_same x.1 e) at x.2) (d i)

abbrev pub store_at? : (c : Code) (k : ℕ) → Dec (StoreAt c k)
store_at? c k = change? (λ x. (x.2.0, x.2.1, x.1 ∙ ap {B = Option Instruction} Some x.2.2)) (λ x. (Store x.0 x.1, x.2, (x.0, x.1, refl))) (at? c (λ i. (a : ℕ) × (s : Operand) × (i ≡ Store a s)) store? k)

pub fence_at? : (c : Code) (k : ℕ) → Dec (fetch c k ≡ Some Fence)
fence_at? c k = change? (λ x. x.1 ∙ ap {B = Option Instruction} Some x.2) (λ e. (Fence, e, refl)) (at? c (λ i. i ≡ Fence) fence? k)

pub shows_load : {c : Code} {k : ℕ} {i : Instruction} → fetch c k ≡ Some i → Shows c k → (r : Register) × (a : ℕ) × (i ≡ Load r a)
shows_load e (Shows.load r a f) = (r, a, some_same e f)
shows_load e (Shows.end f) = none_some f e

abbrev pub shows? : (c : Code) (k : ℕ) → Dec (Shows c k)
shows? c k = go (fetch c k) refl
  where
    go : (o : Option Instruction) → fetch c k ≡ o → Dec (Shows c k)
    go None e = yes (Shows.end e)
    go (Some i) e = change? (λ x. Shows.load x.0 x.1 (e ∙ ap {B = Option Instruction} Some x.2)) (shows_load e) (load? i)
