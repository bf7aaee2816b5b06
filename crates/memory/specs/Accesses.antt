-- What a list of accesses answers, and what it makes of the cells and of the memory itself.
use Rattle.std.specs.Prelude.{◌≡◌, ℕ, List, [], ◌∷◌}
use Rattle.memory.specs.Answers.{read_answer, written}
use Rattle.memory.specs.Cells.{Cells, put}
use Rattle.memory.specs.declared.accesses.Access.{Access}
use Rattle.memory.specs.declared.accesses.Access.TheVariants.{Read, Write}
use Rattle.memory.specs.declared.accesses.Answer.{Answer}
use Rattle.memory.specs.declared.accesses.Answer.TheVariants.{Word, Written}

-- one access

abbrev pub answer_of : Cells → Access → Answer
answer_of f (Read a) = Word (read_answer (f a))
answer_of f (Write a w) = Written (written (f a))

abbrev pub cells_by : Cells → Access → Cells
cells_by f (Read a) = f
cells_by f (Write a w) = put f a w

-- it is the memory's own read, R, or its own write, W, that makes n of m
abbrev pub Accessed : {M : Type 0} → (M → ℕ → M → Type 0) → (M → ℕ → ℕ → M → Type 0) → Access → M → M → Type 0
Accessed R W (Read a) m n = R m a n
Accessed R W (Write a w) m n = W m a w n

-- a list of them, one after the other

abbrev pub answers_of : Cells → List Access → List Answer
answers_of f [] = []
answers_of f (x ∷ xs) = answer_of f x ∷ answers_of (cells_by f x) xs

abbrev pub cells_after : Cells → List Access → Cells
cells_after f [] = f
cells_after f (x ∷ xs) = cells_after (cells_by f x) xs

abbrev pub Performed : {M : Type 0} → (M → ℕ → M → Type 0) → (M → ℕ → ℕ → M → Type 0) → List Access → M → M → Type 0
Performed {M} R W [] m n = n ≡ m
Performed {M} R W (x ∷ xs) m n = (k : M) × Accessed R W x m k × Performed R W xs k n

-- two memories, of the cells f and g, give the same answers
abbrev pub Alike : Cells → Cells → List Access → Type 0
Alike f g xs = answers_of f xs ≡ answers_of g xs
