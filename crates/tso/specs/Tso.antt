-- x86-TSO: the abstract machine of Owens, Sarkar and Sewell, and of Sewell, Sarkar, Owens, Zappa Nardelli and Myreen.
-- It has two halves. The storage has the memory and a write buffer for each processor; the threads have the positions and the registers.
-- A label says what a thread does with the storage in one transition. A party of a routine is the thread of one processor.
use Rattle.std.specs.Prelude.{◌≡◌, ℕ, suc, ◌+◌, ◌%◌, ◌^◌, ◌<◌, List, [], ◌∷◌, ◌++◌, length, Some, ◌≢◌}
use Rattle.fields.specs.declared.registers.Register.{Register}
use Rattle.instructions.specs.declared.types.Instruction.{Instruction}
use Rattle.instructions.specs.declared.types.Instruction.TheVariants.{Load, Store, Exchange, Fence, Nop, Set, Add, JumpNonzero, Jump}
use Rattle.instructions.specs.declared.types.Operand.{Operand}
use Rattle.instructions.specs.declared.types.Operand.TheVariants as operand
use Rattle.grammar.specs.Listings.{Listing, code_at}
use Rattle.paths.specs.Paths.{fetch}
use Rattle.memory.specs.Cells.{Cells, put}
use Rattle.orders.specs.declared.entries.Entry.{Entry}
use Rattle.orders.specs.declared.entries.Entry.TheVariants.{Step, Drain}
use Rattle.tso.specs.Machine.{State, moved, depth_of, word_of, next, runs}
use Rattle.tso.specs.declared.writes.Write.{Write}

-- the buffers hold the oldest write first. An address that the memory does not hold reads as 0, and a write to it is lost
pub record Storage : Type 0 where
  pub memory : Cells
  pub buffers : ℕ → List Write

pub record Thread : Type 0 where
  pub position : ℕ
  pub registers : Register → ℕ

pub data Label : Type 0 where
  -- of a word at an address
  reads : (address word : ℕ) → Label
  writes : (address word : ℕ) → Label
  -- a locked exchange, of the word that is there for a new one
  exchanges : (address old new : ℕ) → Label
  fences : Label
  -- the oldest write leaves the buffer: no instruction does this
  drains : Label
  -- the storage has no part in it
  silent : Label

-- no write to the address waits in the buffer
abbrev pub NotPending : ℕ → List Write → Type 0
NotPending a [] = Unit {0}
NotPending a (w ∷ ws) = (w.address ≢ a) × NotPending a ws

-- the storage n is m with that memory and with that buffer of processor p
pub record Becomes (p : ℕ) (m : Storage) (memory : Cells) (buffer : List Write) (n : Storage) : Type 0 where
  pub memory_is : n.memory ≡ memory
  pub buffer_is : n.buffers p ≡ buffer
  pub others : (q : ℕ) → (q ≢ p) → n.buffers q ≡ m.buffers q

-- the storage goes from m to n by a label of processor p.
-- The depth is the one addition to the machine as published, whose buffers have no bound.
-- A locked exchange stands for lock, read, write, drain and unlock, with nothing of another processor between them.
pub data Tso (depth p : ℕ) : Storage → Label → Storage → Type 0 where
  read_from_memory : {m : Storage} {a : ℕ} → NotPending a (m.buffers p) → Tso depth p m (reads a (word_of (m.memory a))) m
  read_from_write_buffer : {m : Storage} (older newer : List Write) (w : Write) → m.buffers p ≡ older ++ (w ∷ newer) → NotPending w.address newer → Tso depth p m (reads w.address w.word) m
  write_to_write_buffer : {m n : Storage} (w : Write) → length (m.buffers p) < depth → Becomes p m m.memory (m.buffers p ++ (w ∷ [])) n → Tso depth p m (writes w.address w.word) n
  write_from_write_buffer_to_memory : {m n : Storage} (w : Write) (newer : List Write) → m.buffers p ≡ w ∷ newer → Becomes p m (put m.memory w.address w.word) newer n → Tso depth p m drains n
  barrier : {m : Storage} → m.buffers p ≡ [] → Tso depth p m fences m
  locked_exchange : {m n : Storage} {a v : ℕ} → m.buffers p ≡ [] → Becomes p m (put m.memory a v) [] n → Tso depth p m (exchanges a (word_of (m.memory a)) v) n
  no_storage : {m : Storage} → Tso depth p m silent m

-- the operand's value over the registers
abbrev pub HasValue : (Register → ℕ) → Operand → ℕ → Type 0
HasValue f (operand.Register r) v = v ≡ f r
HasValue f (operand.Constant n) v = v ≡ n

-- the registers g are f with v in r
pub record Gets (f : Register → ℕ) (r : Register) (v : ℕ) (g : Register → ℕ) : Type 0 where
  pub that : g r ≡ v
  pub others : (q : Register) → (q ≢ r) → g q ≡ f q

-- the thread t becomes u by an instruction, with that label
pub data Performs (t u : Thread) : Instruction → Label → Type 0 where
  load : {r : Register} {a v : ℕ} → u.position ≡ suc t.position → Gets t.registers r v u.registers → Performs t u (Load r a) (reads a v)
  store : {a v : ℕ} {s : Operand} → u.position ≡ suc t.position → u.registers ≡ t.registers → HasValue t.registers s v → Performs t u (Store a s) (writes a v)
  exchange : {r : Register} {a v : ℕ} → u.position ≡ suc t.position → Gets t.registers r v u.registers → Performs t u (Exchange r a) (exchanges a v (t.registers r))
  fence : u.position ≡ suc t.position → u.registers ≡ t.registers → Performs t u Fence fences
  nop : u.position ≡ suc t.position → u.registers ≡ t.registers → Performs t u Nop silent
  set : {r : Register} {s : Operand} {v : ℕ} → u.position ≡ suc t.position → HasValue t.registers s v → Gets t.registers r v u.registers → Performs t u (Set r s) silent
  add : {r : Register} {s : Operand} (v : ℕ) → u.position ≡ suc t.position → HasValue t.registers s v → Gets t.registers r ((t.registers r + v) % 2 ^ 32) u.registers → Performs t u (Add r s) silent
  jump_nonzero : {r : Register} {k : ℕ} → (t.registers r ≢ 0) → u.position ≡ k → u.registers ≡ t.registers → Performs t u (JumpNonzero r k) silent
  jump_zero : {r : Register} {k : ℕ} → t.registers r ≡ 0 → u.position ≡ suc t.position → u.registers ≡ t.registers → Performs t u (JumpNonzero r k) silent
  jump : {k : ℕ} → u.position ≡ k → u.registers ≡ t.registers → Performs t u (Jump k) silent

-- the two halves of a state
abbrev pub storage_of : State → Storage
storage_of s = record { memory = s.words; buffers = λ p. (s.party p).buffer }

abbrev pub thread_of : State → ℕ → Thread
thread_of s p = record { position = (s.party p).position; registers = (s.party p).registers }

-- the whole system goes from s to u by an entry: a party of the routine performs the instruction at its position, or the oldest of its waiting writes drains
pub data Transition (l : Listing) : Entry → State → State → Type 0 where
  step : {p : ℕ} {s u : State} (i : Instruction) (x : Label)
      → p < length l.parties
      → fetch (code_at l p) (s.party p).position ≡ Some i
      → Performs (thread_of s p) (thread_of u p) i x
      → Tso (depth_of l) p (storage_of s) x (storage_of u)
      → ((q : ℕ) → (q ≢ p) → thread_of u q ≡ thread_of s q)
      → Transition l (Step p) s u
  drain : {p : ℕ} {s u : State}
      → p < length l.parties
      → Tso (depth_of l) p (storage_of s) drains (storage_of u)
      → ((q : ℕ) → thread_of u q ≡ thread_of s q)
      → Transition l (Drain p) s u

-- the machine accepts an entry exactly where x86-TSO has a transition, and to the same state
abbrev pub MovesAsTso : Type 0
MovesAsTso = (l : Listing) (e : Entry) (s u : State) → (next l e s ≡ moved u → Transition l e s u) × (Transition l e s u → next l e s ≡ moved u)

-- the whole system goes from s to u by an order, one entry after another
pub data Execution (l : Listing) : List Entry → State → State → Type 0 where
  done : {s : State} → Execution l [] s s
  more : {e : Entry} {es : List Entry} {s t u : State} → Transition l e s t → Execution l es t u → Execution l (e ∷ es) s u

-- so an order is accepted exactly where x86-TSO has an execution by it
abbrev pub RunsAsTso : Type 0
RunsAsTso = (l : Listing) (es : List Entry) (s u : State) → (runs l es s ≡ Some u → Execution l es s u) × (Execution l es s u → runs l es s ≡ Some u)

-- one after another, the labels of processor p lead the storage from m to n, with nothing of another processor between them
abbrev pub InTurn : ℕ → ℕ → Storage → List Label → Storage → Type 0
InTurn depth p m [] n = n ≡ m
InTurn depth p m (x ∷ xs) n = (k : Storage) × Tso depth p m x k × InTurn depth p k xs n

-- the published machine has no locked exchange, but lock and unlock around a read, a write and its drain; and both ask for an empty buffer, as a barrier does
abbrev pub locked_parts : ℕ → ℕ → ℕ → List Label
locked_parts a old new = fences ∷ reads a old ∷ writes a new ∷ drains ∷ fences ∷ []

-- a locked exchange is those parts in turn
abbrev pub ExchangesAsLocked : Type 0
ExchangesAsLocked = (depth p : ℕ) (m n : Storage) (a old new : ℕ) → 0 < depth → (Tso depth p m (exchanges a old new) n → InTurn depth p m (locked_parts a old new) n) × (InTurn depth p m (locked_parts a old new) n → Tso depth p m (exchanges a old new) n)
