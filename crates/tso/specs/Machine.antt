-- The machine: what an entry does, step by step.
use Rattle.std.specs.Prelude.{ℕ, suc, ◌+◌, ◌%◌, ◌^◌, Bool, true, false, if◌then◌else◌, List, [], ◌∷◌, ◌++◌, length, Some, None, Option, ◌==◌, nat_lt}
use Rattle.fields.specs.declared.registers.Register.{Register}
use Rattle.fields.specs.declared.registers.Register.TheVariants.{A, B, C, D}
use Rattle.instructions.specs.declared.types.Instruction.{Instruction}
use Rattle.instructions.specs.declared.types.Instruction.TheVariants.{Load, Store, Exchange, Fence, Nop, Set, Add, JumpNonzero, Jump}
use Rattle.instructions.specs.declared.types.Operand.{Operand}
use Rattle.instructions.specs.declared.types.Operand.TheVariants as operand
use Rattle.grammar.specs.Listings.{Listing, code_at}
use Rattle.paths.specs.Paths.{fetch}
use Rattle.memory.specs.Cells.{Cells, put}
use Rattle.orders.specs.declared.entries.Entry.{Entry}
use Rattle.orders.specs.declared.entries.Entry.TheVariants.{Step, Drain}
use Rattle.tso.specs.declared.faults.EntryFault.{EntryFault}
use Rattle.tso.specs.declared.faults.EntryFault.TheVariants.{NoParty, AtEnd, BufferFull, BufferNotEmpty, BufferEmpty}
use Rattle.tso.specs.declared.writes.Write.{Write}

-- a party's record: its position, its registers, and its store buffer, oldest write first
pub record Party : Type 0 where
  pub position : ℕ
  pub registers : Register → ℕ
  pub buffer : List Write

-- the record of each party, and the memory's words; past the routine's parties there are records too, which nothing changes
pub record State : Type 0 where
  pub party : ℕ → Party
  pub words : Cells

-- how many writes of a party may wait
abbrev pub depth_of : Listing → ℕ
depth_of l = 8

-- f with v at k
abbrev pub updated : {V : Type 0} → (ℕ → V) → ℕ → V → ℕ → V
updated f k v j = if j == k then v else f j

abbrev pub same_register : Register → Register → Bool
same_register A A = true
same_register A B = false
same_register A C = false
same_register A D = false
same_register B A = false
same_register B B = true
same_register B C = false
same_register B D = false
same_register C A = false
same_register C B = false
same_register C C = true
same_register C D = false
same_register D A = false
same_register D B = false
same_register D C = false
same_register D D = true

-- the registers with v in r
unfoldable pub in_register : (Register → ℕ) → Register → ℕ → Register → ℕ
in_register f r v q = if same_register q r then v else f q

unfoldable pub operand_value : (Register → ℕ) → Operand → ℕ
operand_value f (operand.Register r) = f r
operand_value f (operand.Constant n) = n

-- a later one goes before an earlier one
abbrev pub later : Option ℕ → Option ℕ → Option ℕ
later (Some v) o = Some v
later None o = o

-- the word of the newest waiting write to the address, if one waits
unfoldable pub newest : List Write → ℕ → Option ℕ
newest [] a = None
newest (w ∷ ws) a = later (newest ws a) (if w.address == a then Some w.word else None)

-- the word of a cell, and 0 where none is held
abbrev pub word_of : Option ℕ → ℕ
word_of None = 0
word_of (Some v) = v

-- what a party reads at an address: its own newest waiting write to it, or else the memory's word
abbrev pub read_at : Party → Cells → ℕ → ℕ
read_at p m a = word_of (later (newest p.buffer a) (m a))

abbrev pub is_empty : List Write → Bool
is_empty [] = true
is_empty (w ∷ ws) = false

-- a party that goes on to the next position with these registers
abbrev pub onward : Party → (Register → ℕ) → Party
onward p f = record { position = suc p.position; registers = f; buffer = p.buffer }

-- the party after an accepted step of the instruction, over the words m
abbrev pub stepped : Instruction → Party → Cells → Party
stepped (Load r a) p m = onward p (in_register p.registers r (read_at p m a))
stepped (Store a s) p m = record { position = suc p.position; registers = p.registers; buffer = p.buffer ++ (record { address = a; word = operand_value p.registers s } ∷ []) }
stepped (Exchange r a) p m = onward p (in_register p.registers r (word_of (m a)))
stepped Fence p m = onward p p.registers
stepped Nop p m = onward p p.registers
stepped (Set r s) p m = onward p (in_register p.registers r (operand_value p.registers s))
stepped (Add r s) p m = onward p (in_register p.registers r ((p.registers r + operand_value p.registers s) % 2 ^ 32))
stepped (JumpNonzero r t) p m = record { position = if p.registers r == 0 then suc p.position else t; registers = p.registers; buffer = p.buffer }
stepped (Jump t) p m = record { position = t; registers = p.registers; buffer = p.buffer }

-- the words after it: only an exchange reaches memory at once
abbrev pub words_after : Instruction → Party → Cells → Cells
words_after (Load r a) p m = m
words_after (Store a s) p m = m
words_after (Exchange r a) p m = put m a (p.registers r)
words_after Fence p m = m
words_after Nop p m = m
words_after (Set r s) p m = m
words_after (Add r s) p m = m
words_after (JumpNonzero r t) p m = m
words_after (Jump t) p m = m

-- why the instruction is refused, if it is; n writes may wait
abbrev pub step_fault : ℕ → Instruction → Party → Option EntryFault
step_fault n (Load r a) p = None
step_fault n (Store a s) p = if nat_lt (length p.buffer) n then None else Some BufferFull
step_fault n (Exchange r a) p = if is_empty p.buffer then None else Some BufferNotEmpty
step_fault n Fence p = if is_empty p.buffer then None else Some BufferNotEmpty
step_fault n Nop p = None
step_fault n (Set r s) p = None
step_fault n (Add r s) p = None
step_fault n (JumpNonzero r t) p = None
step_fault n (Jump t) p = None

-- what an entry comes to
pub data Turn : Type 0 where
  refused : EntryFault → Turn
  moved : State → Turn

abbrev pub step_at : ℕ → Option Instruction → ℕ → State → Turn
step_at n None p s = refused AtEnd
step_at n (Some i) p s =
    elim (step_fault n i (s.party p)) [
      | None ↦ moved (record { party = updated s.party p (stepped i (s.party p) s.words); words = words_after i (s.party p) s.words })
      | Some e ↦ refused e
    ]

-- the party without its oldest write
abbrev pub drained : Party → List Write → Party
drained p ws = record { position = p.position; registers = p.registers; buffer = ws }

abbrev pub drain_of : List Write → ℕ → State → Turn
drain_of [] p s = refused BufferEmpty
drain_of (w ∷ ws) p s = moved (record { party = updated s.party p (drained (s.party p) ws); words = put s.words w.address w.word })

-- what the entry comes to on a run of the routine in that state
abbrev pub next : Listing → Entry → State → Turn
next l (Step p) s = if nat_lt p (length l.parties) then step_at (depth_of l) (fetch (code_at l p) (s.party p).position) p s else refused NoParty
next l (Drain p) s = if nat_lt p (length l.parties) then drain_of (s.party p).buffer p s else refused NoParty

-- the state after an order of which every entry is accepted in turn
abbrev pub runs : Listing → List Entry → State → Option State
runs l [] s = Some s
runs l (e ∷ es) s = elim (next l e s) [ refused n ↦ None | moved u ↦ runs l es u ]
