-- Worked examples: a routine, an order, and what comes of it on a run that was just opened.
use Rattle.std.specs.Prelude.{◌≡◌, ℕ, suc, List, [], ◌∷◌, map, length, Some, None, Option}
use Rattle.fields.specs.declared.registers.Register.TheVariants.{A, B}
use Rattle.instructions.specs.declared.types.Instruction.TheVariants.{Load, Store, Exchange, Fence, Nop, Set, Add, JumpNonzero}
use Rattle.instructions.specs.declared.types.Operand.TheVariants as operand
use Rattle.grammar.specs.Listings.{Listing, addresses_of}
use Rattle.paths.specs.Paths.{Code}
use Rattle.memory.specs.Cells.{Cells}
use Rattle.orders.specs.declared.entries.Entry.{Entry}
use Rattle.orders.specs.declared.entries.Entry.TheVariants.{Step, Drain}
use Rattle.tso.specs.Machine.{Party, State}
use Rattle.tso.specs.Openings.{Holds, opening}
use Rattle.tso.specs.Outcomes.{answers_of, after_all}
use Rattle.tso.specs.declared.faults.EntryFault.{EntryFault}
use Rattle.tso.specs.declared.faults.EntryFault.TheVariants.{NoParty, AtEnd, BufferFull, BufferNotEmpty, BufferEmpty}

pub record Case : Type 0 where
  pub listing : Listing
  pub order : List Entry
  -- for each entry why it is refused, if it is
  pub answers : List (Option EntryFault)
  -- for each party what its register A holds in the end, and how many of its writes wait
  pub in_a : List ℕ
  pub waiting : List ℕ
  -- for each address of the routine its word in the end
  pub words : List ℕ

abbrev pub cases : List Case
cases =
    -- a fence does not pass while a write waits
    record {
      listing = record { inits = []; parties = (Store 0 (operand.Constant 1) ∷ Fence ∷ Load A 1 ∷ []) ∷ [] };
      order = Step 0 ∷ Step 0 ∷ [];
      answers = None ∷ Some BufferNotEmpty ∷ [];
      in_a = 0 ∷ [];
      waiting = 1 ∷ [];
      words = 0 ∷ 0 ∷ [];
    }
    -- and passes once it has drained: a refused entry is passed over
    ∷ record {
      listing = record { inits = []; parties = (Store 0 (operand.Constant 1) ∷ Fence ∷ Load A 1 ∷ []) ∷ [] };
      order = Step 0 ∷ Step 0 ∷ Drain 0 ∷ Step 0 ∷ Step 0 ∷ [];
      answers = None ∷ Some BufferNotEmpty ∷ None ∷ None ∷ None ∷ [];
      in_a = 0 ∷ [];
      waiting = 0 ∷ [];
      words = 1 ∷ 0 ∷ [];
    }
    -- each party stores and then reads the other's word too early
    ∷ record {
      listing = record { inits = []; parties = (Store 0 (operand.Constant 1) ∷ Load A 1 ∷ []) ∷ (Store 1 (operand.Constant 1) ∷ Load A 0 ∷ []) ∷ [] };
      order = Step 0 ∷ Step 0 ∷ Step 1 ∷ Step 1 ∷ Drain 0 ∷ Drain 1 ∷ [];
      answers = None ∷ None ∷ None ∷ None ∷ None ∷ None ∷ [];
      in_a = 0 ∷ 0 ∷ [];
      waiting = 0 ∷ 0 ∷ [];
      words = 1 ∷ 1 ∷ [];
    }
    -- no room for a ninth waiting write
    ∷ record {
      listing = record { inits = []; parties = (Store 0 (operand.Constant 1) ∷ Store 0 (operand.Constant 1) ∷ Store 0 (operand.Constant 1) ∷ Store 0 (operand.Constant 1) ∷ Store 0 (operand.Constant 1) ∷ Store 0 (operand.Constant 1) ∷ Store 0 (operand.Constant 1) ∷ Store 0 (operand.Constant 1) ∷ Store 0 (operand.Constant 1) ∷ []) ∷ [] };
      order = Step 0 ∷ Step 0 ∷ Step 0 ∷ Step 0 ∷ Step 0 ∷ Step 0 ∷ Step 0 ∷ Step 0 ∷ Step 0 ∷ [];
      answers = None ∷ None ∷ None ∷ None ∷ None ∷ None ∷ None ∷ None ∷ Some BufferFull ∷ [];
      in_a = 0 ∷ [];
      waiting = 8 ∷ [];
      words = 0 ∷ [];
    }
    -- a party reads its own newest waiting write before memory has any, and the oldest drains first
    ∷ record {
      listing = record { inits = []; parties = (Store 0 (operand.Constant 1) ∷ Store 0 (operand.Constant 2) ∷ Load A 0 ∷ []) ∷ [] };
      order = Step 0 ∷ Step 0 ∷ Step 0 ∷ Drain 0 ∷ [];
      answers = None ∷ None ∷ None ∷ None ∷ [];
      in_a = 2 ∷ [];
      waiting = 1 ∷ [];
      words = 1 ∷ [];
    }
    -- another party does not see what waits
    ∷ record {
      listing = record { inits = record { address = 0; value = 5 } ∷ []; parties = (Store 0 (operand.Constant 1) ∷ []) ∷ (Load A 0 ∷ []) ∷ [] };
      order = Step 0 ∷ Step 1 ∷ [];
      answers = None ∷ None ∷ [];
      in_a = 0 ∷ 5 ∷ [];
      waiting = 1 ∷ 0 ∷ [];
      words = 5 ∷ [];
    }
    -- an exchange is refused while a write waits; then it reads and writes memory at once
    ∷ record {
      listing = record { inits = record { address = 1; value = 5 } ∷ []; parties = (Set A (operand.Constant 3) ∷ Store 0 (operand.Register A) ∷ Exchange A 1 ∷ []) ∷ [] };
      order = Step 0 ∷ Step 0 ∷ Step 0 ∷ Drain 0 ∷ Step 0 ∷ [];
      answers = None ∷ None ∷ Some BufferNotEmpty ∷ None ∷ None ∷ [];
      in_a = 5 ∷ [];
      waiting = 0 ∷ [];
      words = 3 ∷ 3 ∷ [];
    }
    -- no such party
    ∷ record {
      listing = record { inits = []; parties = (Nop ∷ []) ∷ [] };
      order = Step 1 ∷ Drain 1 ∷ [];
      answers = Some NoParty ∷ Some NoParty ∷ [];
      in_a = 0 ∷ [];
      waiting = 0 ∷ [];
      words = [];
    }
    -- a party at its end; its last write still drains
    ∷ record {
      listing = record { inits = []; parties = (Store 7 (operand.Constant 1) ∷ []) ∷ [] };
      order = Step 0 ∷ Step 0 ∷ Drain 0 ∷ [];
      answers = None ∷ Some AtEnd ∷ None ∷ [];
      in_a = 0 ∷ [];
      waiting = 0 ∷ [];
      words = 1 ∷ [];
    }
    -- nothing to drain
    ∷ record {
      listing = record { inits = []; parties = (Nop ∷ []) ∷ [] };
      order = Drain 0 ∷ [];
      answers = Some BufferEmpty ∷ [];
      in_a = 0 ∷ [];
      waiting = 0 ∷ [];
      words = [];
    }
    -- a sum wraps at 2^32, and JNZ goes on at 0 and jumps at any other
    ∷ record {
      listing = record { inits = []; parties = (Set A (operand.Constant 4294967295) ∷ Add A (operand.Constant 1) ∷ JumpNonzero A 0 ∷ Set B (operand.Constant 1) ∷ JumpNonzero B 6 ∷ Set A (operand.Constant 9) ∷ Nop ∷ []) ∷ [] };
      order = Step 0 ∷ Step 0 ∷ Step 0 ∷ Step 0 ∷ Step 0 ∷ Step 0 ∷ Step 0 ∷ [];
      answers = None ∷ None ∷ None ∷ None ∷ None ∷ None ∷ Some AtEnd ∷ [];
      in_a = 0 ∷ [];
      waiting = 0 ∷ [];
      words = [];
    }
    ∷ []

-- what f finds in the records of the parties of these codes, the first of which is party p
abbrev pub in_parties : {X : Type 0} → (Party → X) → ℕ → List Code → State → List X
in_parties f p [] s = []
in_parties f p (c ∷ cs) s = f (s.party p) ∷ in_parties f (suc p) cs s

-- over a memory of the cells f
pub record ComesTo (c : Case) (f : Cells) : Type 0 where
  pub answers : answers_of c.listing c.order (opening c.listing f) ≡ c.answers
  pub in_a : in_parties (λ x. x.registers A) 0 c.listing.parties (after_all c.listing c.order (opening c.listing f)) ≡ c.in_a
  pub waiting : in_parties (λ x. length x.buffer) 0 c.listing.parties (after_all c.listing c.order (opening c.listing f)) ≡ c.waiting
  pub words : map (after_all c.listing c.order (opening c.listing f)).words (addresses_of c.listing) ≡ map Some c.words

-- over every memory that holds its routine's addresses
abbrev pub Comes : Case → Type 0
Comes c = (f : Cells) → Holds f c.listing → ComesTo c f
