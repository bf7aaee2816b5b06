-- How a run of a routine starts on a memory.
use Rattle.std.specs.Prelude.{◌≡◌, ℕ, Bool, false, if◌then◌else◌, ◌||◌, List, [], ◌∷◌, Some, None, Option, ◌==◌}
use Rattle.instructions.specs.declared.types.Init.{Init}
use Rattle.grammar.specs.Listings.{Listing, addresses_of}
use Rattle.memory.specs.Cells.{Cells, put}
use Rattle.orders.specs.declared.entries.Entry.{Entry}
use Rattle.tso.specs.Machine.{Party, State, runs}

-- the starting word of an address: that of its INIT line, and 0 without one
abbrev pub start_of : List Init → ℕ → ℕ
start_of [] a = 0
start_of (i ∷ is) a = if i.address == a then i.value else start_of is a

-- the first of the addresses that the memory does not hold
abbrev pub missing : Cells → List ℕ → Option ℕ
missing f [] = None
missing f (a ∷ more) = elim (f a) [ None ↦ Some a | Some v ↦ missing f more ]

-- the memory holds every address of the routine
abbrev pub Holds : Cells → Listing → Type 0
Holds f l = missing f (addresses_of l) ≡ None

-- the starting words, written one by one
abbrev pub started : List Init → Cells → List ℕ → Cells
started is f [] = f
started is f (a ∷ more) = started is (put f a (start_of is a)) more

abbrev pub at_start : Party
at_start = record { position = 0; registers = λ r. 0; buffer = [] }

-- a run of the routine, just opened on a memory of these cells
abbrev pub opening : Listing → Cells → State
opening l f = record { party = λ p. at_start; words = started l.inits f (addresses_of l) }

-- whether the address is in the list
abbrev pub member : ℕ → List ℕ → Bool
member a [] = false
member a (b ∷ bs) = a == b || member a bs

-- a run of the routine that was just opened on the memory accepts the order, and ends in that state
abbrev pub AcceptsTo : Listing → Cells → List Entry → State → Type 0
AcceptsTo l f es u = runs l es (opening l f) ≡ Some u
