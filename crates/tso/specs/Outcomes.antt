-- What an order comes to, entry by entry, and on which words of the memory that depends.
use Rattle.std.specs.Prelude.{◌≡◌, ℕ, Bool, true, false, if◌then◌else◌, ◌⊎◌, List, [], ◌∷◌, ◌++◌, is_some, Some, None, Option}
use Rattle.instructions.specs.declared.types.Init.{Init}
use Rattle.instructions.specs.declared.types.Instruction.{Instruction}
use Rattle.grammar.specs.Listings.{Listing, code_at, address_in, addresses_of}
use Rattle.paths.specs.Paths.{fetch}
use Rattle.memory.specs.Cells.{Cells}
use Rattle.orders.specs.declared.entries.Entry.{Entry}
use Rattle.tso.specs.Machine.{State, Turn, refused, moved, next, runs}
use Rattle.tso.specs.Openings.{start_of, Holds, opening, member}
use Rattle.tso.specs.declared.faults.EntryFault.{EntryFault}
use Rattle.tso.specs.declared.writes.Write.{Write}

-- the state after an entry: the state as it was, if the entry was refused
abbrev pub after : State → Turn → State
after s (refused n) = s
after s (moved u) = u

-- the answer to an entry: why it is refused, or nothing if it is accepted
abbrev pub answer_of : Turn → Option EntryFault
answer_of (refused n) = Some n
answer_of (moved u) = None

-- the answers to the entries of an order in turn, and the state after them; a refused entry is passed over
abbrev pub answers_of : Listing → List Entry → State → List (Option EntryFault)
answers_of l [] s = []
answers_of l (e ∷ es) s = answer_of (next l e s) ∷ answers_of l es (after s (next l e s))

abbrev pub after_all : Listing → List Entry → State → State
after_all l [] s = s
after_all l (e ∷ es) s = after_all l es (after s (next l e s))

abbrev pub all_accepted : List (Option EntryFault) → Bool
all_accepted [] = true
all_accepted (None ∷ os) = all_accepted os
all_accepted (Some n ∷ os) = false

-- an order runs to its end exactly where every entry is accepted, and to the state after them
abbrev pub RunsAsAnswered : Type 0
RunsAsAnswered = (l : Listing) (es : List Entry) (s : State) → runs l es s ≡ (if all_accepted (answers_of l es s) then Some (after_all l es s) else None)

-- the address stands in an INIT line, or in an instruction of a party
abbrev pub InInits : ℕ → List Init → Type 0
InInits a [] = ⊥
InInits a (i ∷ is) = (i.address ≡ a) ⊎ InInits a is

pub data Names (l : Listing) (a : ℕ) : Type 0 where
  by_init : InInits a l.inits → Names l a
  by_instruction : (p k : ℕ) (i : Instruction) → fetch (code_at l p) k ≡ Some i → member a (address_in i) ≡ true → Names l a

-- the addresses of a routine are those that it names
abbrev pub AddressesAreNamed : Type 0
AddressesAreNamed = (l : Listing) (a : ℕ) → (member a (addresses_of l) ≡ true → Names l a) × (Names l a → member a (addresses_of l) ≡ true)

-- a run opens with the starting word at each address that the routine names, and with the memory's own word elsewhere
pub record Opened (l : Listing) (f : Cells) (a : ℕ) : Type 0 where
  pub named : member a (addresses_of l) ≡ true → (opening l f).words a ≡ Some (start_of l.inits a)
  pub others : member a (addresses_of l) ≡ false → (opening l f).words a ≡ f a

abbrev pub OpensAtStartingWords : Type 0
OpensAtStartingWords = (l : Listing) (f : Cells) (a : ℕ) → Holds f l → Opened l f a

-- every address that the routine names is held, and every waiting write is to one of these; so no word is read where none is held, and no write is lost
pub record Touches (l : Listing) (s : State) : Type 0 where
  pub named : (a : ℕ) → member a (addresses_of l) ≡ true → is_some (s.words a) ≡ true
  pub waiting : (p : ℕ) (older newer : List Write) (w : Write) → (s.party p).buffer ≡ older ++ (w ∷ newer) → member w.address (addresses_of l) ≡ true

abbrev pub TouchesHeldWords : Type 0
TouchesHeldWords = (l : Listing) (f : Cells) (es : List Entry) → Holds f l → Touches l (after_all l es (opening l f))

-- the cells at the listed addresses, and none elsewhere
abbrev pub within : List ℕ → Cells → Cells
within ks f a = if member a ks then f a else None

-- the state with the words at the routine's addresses alone
abbrev pub restricted : Listing → State → State
restricted l s = record { party = s.party; words = within (addresses_of l) s.words }

abbrev pub restricted_turn : Listing → Turn → Turn
restricted_turn l (refused n) = refused n
restricted_turn l (moved u) = moved (restricted l u)

-- an entry comes to the same on those words alone, in every state
abbrev pub MovesOnNamedWords : Type 0
MovesOnNamedWords = (l : Listing) (e : Entry) (s : State) → next l e (restricted l s) ≡ restricted_turn l (next l e s)

-- the order on a run that was just opened on a memory of the cells f, and on one of the cells g
pub record Alike (l : Listing) (f g : Cells) (es : List Entry) : Type 0 where
  -- each entry is answered alike
  pub answers : answers_of l es (opening l f) ≡ answers_of l es (opening l g)
  -- both orders are accepted, entry by entry, or neither is
  pub acceptance : is_some (runs l es (opening l f)) ≡ is_some (runs l es (opening l g))
  -- each party ends at the same position, with the same registers and the same writes waiting
  pub parties : (p : ℕ) → (after_all l es (opening l f)).party p ≡ (after_all l es (opening l g)).party p
  -- both memories end with the same words at the addresses that the routine names
  pub named : (a : ℕ) → member a (addresses_of l) ≡ true → (after_all l es (opening l f)).words a ≡ (after_all l es (opening l g)).words a
  -- at any other address each memory is as it was
  pub others_in_f : (a : ℕ) → member a (addresses_of l) ≡ false → (after_all l es (opening l f)).words a ≡ f a
  pub others_in_g : (a : ℕ) → member a (addresses_of l) ≡ false → (after_all l es (opening l g)).words a ≡ g a

-- over any two memories that hold the routine's addresses an order comes to the same, and touches no other address
abbrev pub OutcomeByNamedWords : Type 0
OutcomeByNamedWords = (l : Listing) (f g : Cells) (es : List Entry) → Holds f l → Holds g l → Alike l f g es
