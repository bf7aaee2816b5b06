-- The promises: what holds of every thinned routine.
use Rattle.std.specs.Prelude.{◌≡◌, ℕ, ◌≤◌, true, ◌↔◌, List, ◌++◌, length, take}
use Rattle.grammar.specs.Listings.{Listing}
use Rattle.memory.specs.Cells.{Cells}
use Rattle.orders.specs.declared.entries.Entry.{Entry}
use Rattle.passes.specs.Passes.{ThinnedFrom}
use Rattle.tso.specs.Machine.{State}
use Rattle.tso.specs.Openings.{Holds, opening, AcceptsTo}
use Rattle.tso.specs.Traces.{steps_of, arrivals_of, Rearranges}
use Rattle.thinning.specs.Pairs.{Pair, fed}
use Rattle.thinning.specs.Calls.{Double, limit, opened, called, performed, replies, entries_fed, drained_out}
use Rattle.thinning.specs.Comparing.{SameWords, Agree, NoWriteWaits, Counted}
use Rattle.thinning.specs.declared.calls.Call.{Call}
use Rattle.thinning.specs.declared.calls.Call.TheVariants.{Feed, Close, Abandon}
use Rattle.thinning.specs.declared.calls.Reply.TheVariants.{Closed}

-- both routines accept the order, the original over the cells m and the thinned one over the cells n, and end alike
pub record BothAccept (o t : Listing) (m n : Cells) (es : List Entry) : Type 0 where
  pub original : State
  pub thinned : State
  pub original_accepts : AcceptsTo o m es original
  pub thinned_accepts : AcceptsTo t n es thinned
  pub agree : Agree o original thinned

-- every order that the original accepts the thinned routine accepts unchanged, over any memory that holds its addresses; after each front of it both stand alike
abbrev pub OrdersKept : Type 0
OrdersKept =
    (o f t : Listing) → ThinnedFrom o f t → (m n : Cells) → Holds m o → Holds n t → (es : List Entry) (u : State) → AcceptsTo o m es u
    → (k : ℕ) → BothAccept o t m n (take k es)

-- the order xs of the original, over the cells n, retells the order es of the thinned routine, over the cells m, which ended in u
pub record Retells (o t : Listing) (m n : Cells) (es xs : List Entry) (u : State) : Type 0 where
  pub end : State
  pub accepts : AcceptsTo o n xs end
  -- the same words reach memory in the same order
  pub arrivals : arrivals_of o xs (opening o n) ≡ arrivals_of t es (opening t m)
  pub words : SameWords o end.words u.words
  -- once no write waits, every party ends at the same position with the same registers, and has made the same steps in the same order
  pub parties : NoWriteWaits u → (p : ℕ) → end.party p ≡ u.party p
  pub steps : NoWriteWaits u → (p : ℕ) → steps_of p o xs (opening o n) ≡ steps_of p t es (opening t m)

-- some order of the original retells it over every memory that holds the addresses, and rearranges it once no write waits
pub record Retold (o t : Listing) (m : Cells) (es : List Entry) (u : State) : Type 0 where
  pub order : List Entry
  pub retells : (n : Cells) → Holds n o → Retells o t m n es order u
  pub rearranges : NoWriteWaits u → Rearranges order es

-- what the thinned routine does, at any length and also while writes wait, the original can do too
abbrev pub ThinningAddsNothing : Type 0
ThinningAddsNothing =
    (o f t : Listing) → ThinnedFrom o f t → (m : Cells) → Holds m t → (es : List Entry) (u : State) → AcceptsTo t m es u → Retold o t m es u

-- what holds of a double run that was opened on memories of the cells m and n
pub record Kept (o t : Listing) (m n : Cells) (d : Double) : Type 0 where
  -- both memories have the same word at every address of the routine
  pub memories : SameWords o d.pair.thinned.words d.pair.original.words
  -- every accepted entry is on the tape, or is a step that a party is behind
  pub counted : Counted (length o.parties) d.pair
  -- never more entries are accepted than may be
  pub few : length d.pair.accepted ≤ limit
  -- a party that the routine lacks is never behind
  pub lacking : (p : ℕ) → length o.parties ≤ p → d.pair.behind p ≡ 0
  -- the accepted entries lead the thinned side, and the tape the original, from the opening to where they stand
  pub thinned_accepts : AcceptsTo t m d.pair.accepted d.pair.thinned
  pub original_accepts : AcceptsTo o n d.pair.tape d.pair.original
  -- over every memory that holds the addresses the original accepts the tape, which retells the accepted entries, and ends as the original side stands
  pub retells : (g : Cells) → Holds g o → Retells o t m g d.pair.accepted d.pair.tape d.pair.thinned
  pub ends : (g : Cells) → Holds g o → (v : State) → AcceptsTo o g d.pair.tape v → Agree o v d.pair.original
  -- once no write waits on the thinned side, nobody is behind, the tape rearranges the accepted entries, and both sides stand alike
  pub level : NoWriteWaits d.pair.thinned → (p : ℕ) → d.pair.behind p ≡ 0
  pub rearranges : NoWriteWaits d.pair.thinned → Rearranges d.pair.tape d.pair.accepted
  pub agree : NoWriteWaits d.pair.thinned → Agree o d.pair.original d.pair.thinned
  -- what a close asks is whether no write waits, and so an accepted close finds none
  pub waiting : (drained_out t d.pair ≡ true) ↔ NoWriteWaits d.pair.thinned
  pub closes : (i : ℕ) → (called o t (Close i) d).reply ≡ Closed → NoWriteWaits d.pair.thinned
  -- a close and an abandon leave the pair as it was, and a feed whether the double run is open, and its number
  pub close_leaves : (i : ℕ) → (called o t (Close i) d).left.pair ≡ d.pair
  pub abandon_leaves : (i : ℕ) → (called o t (Abandon i) d).left.pair ≡ d.pair
  pub feed_leaves : (e : Entry) → (called o t (Feed e) d).left.control ≡ d.control

-- after opening, and after each of any calls, refused ones too
abbrev pub DoubleRunPromise : Type 0
DoubleRunPromise =
    (o f t : Listing) → ThinnedFrom o f t → (m n : Cells) → Holds m t → Holds n o → (number : ℕ) (calls : List Call)
    → (k : ℕ) → Kept o t m n (performed o t (take k calls) (opened o t m n number))

-- some calls led to the double run from its opening on memories of the cells m and n
pub record Reached (o t : Listing) (m n : Cells) (d : Double) : Type 0 where
  pub number : ℕ
  pub calls : List Call
  pub led : d ≡ performed o t calls (opened o t m n number)

-- and so one more call leads on from there; whatever is reached keeps the promise
pub record GoesOn (o t : Listing) (m n : Cells) (d : Double) : Type 0 where
  pub further : (c : Call) → Reached o t m n (called o t c d).left
  pub kept : Kept o t m n d

abbrev pub ReachedGoesOn : Type 0
ReachedGoesOn =
    (o f t : Listing) → ThinnedFrom o f t → (m n : Cells) → Holds m t → Holds n o → (d : Double) → Reached o t m n d → GoesOn o t m n d

-- the accepted entries are those of the feeds that were not refused, in turn
abbrev pub AcceptedAsAnswered : Type 0
AcceptedAsAnswered = (o t : Listing) (calls : List Call) (d : Double) → (performed o t calls d).pair.accepted ≡ d.pair.accepted ++ entries_fed calls (replies o t calls d)

-- whatever the pair, a feed keeps the count
abbrev pub FeedsAreCounted : Type 0
FeedsAreCounted = (o t : Listing) (n : ℕ) → length t.parties ≤ n → (e : Entry) (d : Pair) → Counted n d → Counted n (fed o t e d)
