-- A double run: what each call answers and leaves.
use Rattle.std.specs.Prelude.{ℕ, zero, suc, Bool, true, false, if◌then◌else◌, ◌&&◌, List, [], ◌∷◌, ◌++◌, length, ◌==◌, nat_lt}
use Rattle.grammar.specs.Listings.{Listing}
use Rattle.memory.specs.Cells.{Cells}
use Rattle.orders.specs.declared.entries.Entry.{Entry}
use Rattle.tso.specs.Machine.{Party, Turn, refused, moved, is_empty, next}
use Rattle.thinning.specs.Pairs.{Pair, paired, fed}
use Rattle.thinning.specs.declared.calls.Call.{Call}
use Rattle.thinning.specs.declared.calls.Call.TheVariants.{Feed, Close, Abandon}
use Rattle.thinning.specs.declared.calls.Reply.{Reply}
use Rattle.thinning.specs.declared.calls.Reply.TheVariants.{Fed, Closed, Abandoned, Refused}
use Rattle.thinning.specs.declared.faults.DoubleFault.{DoubleFault}
use Rattle.thinning.specs.declared.faults.DoubleFault.TheVariants as fault

-- whether a double run is open, and the number that its tag bears
pub record Control : Type 0 where
  pub running : Bool
  pub number : ℕ

-- a double run
pub record Double : Type 0 where
  pub pair : Pair
  pub control : Control

-- a double run that was just opened on two memories, under the number
abbrev pub opened : Listing → Listing → Cells → Cells → ℕ → Double
opened o t f g n = record { pair = paired o t f g; control = record { running = true; number = n } }

-- how many entries may be accepted
abbrev pub limit : ℕ
limit = 1024

-- what a call comes to: the answer, and the double run after it
pub record Outcome : Type 0 where
  pub reply : Reply
  pub left : Double

-- a refused call changes nothing
abbrev pub refused_by : DoubleFault → Double → Outcome
refused_by f d = record { reply = Refused f; left = d }

-- asked only while the double run is open
abbrev pub if_running : Double → Outcome → Outcome
if_running d x = if d.control.running then x else refused_by fault.Ended d

-- the answer to an entry on which the thinned side made that turn
abbrev pub reply_to : Turn → Reply
reply_to (refused e) = Refused (fault.Entry e)
reply_to (moved u) = Fed

-- a feed asks for room first, and then the thinned side
abbrev pub feeding : Listing → Listing → Entry → Double → Outcome
feeding o t e d =
    if nat_lt (length d.pair.accepted) limit
    then record { reply = reply_to (next t e d.pair.thinned); left = record { pair = fed o t e d.pair; control = d.control } }
    else refused_by fault.Limit d

-- no write of the parties below the number waits
abbrev pub none_waits : ℕ → (ℕ → Party) → Bool
none_waits zero f = true
none_waits (suc n) f = is_empty (f n).buffer && none_waits n f

-- no write of the routine's parties waits on the thinned side
abbrev pub drained_out : Listing → Pair → Bool
drained_out t d = none_waits (length t.parties) d.thinned.party

-- the end, with that answer, by a tag of that number, if the double run is ready for it
abbrev pub ending : ℕ → Bool → Reply → Double → Outcome
ending n ready r d =
    if n == d.control.number
    then (if ready then record { reply = r; left = record { pair = d.pair; control = record { running = false; number = d.control.number } } } else refused_by fault.Waiting d)
    else refused_by fault.Tag d

-- the steps behind of four parties; one that the routine lacks is never behind
abbrev pub abandoned_at : (ℕ → ℕ) → Reply
abandoned_at behind = Abandoned (behind 0 ∷ (behind 1 ∷ (behind 2 ∷ (behind 3 ∷ []))))

abbrev pub called : Listing → Listing → Call → Double → Outcome
called o t (Feed e) d = if_running d (feeding o t e d)
called o t (Close n) d = if_running d (ending n (drained_out t d.pair) Closed d)
called o t (Abandon n) d = if_running d (ending n true (abandoned_at d.pair.behind) d)

-- the double run after some calls in turn, and their answers
abbrev pub performed : Listing → Listing → List Call → Double → Double
performed o t [] d = d
performed o t (c ∷ cs) d = performed o t cs (called o t c d).left

abbrev pub replies : Listing → Listing → List Call → Double → List Reply
replies o t [] d = []
replies o t (c ∷ cs) d = (called o t c d).reply ∷ replies o t cs (called o t c d).left

-- the entry of a call, if it is a feed that was accepted
abbrev pub entry_fed : Call → Reply → List Entry
entry_fed (Feed e) Fed = e ∷ []
entry_fed (Feed e) Closed = []
entry_fed (Feed e) (Abandoned behind) = []
entry_fed (Feed e) (Refused f) = []
entry_fed (Close n) r = []
entry_fed (Abandon n) r = []

-- the entries of the accepted feeds among some calls, in turn, by their answers
abbrev pub entries_fed : List Call → List Reply → List Entry
entries_fed [] rs = []
entries_fed (c ∷ cs) [] = []
entries_fed (c ∷ cs) (r ∷ rs) = entry_fed c r ++ entries_fed cs rs
