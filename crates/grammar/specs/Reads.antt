-- What reading a text gives: a routine, or the first fault.
use Rattle.std.specs.Prelude.{ℕ, suc, Bool, true, false, if◌then◌else◌, ◌&&◌, List, [], ◌∷◌, ◌++◌, length, Some, None, Ok, Err, Option, Result, nat_le, nat_lt}
use Rattle.fields.specs.Pieces.{pieces}
use Rattle.instructions.specs.Lines.{line_read}
use Rattle.instructions.specs.declared.faults.LineFault.{LineFault}
use Rattle.instructions.specs.declared.types.Init.{Init}
use Rattle.instructions.specs.declared.types.Instruction.{Instruction}
use Rattle.instructions.specs.declared.types.Line.{Line}
use Rattle.instructions.specs.declared.types.Line.TheVariants as line
use Rattle.instructions.specs.declared.types.Stage.{Stage}
use Rattle.instructions.specs.declared.types.Stage.TheVariants.{Before, Inside, Between}
use Rattle.grammar.specs.declared.faults.RoutineFault.{RoutineFault}
use Rattle.grammar.specs.declared.faults.RoutineFault.TheVariants as fault
use Rattle.grammar.specs.Listings.{Listing, fewest_parties, targets_within, addresses_of}

-- what has been read: INIT lines, whole parties, the party in hand, and where the next line stands
pub record Draft : Type 0 where
  pub inits : List Init
  pub parties : List (List Instruction)
  pub current : List Instruction
  pub stage : Stage

abbrev pub blank : Draft
blank = record { inits = []; parties = []; current = []; stage = Before }

-- whether an address is above that of the last INIT line
abbrev pub above : ℕ → List Init → Bool
above a [] = true
above a (i ∷ []) = nat_lt i.address a
above a (i ∷ (j ∷ is)) = above a (j ∷ is)

-- what follows where that holds, and the fault otherwise
abbrev pub asked : {A : Type 0} → Bool → RoutineFault → Result A RoutineFault → Result A RoutineFault
asked holds e r = if holds then r else Err e

-- the n-th line joins what has been read
abbrev pub accept : Line → ℕ → Draft → Result Draft RoutineFault
accept (line.Init i) n d =
    asked (above i.address d.inits) (fault.Order n)
    (asked (nat_lt (length d.inits) 16) (fault.Room n)
    (Ok (record d { inits = d.inits ++ (i ∷ []) })))
accept line.Party n d =
    asked (nat_lt (length d.parties) 4) (fault.Room n)
    (Ok (record d { current = []; stage = Inside }))
accept (line.Instruction i) n d =
    asked (nat_lt (length d.current) 32) (fault.Room n)
    (Ok (record d { current = d.current ++ (i ∷ []) }))
accept line.End n d =
    asked (nat_lt 0 (length d.current)) (fault.Empty n)
    (asked (targets_within (length d.current) d.current) (fault.Target n)
    (Ok (record d { parties = d.parties ++ (d.current ∷ []); current = []; stage = Between })))

abbrev pub onward : {A B : Type 0} → Result A RoutineFault → (A → Result B RoutineFault) → Result B RoutineFault
onward (Ok x) f = f x
onward (Err e) f = Err e

abbrev pub by_line : Result (Option Line) LineFault → Result Draft RoutineFault → (Line → Result Draft RoutineFault) → Result Draft RoutineFault
by_line (Ok None) end f = end
by_line (Ok (Some l)) end f = f l
by_line (Err e) end f = Err (fault.Line e)

-- the pieces between bytes 10 that are left, the first of them being the n-th
abbrev pub read_from : ℕ → Draft → List (List ℕ) → Result Draft RoutineFault
read_from n d [] = Ok d
read_from n d (p ∷ ps) = by_line (line_read d.stage (p ∷ ps) n) (Ok d) (λ l. onward (accept l n d) (λ e. read_from (suc n) e ps))

abbrev pub outside : Stage → Bool
outside Before = true
outside Inside = false
outside Between = true

abbrev pub listed : Draft → Listing
listed d = record { inits = d.inits; parties = d.parties }

-- at the text's end: is there a party and none open, and are the different addresses at most 32
abbrev pub finished : Draft → Result Listing RoutineFault
finished d =
    asked (outside d.stage && nat_le fewest_parties (length d.parties)) fault.Unfinished
    (asked (nat_le (length (addresses_of (listed d))) 32) fault.Addresses
    (Ok (listed d)))

abbrev pub read_of : List ℕ → Result Listing RoutineFault
read_of bs =
    asked (nat_le 1 (length bs) && nat_le (length bs) 8192) fault.Length
    (onward (read_from 1 blank (pieces 10 bs)) finished)
