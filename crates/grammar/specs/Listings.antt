-- What a routine says, and the limits that it keeps.
use Rattle.std.specs.Prelude.{ℕ, Bool, true, if◌then◌else◌, ◌&&◌, List, [], ◌∷◌, length, ◌==◌, nat_le, nat_lt, slice_index_or, fold}
use Rattle.std.specs.List.{list_all}
use Rattle.instructions.specs.declared.types.Init.{Init}
use Rattle.instructions.specs.declared.types.Instruction.{Instruction}
use Rattle.instructions.specs.declared.types.Instruction.TheVariants.{Load, Store, Exchange, Set, Add, JumpNonzero, Jump}
use Rattle.instructions.specs.declared.types.Operand.{Operand}
use Rattle.instructions.specs.declared.types.Operand.TheVariants as operand

-- a routine's INIT lines, and the instructions of each of its parties
pub record Listing : Type 0 where
  pub inits : List Init
  pub parties : List (List Instruction)

-- the instructions of a party; a party that the routine lacks has none
abbrev pub code_at : Listing → ℕ → List Instruction
code_at l p = slice_index_or l.parties p []

-- the fewest parties that a routine may have
abbrev pub fewest_parties : ℕ
fewest_parties = 1

-- each address is above the one before
abbrev pub rising : List Init → Bool
rising [] = true
rising (i ∷ []) = true
rising (i ∷ (j ∷ is)) = nat_lt i.address j.address && rising (j ∷ is)

-- no jump goes past that end
abbrev pub target_within : ℕ → Instruction → Bool
target_within end (JumpNonzero r t) = nat_le t end
target_within end (Jump t) = nat_le t end
target_within end _ = true

abbrev pub targets_within : ℕ → List Instruction → Bool
targets_within end is = list_all (target_within end) is

-- a party has 1 to 32 instructions, and no jump past its end
abbrev pub party_lawful : List Instruction → Bool
party_lawful is = nat_lt 0 (length is) && (nat_le (length is) 32 && targets_within (length is) is)

abbrev pub parties_lawful : List (List Instruction) → Bool
parties_lawful ps = list_all party_lawful ps

-- the ranges of the numbers: an address is at most 65,535, a word at most 2^32 - 1
abbrev pub operand_fits : Operand → Bool
operand_fits (operand.Register r) = true
operand_fits (operand.Constant n) = nat_le n 4294967295

abbrev pub instruction_fits : Instruction → Bool
instruction_fits (Load r a) = nat_le a 65535
instruction_fits (Store a s) = nat_le a 65535 && operand_fits s
instruction_fits (Exchange r a) = nat_le a 65535
instruction_fits (Set r s) = operand_fits s
instruction_fits (Add r s) = operand_fits s
instruction_fits (JumpNonzero r t) = nat_le t 32
instruction_fits (Jump t) = nat_le t 32
instruction_fits _ = true

abbrev pub init_fits : Init → Bool
init_fits i = nat_le i.address 65535 && nat_le i.value 4294967295

abbrev pub code_fits : List Instruction → Bool
code_fits is = list_all instruction_fits is

abbrev pub inits_fit : List Init → Bool
inits_fit is = list_all init_fits is

abbrev pub parties_fit : List (List Instruction) → Bool
parties_fit ps = list_all code_fits ps

-- the addresses that are named, in the order of the text
abbrev pub address_in : Instruction → List ℕ
address_in (Load r a) = a ∷ []
address_in (Store a s) = a ∷ []
address_in (Exchange r a) = a ∷ []
address_in _ = []

-- an address put into its place among rising ones, once
abbrev pub noted : ℕ → List ℕ → List ℕ
noted a [] = a ∷ []
noted a (b ∷ bs) = if nat_lt a b then a ∷ (b ∷ bs) else if a == b then b ∷ bs else b ∷ noted a bs

abbrev pub noted_inits : List Init → List ℕ → List ℕ
noted_inits is seen = fold (λ seen i. noted i.address seen) seen is

abbrev pub noted_in : List ℕ → List ℕ → List ℕ
noted_in more seen = fold (λ seen a. noted a seen) seen more

abbrev pub noted_code : List Instruction → List ℕ → List ℕ
noted_code is seen = fold (λ seen i. noted_in (address_in i) seen) seen is

abbrev pub noted_parties : List (List Instruction) → List ℕ → List ℕ
noted_parties ps seen = fold (λ seen p. noted_code p seen) seen ps

-- the different addresses of a routine, rising
abbrev pub addresses_of : Listing → List ℕ
addresses_of l = noted_parties l.parties (noted_inits l.inits [])

-- the limits that every routine keeps
abbrev pub lawful : Listing → Bool
lawful l =
    (nat_le fewest_parties (length l.parties) && nat_le (length l.parties) 4)
    && (parties_lawful l.parties
    && ((nat_le (length l.inits) 16 && rising l.inits)
    && ((inits_fit l.inits && parties_fit l.parties)
    && nat_le (length (addresses_of l)) 32)))
