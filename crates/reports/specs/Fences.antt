-- The bytes that `fences` prints.
use Rattle.std.specs.Prelude.{◌≡◌, ℕ, suc, Bool, true, false, if◌then◌else◌, List, [], ◌∷◌, ◌++◌, Ok, Err, codes, decimal, count_by, Result, slice_index_or}
use Rattle.fields.specs.declared.faults.FaultCode.{FaultCode}
use Rattle.instructions.specs.declared.types.Instruction.{Instruction}
use Rattle.instructions.specs.declared.types.Instruction.TheVariants.{Load, Store, Exchange, Fence, Nop, Set, Add, JumpNonzero, Jump}
use Rattle.grammar.specs.Faults.{routine_code}
use Rattle.grammar.specs.Listings.{Listing}
use Rattle.grammar.specs.Reads.{read_of}
use Rattle.grammar.specs.Texts.{text_of}
use Rattle.passes.specs.Passes.{ThinnedFrom}
use Rattle.paths.specs.Paths.{Code}
use Rattle.grammar.specs.declared.faults.RoutineFault.{RoutineFault}

-- FAULT number layer line
abbrev pub fault_line : FaultCode → List ℕ
fault_line c = codes "FAULT " ++ (decimal c.number ++ (32 ∷ (decimal c.layer ++ (32 ∷ (decimal c.line ++ (10 ∷ []))))))

abbrev pub is_fence : Instruction → Bool
is_fence (Load r a) = false
is_fence (Store a s) = false
is_fence (Exchange r a) = false
is_fence Fence = true
is_fence Nop = false
is_fence (Set r s) = false
is_fence (Add r s) = false
is_fence (JumpNonzero r t) = false
is_fence (Jump t) = false

-- how many MFENCE there are
abbrev pub fence_count : List Instruction → ℕ
fence_count code = count_by is_fence code

-- FENCES party before after
abbrev pub fence_line : ℕ → ℕ → ℕ → List ℕ
fence_line party before after = codes "FENCES " ++ (decimal party ++ (32 ∷ (decimal before ++ (32 ∷ (decimal after ++ (10 ∷ []))))))

-- a line for each party, the first of them being that number; ts is the thinned code of all parties
abbrev pub fence_lines : ℕ → List Code → List Code → List ℕ
fence_lines p [] ts = []
fence_lines p (o ∷ os) ts = fence_line p (fence_count o) (fence_count (slice_index_or ts p [])) ++ fence_lines (suc p) os ts

-- what became of a fence: f stands in its place after the forward pass, and t after both
abbrev pub fate : Instruction → Instruction → List ℕ
fate f t = if is_fence f then (if is_fence t then codes "STAYS" else codes "BACKWARD") else codes "FORWARD"

-- FENCE party position fate, where o is a fence
abbrev pub fate_line : ℕ → ℕ → Instruction → Instruction → Instruction → List ℕ
fate_line p k o f t = if is_fence o then codes "FENCE " ++ (decimal p ++ (32 ∷ (decimal k ++ (32 ∷ (fate f t ++ (10 ∷ [])))))) else []

-- a line for each fence of a party from position k on; fs and ts are its code after each pass
abbrev pub fate_lines : ℕ → ℕ → Code → Code → Code → List ℕ
fate_lines p k [] fs ts = []
fate_lines p k (o ∷ os) fs ts = fate_line p k o (slice_index_or fs k Nop) (slice_index_or ts k Nop) ++ fate_lines p (suc k) os fs ts

-- the same for each party, the first of them being that number
abbrev pub party_fates : ℕ → List Code → List Code → List Code → List ℕ
party_fates p [] fs ts = []
party_fates p (o ∷ os) fs ts = fate_lines p 0 o (slice_index_or fs p []) (slice_index_or ts p []) ++ party_fates (suc p) os fs ts

-- of a routine, what the forward pass made of it, and what both made of it
abbrev pub thinning_report : Listing → Listing → Listing → List ℕ
thinning_report o f t = party_fates 0 o.parties f.parties t.parties ++ (fence_lines 0 o.parties t.parties ++ text_of t)

-- the report of a routine: f and t are what the two passes make of it by their rules
pub record ReportOf (o : Listing) (bytes : List ℕ) : Type 0 where
  pub forward : Listing
  pub thinned : Listing
  pub by_rules : ThinnedFrom o forward thinned
  pub says : bytes ≡ thinning_report o forward thinned

abbrev pub Reported : Result Listing RoutineFault → List ℕ → Type 0
Reported (Ok o) bytes = ReportOf o bytes
Reported (Err e) bytes = bytes ≡ fault_line (routine_code e)

-- all bytes that are printed of a text
abbrev pub FencesPrinted : List ℕ → List ℕ → Type 0
FencesPrinted text bytes = Reported (read_of text) bytes
