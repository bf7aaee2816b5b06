-- Drafts, and the parts of being lawful.
use Rattle.std.proofs.Common.{◌≡◌, ◌≤◌, true, leb, List, [], ◌∷◌, ◌++◌, length, refl}
use Rattle.std.proofs.lemmas.Bool.{and_parts, and_from, leb-true, le-leb}
use Rattle.instructions.specs.Keywords.{may_stand, is_inside}
use Rattle.instructions.specs.declared.types.Init.{Init}
use Rattle.instructions.specs.declared.types.Instruction.{Instruction}
use Rattle.instructions.specs.declared.types.Instruction.TheVariants.{Load, Store, Exchange, Fence, Nop, Set, Add, JumpNonzero, Jump}
use Rattle.instructions.specs.declared.types.Line.TheVariants as line
use Rattle.instructions.specs.declared.types.Stage.{Stage}
use Rattle.grammar.specs.Grammar.{word_of}
use Rattle.grammar.specs.Listings.{Listing, fewest_parties, rising, lawful, parties_lawful, parties_fit, inits_fit, addresses_of}
use Rattle.grammar.specs.Reads.{Draft, above}

abbrev pub draft : List Init → List (List Instruction) → List Instruction → Stage → Draft
draft is ps c s = record { inits = is; parties = ps; current = c; stage = s }

-- an instruction may stand inside a party only
pub instruction_stands : (s : Stage) (i : Instruction) → may_stand s (word_of (line.Instruction i)) ≡ is_inside s
instruction_stands s (Load r a) = refl
instruction_stands s (Store a o) = refl
instruction_stands s (Exchange r a) = refl
instruction_stands s Fence = refl
instruction_stands s Nop = refl
instruction_stands s (Set r o) = refl
instruction_stands s (Add r o) = refl
instruction_stands s (JumpNonzero r t) = refl
instruction_stands s (Jump t) = refl

-- among rising addresses, each is above those before it
pub rising-above : (got : List Init) (i : Init) (is : List Init) → rising (got ++ (i ∷ is)) ≡ true → above i.address got ≡ true
rising-above [] i is h = refl
rising-above (g ∷ []) i is h = (and_parts _ _ h).0
rising-above (g ∷ (k ∷ ks)) i is h = rising-above (k ∷ ks) i is (and_parts _ _ h).1

pub rising_snoc : (got : List Init) (i : Init) → rising got ≡ true → above i.address got ≡ true → rising (got ++ (i ∷ [])) ≡ true
rising_snoc [] i r h = refl
rising_snoc (g ∷ []) i r h = and_from _ _ h refl
rising_snoc (g ∷ (k ∷ ks)) i r h =
    let p = and_parts _ _ r in
    and_from _ _ p.0 (rising_snoc (k ∷ ks) i p.1 h)

-- the limits, one by one
pub record Limits (l : Listing) : Type 0 where
  pub fewest : leb fewest_parties (length l.parties) ≡ true
  pub most : length l.parties ≤ 4
  pub parties : parties_lawful l.parties ≡ true
  pub count : length l.inits ≤ 16
  pub order : rising l.inits ≡ true
  pub inits_are_fit : inits_fit l.inits ≡ true
  pub parties_are_fit : parties_fit l.parties ≡ true
  pub addresses : leb (length (addresses_of l)) 32 ≡ true

pub limits : (l : Listing) → lawful l ≡ true → Limits l
limits l h =
    let p = and_parts _ _ h in
    let few = and_parts _ _ p.0 in
    let q = and_parts _ _ p.1 in
    let r = and_parts _ _ q.1 in
    let inits = and_parts _ _ r.0 in
    let s = and_parts _ _ r.1 in
    let fit = and_parts _ _ s.0 in
    record { fewest = few.0; most = leb-true _ _ few.1; parties = q.0; count = leb-true _ _ inits.0; order = inits.1; inits_are_fit = fit.0; parties_are_fit = fit.1; addresses = s.1 }

pub within_limits : (l : Listing) → Limits l → lawful l ≡ true
within_limits l k =
    and_from _ _ (and_from _ _ k.fewest (le-leb _ _ k.most))
    (and_from _ _ k.parties
    (and_from _ _ (and_from _ _ (le-leb _ _ k.count) k.order)
    (and_from _ _ (and_from _ _ k.inits_are_fit k.parties_are_fit) k.addresses)))
