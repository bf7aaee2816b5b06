-- What a thinned routine has at each position, and that its INIT lines, addresses, opening and store buffers are the original's.
use Rattle.std.proofs.Common.{◌≡◌, ℕ, suc, ◌⊎◌, List, [], ◌∷◌, length, get_or, Some, None, Option, sym, refl, ap, ◌∙◌, inl, inr, arith}
use Rattle.instructions.specs.declared.types.Instruction.{Instruction}
use Rattle.instructions.specs.declared.types.Instruction.TheVariants.{Load, Store, Exchange, Fence, Nop, Set, Add, JumpNonzero, Jump}
use Rattle.grammar.specs.Listings.{Listing, code_at, address_in, noted_in, noted_inits, noted_code, noted_parties, addresses_of}
use Rattle.memory.specs.Cells.{Cells}
use Rattle.paths.specs.Paths.{Code, fetch}
use Rattle.paths.specs.Rules.{TakenOut}
use Rattle.paths.specs.Marks.{Dirty, Exposed}
use Rattle.paths.proofs.Decided.{change?}
use Rattle.paths.proofs.Standing.{at?, fence_at?}
use Rattle.paths.proofs.Roads.{shielded_is, screened_is}
use Rattle.passes.specs.Passes.{PassedBy, ThinnedFrom}
use Rattle.passes.specs.declared.pass.Pass.{Pass}
use Rattle.tso.specs.Machine.{depth_of}
use Rattle.tso.specs.Openings.{opening}

nop? : (i : Instruction) → Dec (i ≡ Nop)
nop? (Load r a) = no (λ x. cc)
nop? (Store a s) = no (λ x. cc)
nop? (Exchange r a) = no (λ x. cc)
nop? Fence = no (λ x. cc)
nop? Nop = yes refl
nop? (Set r s) = no (λ x. cc)
nop? (Add r s) = no (λ x. cc)
nop? (JumpNonzero r t) = no (λ x. cc)
nop? (Jump t) = no (λ x. cc)

nop_at? : (c : Code) (k : ℕ) → Dec (fetch c k ≡ Some Nop)
nop_at? c k = change? (λ x. x.1 ∙ ap {B = Option Instruction} Some x.2) (λ e. (Nop, e, refl)) (at? c (λ i. i ≡ Nop) nop? k)

-- at one position a pass leaves what it finds, or NOP for a fence of which B does not hold
abbrev pub Passed : Option Instruction → Option Instruction → Type 0 → Type 0
Passed a b B = (b ≡ a) ⊎ ((a ≡ Some Fence) × (b ≡ Some Nop) × (¬ B))

passed_at : {G : ℕ → Type 0} {c t : Code} → TakenOut G c t → (k : ℕ) (B : Type 0) → (G k → ¬ B) → Passed (fetch c k) (fetch t k) B
passed_at {G} {c} {t} h k B m = go (fence_at? c k) (nop_at? t k)
  where
    go : Dec (fetch c k ≡ Some Fence) → Dec (fetch t k ≡ Some Nop) → Passed (fetch c k) (fetch t k) B
    go (no a) _ = inl (h.stays k (λ x. a x.0))
    go (yes a) (no b) = inl (h.stays k (λ x. b (h.goes k a x.1)))
    go (yes a) (yes b) = inr (a, b, m (h.only k a b))

-- how the original's and the thinned routine's instructions at one position are related
abbrev pub Alike : Option Instruction → Option Instruction → Type 0
Alike a b = (b ≡ a) ⊎ ((a ≡ Some Fence) × (b ≡ Some Nop))

alike_join : {a b c : Option Instruction} {P Q : Type 0} → Passed a b P → Passed b c Q → Alike a c
alike_join (inl x) (inl y) = inl (y ∙ x)
alike_join (inl x) (inr y) = inr (sym x ∙ y.0, y.1)
alike_join (inr x) (inl y) = inr (x.0, y ∙ x.1)
alike_join (inr x) (inr y) = inr (x.0, y.1)

-- the addresses of two codes whose instructions are alike
abbrev addresses_at : Option Instruction → List ℕ
addresses_at None = []
addresses_at (Some i) = address_in i

noted_alike : (c d : Code) → length d ≡ length c → ((k : ℕ) → addresses_at (fetch d k) ≡ addresses_at (fetch c k)) → (seen : List ℕ) → noted_code d seen ≡ noted_code c seen
noted_alike [] [] h e seen = refl
noted_alike [] (j ∷ d) h e seen = cc
noted_alike (i ∷ c) [] h e seen = cc
noted_alike (i ∷ c) (j ∷ d) h e seen =
    noted_alike c d (omega arith) (λ k. e (suc k)) (noted_in (address_in j) seen) ∙ ap (λ (ks : List ℕ). noted_code c (noted_in ks seen)) (e 0)

noted_each : (ps qs : List Code) → length qs ≡ length ps → ((p : ℕ) (seen : List ℕ) → noted_code (get_or qs p []) seen ≡ noted_code (get_or ps p []) seen) → (seen : List ℕ) → noted_parties qs seen ≡ noted_parties ps seen
noted_each [] [] h e seen = refl
noted_each [] (d ∷ qs) h e seen = cc
noted_each (c ∷ ps) [] h e seen = cc
noted_each (c ∷ ps) (d ∷ qs) h e seen = noted_each ps qs (omega arith) (λ p. e (suc p)) (noted_code d seen) ∙ ap (noted_parties ps) (e 0 seen)

addresses_at_lem : {a b : Option Instruction} {P : Type 0} → Passed a b P → addresses_at b ≡ addresses_at a
addresses_at_lem (inl e) = ap addresses_at e
addresses_at_lem (inr e) = ap addresses_at e.1 ∙ ap addresses_at (sym e.0)

passed_addresses : {pass : Pass} {l m : Listing} → PassedBy pass l m → addresses_of m ≡ addresses_of l
passed_addresses {pass} {l} {m} h =
    noted_each l.parties m.parties h.count
    (λ p. noted_alike (code_at l p) (code_at m p) (h.each p).long (λ k. addresses_at_lem (passed_at (h.each p) k ⊥ (λ _ x. x))))
    (noted_inits m.inits [])
    ∙ ap (λ is. noted_parties l.parties (noted_inits is [])) h.inits

module _ {o f t : Listing} (th : ThinnedFrom o f t) where
  pub forward_at : (p k : ℕ) → Passed (fetch (code_at o p) k) (fetch (code_at f p) k) (Dirty (code_at o p) k)
  forward_at p k = passed_at (th.forward.each p) k (Dirty (code_at o p) k) (shielded_is (code_at o p) k).0

  pub backward_at : (p k : ℕ) → Passed (fetch (code_at f p) k) (fetch (code_at t p) k) (Exposed (code_at f p) (suc k))
  backward_at p k = passed_at (th.backward.each p) k (Exposed (code_at f p) (suc k)) (screened_is (code_at f p) (suc k)).0

  pub alike : (p k : ℕ) → Alike (fetch (code_at o p) k) (fetch (code_at t p) k)
  alike p k = alike_join (forward_at p k) (backward_at p k)

  pub count_kept : length t.parties ≡ length o.parties
  count_kept = th.backward.count ∙ th.forward.count

  -- as many writes may wait in the thinned routine as in the original
  pub depth_kept : depth_of t ≡ depth_of o
  depth_kept = refl

  pub inits_kept : t.inits ≡ o.inits
  inits_kept = th.backward.inits ∙ th.forward.inits

  pub addresses_kept : addresses_of t ≡ addresses_of o
  addresses_kept = passed_addresses th.backward ∙ passed_addresses th.forward

  pub opening_kept : (m : Cells) → opening t m ≡ opening o m
  opening_kept m = let a = inits_kept in let b = addresses_kept in cc
