-- What `==` says of the parts of two routines.
use Rattle.std.proofs.Common.{◌≡◌, Bool, false, List, map, Decides, sym, refl, ap, ◌∙◌, rules}
use Rattle.std.proofs.lemmas.Bool.{false≢true}
use Rattle.grammar.specs.Listings.{Listing}
use Rattle.std.specs.Cmp.Lexicographic.{pointwise}
use Rattle.std.specs.Cmp.Derive.Mapped.{pointwise-map}
use Rattle.std.proofs.lemmas.Slice.Eq.{slice_eq-Decides}
use Rattle.instructions.specs.contracts.types.InitPartialEq.TheImpl as init
use Rattle.instructions.specs.contracts.types.InstructionPartialEq.TheImpl as instruction
use Rattle.instructions.specs.declared.types.Init.{Init}
use Rattle.instructions.specs.declared.types.Instruction.{Instruction}
use Rattle.instructions.specs.declared.types.Instruction.TheVariants.{Load, Store, Exchange, Fence, Nop, Set, Add, JumpNonzero, Jump}
use Rattle.routine.specs.Parties.{code_of}
use Rattle.routine.specs.contracts.party.PartyPartialEq.TheImpl as party
use Rattle.routine.specs.declared.party.Party.{Party}

instructions_decided : (a b : Instruction) → Decides (instruction.ghosts.eq a b) (a ≡ b)
instructions_decided (Load r x) b = search rules
instructions_decided (Store x s) b = search rules
instructions_decided (Exchange r x) b = search rules
instructions_decided Fence b = search rules
instructions_decided Nop b = search rules
instructions_decided (Set r s) b = search rules
instructions_decided (Add r s) b = search rules
instructions_decided (JumpNonzero r t) b = search rules
instructions_decided (Jump t) b = search rules

code_decided : (a b : List Instruction) → Decides (pointwise instruction.ghosts.eq a b) (a ≡ b)
code_decided a b = slice_eq-Decides instructions_decided a b _ refl

pub inits_decided : (is js : List Init) (r : Bool) → r ≡ pointwise init.ghosts.eq is js → Decides r (is ≡ js)
inits_decided is js r e = slice_eq-Decides (λ a b. search rules) is js r e

pub parties_decided : (ps qs : List Party) (r : Bool) → r ≡ pointwise party.ghosts.eq ps qs → Decides r (map code_of ps ≡ map code_of qs)
parties_decided ps qs r e =
    slice_eq-Decides code_decided (map code_of ps) (map code_of qs) r (e ∙ sym (pointwise-map code_of (pointwise instruction.ghosts.eq) ps qs))

-- two listings are equal where both their parts are
module _ (a b : Listing) (is js : List Init) (is-a : is ≡ a.inits) (js-b : js ≡ b.inits) where
  pub by_parties : (ps qs : List (List Instruction)) (r : Bool) → ps ≡ a.parties → qs ≡ b.parties → is ≡ js → Decides r (ps ≡ qs) → Decides r (a ≡ b)
  by_parties ps qs r ps-a qs-b same d = (
    (λ t. λ i. record { inits = (sym is-a ∙ same ∙ js-b) i; parties = (sym ps-a ∙ d.0 t ∙ qs-b) i }),
    λ s. d.1 (ps-a ∙ ap (λ (l : Listing). l.parties) s ∙ sym qs-b),
  )

  pub by_inits : (r : Bool) → r ≡ false → Decides r (is ≡ js) → Decides r (a ≡ b)
  by_inits r f d =
      ((λ t. absurd (false≢true (sym f ∙ t))), λ s. d.1 (is-a ∙ ap (λ (l : Listing). l.inits) s ∙ sym js-b))
