-- What an accepted entry says, and what makes one.
use Rattle.std.proofs.Common.{◌≡◌, ℕ, Bool, true, false, ltb, List, [], ◌∷◌, length, Some, None, Option, sym, refl, ap, ◌∙◌}
use Rattle.std.proofs.lemmas.Bool.{eq-eqb, ne_eqb}
use Rattle.instructions.specs.declared.types.Instruction.{Instruction}
use Rattle.grammar.specs.Listings.{Listing, code_at}
use Rattle.paths.specs.Paths.{fetch}
use Rattle.memory.specs.Cells.{put}
use Rattle.orders.specs.declared.entries.Entry.TheVariants.{Step, Drain}
use Rattle.tso.specs.Machine.{Party, State, moved, depth_of, updated, stepped, words_after, step_fault, drained, next}
use Rattle.tso.specs.declared.faults.EntryFault.{EntryFault}
use Rattle.tso.specs.declared.writes.Write.{Write}

pub record Stepped (l : Listing) (p : ℕ) (s u : State) : Type 0 where
  pub here : ltb p (length l.parties) ≡ true
  pub i : Instruction
  pub at : fetch (code_at l p) (s.party p).position ≡ Some i
  pub free : step_fault (depth_of l) i (s.party p) ≡ None
  pub party_is : u.party ≡ updated s.party p (stepped i (s.party p) s.words)
  pub words_is : u.words ≡ words_after i (s.party p) s.words

pub record Drained (l : Listing) (p : ℕ) (s u : State) : Type 0 where
  pub here : ltb p (length l.parties) ≡ true
  pub w : Write
  pub ws : List Write
  pub buffer_is : (s.party p).buffer ≡ w ∷ ws
  pub party_is : u.party ≡ updated s.party p (drained (s.party p) ws)
  pub words_is : u.words ≡ put s.words w.address w.word

pub step_made : (l : Listing) (p : ℕ) (s : State) (i : Instruction) → ltb p (length l.parties) ≡ true → fetch (code_at l p) (s.party p).position ≡ Some i → step_fault (depth_of l) i (s.party p) ≡ None
    → next l (Step p) s ≡ moved (record { party = updated s.party p (stepped i (s.party p) s.words); words = words_after i (s.party p) s.words })
step_made l p s i a b c = cc

pub step_inverse : (l : Listing) (p : ℕ) (s u : State) → next l (Step p) s ≡ moved u → Stepped l p s u
step_inverse l p s u h = go (ltb p (length l.parties)) refl (fetch (code_at l p) (s.party p).position) refl
  where
    free : (i : Instruction) → ltb p (length l.parties) ≡ true → fetch (code_at l p) (s.party p).position ≡ Some i → (o : Option EntryFault) → step_fault (depth_of l) i (s.party p) ≡ o → Stepped l p s u
    free i a b None c =
        let x : record { party = updated s.party p (stepped i (s.party p) s.words); words = words_after i (s.party p) s.words } ≡ u = cc (step_made l p s i a b c) in
        record { here = a; i = i; at = b; free = c; party_is = ap (λ (y : State). y.party) (sym x); words_is = ap (λ (y : State). y.words) (sym x) }
    free i a b (Some n) c = cc

    go : (b : Bool) → ltb p (length l.parties) ≡ b → (o : Option Instruction) → fetch (code_at l p) (s.party p).position ≡ o → Stepped l p s u
    go false a o b = cc
    go true a None b = cc
    go true a (Some i) b = free i a b (step_fault (depth_of l) i (s.party p)) refl

pub drain_made : (l : Listing) (p : ℕ) (s : State) (w : Write) (ws : List Write) → ltb p (length l.parties) ≡ true → (s.party p).buffer ≡ w ∷ ws
    → next l (Drain p) s ≡ moved (record { party = updated s.party p (drained (s.party p) ws); words = put s.words w.address w.word })
drain_made l p s w ws a b = cc

pub drain_inverse : (l : Listing) (p : ℕ) (s u : State) → next l (Drain p) s ≡ moved u → Drained l p s u
drain_inverse l p s u h = go (ltb p (length l.parties)) refl (s.party p).buffer refl
  where
    go : (b : Bool) → ltb p (length l.parties) ≡ b → (ws : List Write) → (s.party p).buffer ≡ ws → Drained l p s u
    go false a ws b = cc
    go true a [] b = cc
    go true a (w ∷ ws) b =
        let x : record { party = updated s.party p (drained (s.party p) ws); words = put s.words w.address w.word } ≡ u = cc (drain_made l p s w ws a b) in
        record { here = a; w = w; ws = ws; buffer_is = b; party_is = ap (λ (y : State). y.party) (sym x); words_is = ap (λ (y : State). y.words) (sym x) }

-- the record of the entry's party, and those of the others
module _ (s u : State) (p : ℕ) where
  pub updated_own : (x : Party) → u.party ≡ updated s.party p x → u.party p ≡ x
  updated_own x e = ap (λ (f : ℕ → Party). f p) e ∙ rw (eq-eqb p p refl)

  pub updated_others : (x : Party) → u.party ≡ updated s.party p x → (q : ℕ) → (q ≡ p → ⊥) → u.party q ≡ s.party q
  updated_others x e q apart = ap (λ (f : ℕ → Party). f q) e ∙ rw (ne_eqb q p apart)
