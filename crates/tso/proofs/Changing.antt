-- What an entry changes.
use Rattle.std.proofs.Common.{◌≡◌, ℕ, List, ◌∷◌, Some, sym, refl, ap, ◌∙◌}
use Rattle.fields.specs.declared.registers.Register.{Register}
use Rattle.instructions.specs.declared.types.Instruction.{Instruction}
use Rattle.instructions.specs.declared.types.Instruction.TheVariants.{Load, Store, Exchange, Fence, Nop, Set, Add, JumpNonzero, Jump}
use Rattle.memory.specs.Cells.{Cells}
use Rattle.orders.specs.declared.entries.Entry.TheVariants.{Step, Drain}
use Rattle.tso.specs.Machine.{Party, stepped, words_after, drained}
use Rattle.tso.specs.Entries.{RefusedChangesNothing, AcceptedChangesOneParty}
use Rattle.tso.specs.Outcomes.{after}
use Rattle.tso.specs.declared.writes.Write.{Write}
use Rattle.tso.proofs.Turns.{step_inverse, drain_inverse, updated_own, updated_others}

pub refused_changes_nothing : RefusedChangesNothing
refused_changes_nothing l e s n h = ap (after s) h

words_stay : (i : Instruction) (x : Party) (m : Cells) → ((r : Register) (a : ℕ) → i ≡ Exchange r a → ⊥) → words_after i x m ≡ m
words_stay (Load r a) x m h = refl
words_stay (Store a s) x m h = refl
words_stay (Exchange r a) x m h = absurd (h r a refl)
words_stay Fence x m h = refl
words_stay Nop x m h = refl
words_stay (Set r s) x m h = refl
words_stay (Add r s) x m h = refl
words_stay (JumpNonzero r t) x m h = refl
words_stay (Jump t) x m h = refl

pub accepted_changes_one_party : AcceptedChangesOneParty
accepted_changes_one_party l (Step p) s u h =
    let f = step_inverse l p s u h in
    record {
      others = updated_others s u p (stepped f.i (s.party p) s.words) f.party_is;
      does = record {
        words = λ other. f.words_is ∙ words_stay f.i (s.party p) s.words (λ r a e. other r a (f.at ∙ ap Some e));
        exchanged = λ r a at. f.words_is ∙ ap (λ (i : Instruction). words_after i (s.party p) s.words) (let here = f.at in let e : f.i ≡ Exchange r a = cc in e);
      };
    }
accepted_changes_one_party l (Drain p) s u h =
    let f = drain_inverse l p s u h in
    let own = updated_own s u p (drained (s.party p) f.ws) f.party_is in
    record {
      others = updated_others s u p (drained (s.party p) f.ws) f.party_is;
      does = record {
        oldest = f.w;
        buffer = f.buffer_is ∙ ap (λ (ws : List Write). f.w ∷ ws) (ap (λ (x : Party). x.buffer) (sym own));
        position = ap (λ (x : Party). x.position) own;
        registers = ap (λ (x : Party). x.registers) own;
        words = f.words_is;
      };
    }
