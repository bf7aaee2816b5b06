-- Worked examples, computed over one memory and carried to every other.
use Rattle.std.proofs.Common.{◌≡◌, ℕ, suc, true, eqb, List, [], ◌∷◌, map, length, Some, None, Option, refl, ap, ◌∙◌}
use Rattle.std.proofs.lemmas.Bool.{eq-eqb, or_left, or_right}
use Rattle.fields.specs.declared.registers.Register.TheVariants.{A}
use Rattle.grammar.specs.Listings.{addresses_of}
use Rattle.paths.specs.Paths.{Code}
use Rattle.memory.specs.Cells.{Cells}
use Rattle.tso.specs.Machine.{Party, State}
use Rattle.tso.specs.Openings.{missing, opening, member}
use Rattle.tso.specs.Outcomes.{answers_of, after_all, Alike}
use Rattle.tso.specs.Examples.{Case, in_parties, Comes}
use Rattle.tso.specs.declared.faults.EntryFault.{EntryFault}
use Rattle.tso.proofs.Restriction.{outcome_by_named_words}

-- a memory that holds every address
abbrev pub zeros : Cells
zeros a = Some 0

abbrev pub end : Case → Cells → State
end c f = after_all c.listing c.order (opening c.listing f)

abbrev pub Outcome : Type 0
Outcome = Option ℕ × List (Option EntryFault) × List ℕ × List ℕ × List (Option ℕ)

abbrev pub computed : Case → Outcome
computed c =
    (missing zeros (addresses_of c.listing), answers_of c.listing c.order (opening c.listing zeros), in_parties (λ x. x.registers A) 0 c.listing.parties (end c zeros), in_parties (λ x. length x.buffer) 0 c.listing.parties (end c zeros), map (end c zeros).words (addresses_of c.listing))

abbrev pub wanted : Case → Outcome
wanted c = (None, c.answers, c.in_a, c.waiting, map Some c.words)

in_parties_same : {X : Type 0} (f : Party → X) (p : ℕ) (cs : List Code) (s u : State) → ((q : ℕ) → s.party q ≡ u.party q) → in_parties f p cs s ≡ in_parties f p cs u
in_parties_same f p [] s u h = refl
in_parties_same f p (c ∷ cs) s u h = let first = ap f (h p) in let rest = in_parties_same f (suc p) cs s u h in cc

map_same : (ks : List ℕ) (f g : Cells) → ((a : ℕ) → member a ks ≡ true → f a ≡ g a) → map f ks ≡ map g ks
map_same [] f g h = refl
map_same (k ∷ ks) f g h =
    let first = h k (or_left (eqb k k) (member k ks) (eq-eqb k k refl)) in
    let rest = map_same ks f g (λ a m. h a (or_right (eqb a k) (member a ks) m)) in
    cc

-- what computes over one memory holds over every memory
pub comes_to : (c : Case) → computed c ≡ wanted c → Comes c
comes_to c e f h =
    record {
      answers = alike.answers ∙ ap (λ (o : Outcome). o.1) e;
      in_a = in_parties_same (λ x. x.registers A) 0 c.listing.parties (end c f) (end c zeros) alike.parties ∙ ap (λ (o : Outcome). o.2) e;
      waiting = in_parties_same (λ x. length x.buffer) 0 c.listing.parties (end c f) (end c zeros) alike.parties ∙ ap (λ (o : Outcome). o.3) e;
      words = map_same (addresses_of c.listing) (end c f).words (end c zeros).words alike.named ∙ ap (λ (o : Outcome). o.4) e;
    }
  where
    alike : Alike c.listing f zeros c.order
    alike = outcome_by_named_words c.listing f zeros c.order h (ap (λ (o : Outcome). o.0) e)
