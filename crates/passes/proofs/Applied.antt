-- A pass party by party.
use Rattle.std.proofs.Common.{◌≡◌, ℕ, ◌+◌, ◌<◌, ◌≤◌, Bool, true, List, [], map, length, get_or, sym, refl, ap, ◌∙◌, subst, ⊎_elim, arith, length-set, get_or-set_other, get_or-set_same}
use Rattle.std.proofs.lemmas.List.{get_or_past, get_or-map}
use Rattle.std.proofs.lemmas.List.Sums.{AllPass-from_list_all}
use Rattle.std.proofs.lemmas.Bool.{cases_lt, cases_eq}
use Rattle.instructions.specs.Thinning.{thin_from}
use Rattle.grammar.specs.Listings.{Listing, code_at, lawful, party_lawful}
use Rattle.grammar.proofs.Drafts.{limits}
use Rattle.paths.specs.Paths.{Code}
use Rattle.paths.specs.Rules.{TakenOut}
use Rattle.routine.specs.Parties.{code_of}
use Rattle.routine.specs.Thins.{thinned_at}
use Rattle.routine.specs.declared.party.Party.{Party}
use Rattle.passes.specs.Passes.{RuleOf, PassedBy}
use Rattle.passes.specs.declared.pass.Pass.{Pass}

-- the first n parties are thinned, the others are as they were
pub record Partly (pass : Pass) (l m : Listing) (n : ℕ) : Type 0 where
  pub inits : m.inits ≡ l.inits
  pub count : length m.parties ≡ length l.parties
  pub done : (p : ℕ) → p < n → TakenOut (RuleOf pass (code_at l p)) (code_at l p) (code_at m p)
  pub todo : (p : ℕ) → n ≤ p → code_at m p ≡ code_at l p

module _ (pass : Pass) (l m k : Listing) (n : ℕ) (marks : ℕ → Bool) (low : n < length l.parties) (so : Partly pass l m n) (is : k ≡ thinned_at n marks m) where
  here : code_at k n ≡ thin_from marks 0 (code_at l n)
  here =
      ap (λ (q : Listing). code_at q n) is
      ∙ get_or-set_same m.parties n (thin_from marks 0 (code_at m n)) [] (omega (arith, so.count))
      ∙ ap (thin_from marks 0) (so.todo n (omega arith))

  elsewhere : (p : ℕ) → (p ≡ n → ⊥) → code_at k p ≡ code_at m p
  elsewhere p ne = ap (λ (q : Listing). code_at q p) is ∙ get_or-set_other m.parties n p (thin_from marks 0 (code_at m n)) [] ne

  pub partly_more : TakenOut (RuleOf pass (code_at l n)) (code_at l n) (thin_from marks 0 (code_at l n)) → Partly pass l k (n + 1)
  partly_more out = record {
    inits = ap (λ (q : Listing). q.inits) is ∙ so.inits;
    count = ap (λ (q : Listing). length q.parties) is ∙ length-set m.parties n (thin_from marks 0 (code_at m n)) ∙ so.count;
    done = λ p h. ⊎_elim
        (λ e. subst (λ p. TakenOut (RuleOf pass (code_at l p)) (code_at l p) (code_at k p)) (sym e) (subst (TakenOut (RuleOf pass (code_at l n)) (code_at l n)) (sym here) out))
        (λ ne. subst (TakenOut (RuleOf pass (code_at l p)) (code_at l p)) (sym (elsewhere p ne)) (so.done p (omega arith)))
        (cases_eq p n);
    todo = λ p h. elsewhere p (λ e. omega (arith, e)) ∙ so.todo p (omega arith);
  }

-- without instructions nothing is taken out
none_out : (G : ℕ → Type 0) → TakenOut G [] []
none_out G = record { long = refl; goes = λ k e g. cc; only = λ k e f. cc; stays = λ k h. refl }

pub partly_all : (pass : Pass) (l m : Listing) (n : ℕ) → length l.parties ≤ n → Partly pass l m n → PassedBy pass l m
partly_all pass l m n high so = record {
  inits = so.inits;
  count = so.count;
  each = λ p. ⊎_elim (so.done p) (λ h.
      let a = get_or_past l.parties p [] (omega arith) in
      let b = get_or_past m.parties p [] (omega (arith, so.count)) in
      subst (λ c. TakenOut (RuleOf pass c) c (code_at m p)) (sym a) (subst (TakenOut (RuleOf pass []) []) (sym b) (none_out (RuleOf pass []))))
      (cases_lt p n);
}

pub party_lawful_lem : (l : Listing) (p : ℕ) → lawful l ≡ true → p < length l.parties → party_lawful (code_at l p) ≡ true
party_lawful_lem l p law h = AllPass-from_list_all party_lawful l.parties (limits l law).parties p [] h

-- a party that was read from the slice
pub read_code : (ps : List Party) (cs : List Code) (p : ℕ) (x : Party) → map code_of ps ≡ cs → p < length ps → x ≡ get_or ps p x → code_of x ≡ get_or cs p []
read_code ps cs p x all h is = ap code_of is ∙ sym (get_or-map code_of ps p x [] h) ∙ ap (λ qs. get_or qs p []) all
