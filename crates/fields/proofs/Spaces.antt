-- The pieces as `split` gives them, and the empty ones among them.
use Rattle.std.proofs.Common.{◌≡◌, ℕ, not, ◌&&◌, eqb, List, [], ◌∷◌, length, sym, refl, arith}
use Rattle.std.specs.List.{list_all}
use Rattle.std.proofs.lemmas.Bool.{ne_eqb, not_from_false}
use Rattle.fields.specs.Lines.{some, all_some}

some-is : (f : List ℕ) → some f ≡ not (eqb (length f) 0)
some-is [] = refl
some-is (c ∷ cs) = sym (not_from_false _ (ne_eqb (length (c ∷ cs)) 0 (λ e. omega arith)))

pub all_some-is : (ps : List (List ℕ)) → list_all (λ f. not (eqb (length f) 0)) ps ≡ all_some ps
all_some-is [] = refl
all_some-is (f ∷ fs) = λ i. sym (some-is f) i && all_some-is fs i
