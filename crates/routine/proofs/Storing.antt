-- INIT lines in storage.
use Rattle.std.proofs.Common.{◌≡◌, ℕ, suc, ◌-◌, Bool, true, ltb, List, [], ◌∷◌, length, Some, None, Option, sym, refl, ap, ◌∙◌, arith}
use Rattle.std.specs.List.{slice_get}
use Rattle.std.specs.Option.{option_copied, MatchOption}
use Rattle.std.specs.Bool.{IsTrue}
use Rattle.instructions.specs.declared.types.Init.{Init}
use Rattle.grammar.specs.Reads.{above}
use denote.Ref.{Bor}

-- whether an address is above that of an INIT line, if there is one
abbrev above_one : ℕ → Option Init → Bool
above_one a None = true
above_one a (Some i) = ltb i.address a

-- only the last INIT line is asked
above_last : (a : ℕ) (is : List Init) → above a is ≡ above_one a (slice_get is (length is - 1))
above_last a [] = refl
above_last a (i ∷ []) = refl
above_last a (i ∷ (j ∷ is)) =
    let e : length (i ∷ (j ∷ is)) - 1 ≡ suc (length (j ∷ is) - 1) = omega arith in
    above_last a (j ∷ is) ∙ sym (ap (λ n. above_one a (slice_get (i ∷ (j ∷ is)) n)) e)

pub above_asked : (a : ℕ) (is : List Init) (o : Option (Bor Init)) (r : Bool) (Answers : Bor Init → Type 0) → option_copied o ≡ slice_get is (length is - 1) → MatchOption o (IsTrue r) Answers → ((x : Bor Init) → Answers x → r ≡ ltb x.now.address a) → r ≡ above a is
above_asked a is None r Answers e h answer = h ∙ ap (above_one a) e ∙ sym (above_last a is)
above_asked a is (Some x) r Answers e h answer = answer x h ∙ ap (above_one a) e ∙ sym (above_last a is)
