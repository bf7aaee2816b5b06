-- Pieces put together and cut again, and the bytes that lack a separator.
use Rattle.std.proofs.Common.{◌≡◌, ℕ, true, List, [], ◌∷◌, refl, ap, ◌∙◌, arith}
use Rattle.std.proofs.lemmas.Bool.{and_parts, and_from}
use Rattle.std.proofs.lemmas.Bool.Decides.{nat_tests}
use Rattle.fields.specs.Lines.{printable, all_printable}
use Rattle.fields.specs.Pieces.{pieces, joined_by, lacks, other}
use Rattle.fields.proofs.Cuts.{pieces_one, pieces_front}

abbrev pub AllLack : ℕ → List (List ℕ) → Type 0
AllLack sep [] = Unit {0}
AllLack sep (f ∷ fs) = (lacks sep f ≡ true) × AllLack sep fs

-- joining and cutting gives the pieces back
pub pieces-joined : (sep : ℕ) (f : List ℕ) (fs : List (List ℕ)) → AllLack sep (f ∷ fs) → pieces sep (joined_by sep (f ∷ fs)) ≡ f ∷ fs
pieces-joined sep f [] h = pieces_one sep f h.0
pieces-joined sep f (g ∷ fs) h = pieces_front sep f _ h.0 ∙ ap (λ l. f ∷ l) (pieces-joined sep g fs h.1)

-- no printable byte is byte 10
pub printable-lacks : (bs : List ℕ) → all_printable bs ≡ true → lacks 10 bs ≡ true
printable-lacks [] h = refl
printable-lacks (b ∷ bs) h =
    let p = and_parts (printable b) (all_printable bs) h in
    let one : other 10 b ≡ true = grind (arith, nat_tests) in
    and_from _ _ one (printable-lacks bs p.1)
