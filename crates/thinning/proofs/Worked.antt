-- The worked examples, by marks that are computed.
use Rattle.std.proofs.Common.{◌≡◌, ℕ, Bool, true, List, [], ◌∷◌, map, length, get_or, Some, None, Option, refl, ap, ◌∙◌}
use Rattle.instructions.specs.declared.types.Init.{Init}
use Rattle.paths.specs.Paths.{Code}
use Rattle.grammar.specs.Listings.{Listing, code_at}
use Rattle.grammar.specs.Reads.{read_of}
use Rattle.memory.specs.Cells.{Cells}
use Rattle.orders.specs.declared.entries.Entry.{Entry}
use Rattle.tso.specs.Machine.{in_register, operand_value, newest}
use Rattle.tso.proofs.Worked as runs
use Rattle.thinning.specs.Pairs.{paired, fed_all}
use Rattle.thinning.specs.Examples.{Example, thins, retells, refuses, comes, alone, refusal, Stands, examples, Each, ExamplesHold}
use Rattle.paths.proofs.Worked.{forward, backward, closed?, thins_to}
use Rattle.paths.proofs.Decided.{sure, sure_out}
use Rattle.thinning.proofs.Positions.{inits_kept, count_kept}
use Rattle.thinning.proofs.Ahead.{nothing_held}

-- a routine of one party, by its parts
only_party : (c : Code) (is : List Init) (ps : List Code) → is ≡ [] → length ps ≡ 1 → get_or ps 0 [] ≡ c → record { inits = is; parties = ps } ≡ alone c
only_party c is [] h l e = cc
only_party c is (x ∷ []) h l e = let a : x ≡ c = e in cc
only_party c is (x ∷ (y ∷ ps)) h l e = cc

retells_to : (c d : Code) (es xs : List Entry) → Stands (thins c d) → ((m n : Cells) → (fed_all (alone c) (alone d) es (paired (alone c) (alone d) m n)).tape ≡ xs) → Stands (retells c es xs)
retells_to c d es xs h e f t th m n = ap (λ (l : Listing). (fed_all (alone c) l es (paired (alone c) l m n)).tape) is ∙ e m n
  where
    is : t ≡ alone d
    is = only_party d t.inits t.parties (inits_kept th) (count_kept th) (h (code_at f 0) (code_at t 0) (th.forward.each 0) (th.backward.each 0))

-- what computes for each example: whether the marks are closed, and what it comes to
abbrev Answer : Type 0
Answer = Bool × (Code × (List Entry × (Option ℕ × runs.Outcome)))

abbrev no_order : runs.Outcome
no_order = (None, [], [], [], [])

abbrev computed : Cells → Cells → Example → Answer
computed m n (thins c d) = (sure (closed? c), (backward (forward c), ([], (None, no_order))))
computed m n (retells c es xs) = (sure (closed? c), ([], ((fed_all (alone c) (alone (backward (forward c))) es (paired (alone c) (alone (backward (forward c))) m n)).tape, (None, no_order))))
computed m n (refuses text k) = (true, ([], ([], (refusal (read_of text), no_order))))
computed m n (comes c) = (true, ([], ([], (None, runs.computed c))))

abbrev wanted : Example → Answer
wanted (thins c d) = (true, (d, ([], (None, no_order))))
wanted (retells c es xs) = (true, ([], (xs, (None, no_order))))
wanted (refuses text k) = (true, ([], ([], (Some k, no_order))))
wanted (comes c) = (true, ([], ([], (None, runs.wanted c))))

stands : (x : Example) → ((m n : Cells) → computed m n x ≡ wanted x) → Stands x
stands (thins c d) h = let e = h nothing_held nothing_held in thins_to c d (sure_out (closed? c) (ap (λ y. y.0) e)) (ap (λ y. y.1.0) e)
stands (retells c es xs) h =
    retells_to c (backward (forward c)) es xs (thins_to c (backward (forward c)) (sure_out (closed? c) (ap (λ y. y.0) (h nothing_held nothing_held))) refl)
    (λ m n. ap (λ y. y.1.1.0) (h m n))
stands (refuses text k) h = ap (λ y. y.1.1.1.0) (h nothing_held nothing_held)
stands (comes c) h = runs.comes_to c (ap (λ y. y.1.1.1.1) (h nothing_held nothing_held))

same_heads : (f g : Example → Answer) (x : Example) (xs : List Example) → map f (x ∷ xs) ≡ map g (x ∷ xs) → (f x ≡ g x) × (map f xs ≡ map g xs)
same_heads f g x xs e = (cc, cc)

each : (xs : List Example) → ((m n : Cells) → map (computed m n) xs ≡ map wanted xs) → Each Stands xs
each [] h = tt
each (x ∷ xs) h = (stands x (λ m n. (same_heads (computed m n) wanted x xs (h m n)).0), each xs (λ m n. (same_heads (computed m n) wanted x xs (h m n)).1))

pub examples_hold : ExamplesHold
unfolding in_register operand_value newest
examples_hold = each examples (λ m n. refl)
