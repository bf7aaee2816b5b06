-- Addresses noted in their places.
use Rattle.std.proofs.Common.{◌≡◌, ℕ, zero, suc, ◌+◌, ◌-◌, ◌<◌, ◌≤◌, List, [], ◌∷◌, length, get_or, drop, Ok, Err, Result, sym, refl, ap, subst, ◌∙◌, ⊎_elim, arith}
use Rattle.std.specs.List.{insert}
use Rattle.std.specs.List.Sorted.{IsStrictlyIncreasing, IsBinarySearchResult}
use Rattle.std.specs.Ordering.{nat_cmp}
use Rattle.std.specs.Result.{MatchResult}
use Rattle.std.proofs.lemmas.Bool.{cases_lt}
use Rattle.std.proofs.lemmas.Bool.Decides.{nat_tests}
use Rattle.std.proofs.lemmas.List.{at_drop_more}
use Rattle.std.proofs.lemmas.List.Edits.{length-insert, get_or-insert_below, get_or-insert_at, get_or-insert_above}
use Rattle.std.proofs.lemmas.List.Sorted.{searched}
use Rattle.std.proofs.lemmas.Map.Keys.{sorted_from_strictly_increasing, below_from_sorted, non_decreasing_from_sorted}
use Rattle.std.proofs.lemmas.Result.{MatchResult-weaker, MatchResult-at_ok}
use Rattle.instructions.specs.declared.types.Init.{Init}
use Rattle.instructions.specs.declared.types.Instruction.{Instruction}
use Rattle.grammar.specs.Listings.{noted, noted_in, noted_inits, noted_code, noted_parties, address_in}
use Rattle.grammar.specs.declared.faults.RoutineFault.{RoutineFault}
use Rattle.grammar.specs.declared.faults.RoutineFault.TheVariants as fault
use Rattle.routine.specs.Addresses.{few_addresses}

-- at an address that is above the first, at it, and below it
noted-later : (a b : ℕ) (bs : List ℕ) → b < a → noted a (b ∷ bs) ≡ b ∷ noted a bs
noted-later a b bs h = grind (arith, nat_tests)

noted_same : (a b : ℕ) (bs : List ℕ) → b ≡ a → noted a (b ∷ bs) ≡ b ∷ bs
noted_same a b bs h = grind (arith, nat_tests)

noted_here : (a b : ℕ) (bs : List ℕ) → a < b → noted a (b ∷ bs) ≡ a ∷ (b ∷ bs)
noted_here a b bs h = grind (arith, nat_tests)

-- an address that stands there already
noted_standing : (a : ℕ) (bs : List ℕ) (place : ℕ) → IsStrictlyIncreasing bs → place < length bs → get_or bs place 0 ≡ a → noted a bs ≡ bs
noted_standing a [] place rising h e = absurd (omega arith)
noted_standing a (b ∷ bs) zero rising h e = noted_same a b bs e
noted_standing a (b ∷ bs) (suc n) rising h e =
    let low : b < get_or bs n 0 = below_from_sorted (b ∷ bs) 0 (suc n) 0 (sorted_from_strictly_increasing (b ∷ bs) rising) (omega arith) h in
    let rest : IsStrictlyIncreasing bs = λ k l. let e : suc k + 1 ≡ suc (k + 1) = omega arith in omega (arith, rising (suc k) (omega arith), ap (λ n. get_or (b ∷ bs) n 0) e) in
    noted-later a b bs (omega arith) ∙ ap (λ cs. b ∷ cs) (noted_standing a bs n rest (omega arith) e)

-- the address stands nowhere, and belongs at that place
record IsGap (a : ℕ) (bs : List ℕ) (place : ℕ) : Type 0 where
  within : place ≤ length bs
  below : (k : ℕ) → k < place → get_or bs k 0 < a
  over : (k : ℕ) → place ≤ k → k < length bs → a < get_or bs k 0

noted_absent : (a : ℕ) (bs : List ℕ) (place : ℕ) → IsGap a bs place → noted a bs ≡ insert bs place a
noted_absent a [] zero gap = refl
noted_absent a [] (suc n) gap = absurd (omega arith)
noted_absent a (b ∷ bs) zero gap = noted_here a b bs (gap.over 0 (omega arith) (omega arith))
noted_absent a (b ∷ bs) (suc n) gap =
    let rest : IsGap a bs n = record { within = omega arith; below = λ k l. gap.below (suc k) (omega arith); over = λ k l m. gap.over (suc k) (omega arith) (omega arith) } in
    noted-later a b bs (gap.below 0 (omega arith)) ∙ ap (λ cs. b ∷ cs) (noted_absent a bs n rest)

-- the list rises still
rising_inserted : (a : ℕ) (bs : List ℕ) (place : ℕ) → IsStrictlyIncreasing bs → IsGap a bs place → IsStrictlyIncreasing (insert bs place a)
rising_inserted a bs place rising gap k l =
    let within = gap.within in
    let long = length-insert bs place a within in
    grind (arith, get_or-insert_below bs place a 0, get_or-insert_at bs place a 0 within, get_or-insert_above bs place a 0 k, get_or-insert_above bs place a 0 (k - 1), rising k, rising (k - 1), gap.below k, gap.over k)

-- which lists of addresses are few enough
is_few : (bs : List ℕ) → length bs ≤ 32 → few_addresses bs ≡ Ok bs
is_few bs h = grind (arith, nat_tests)

too_many : (bs : List ℕ) → 32 < length bs → few_addresses bs ≡ Err fault.Addresses
too_many bs h = grind (arith, nat_tests)

-- what a search for an address among rising ones says of noting it
module _ (a : ℕ) (bs cs : List ℕ) (rising : IsStrictlyIncreasing bs) (same : cs ≡ bs) where
  searched_for : (r : Result ℕ ℕ) → IsBinarySearchResult (λ b. nat_cmp b a) cs r → MatchResult r (λ place. (place < length bs) × (get_or bs place 0 ≡ a)) (IsGap a bs)
  searched_for r found =
      let sorted = non_decreasing_from_sorted bs (sorted_from_strictly_increasing bs rising) in
      let position = subst (λ xs. IsBinarySearchResult (λ b. nat_cmp b a) xs r) same found in
      MatchResult-weaker r (searched bs a r position (λ i j l m. sorted i j 0 l m)) (λ place p. p) (λ place p. record { within = p.0; below = p.1; over = p.2 })

  pub found_few : (r : Result ℕ ℕ) (place : ℕ) → r ≡ Ok place → IsBinarySearchResult (λ b. nat_cmp b a) cs r → length bs ≤ 32 → few_addresses (noted a bs) ≡ Ok bs
  found_few r place is found few =
      let here = MatchResult-at_ok _ _ place is (searched_for r found) in
      let stays = noted_standing a bs place rising here.0 here.1 in
      ap few_addresses stays ∙ is_few bs few

  module _ (place : ℕ) (found : IsBinarySearchResult (λ b. nat_cmp b a) cs (Err place)) where
    missing_length : length (insert bs place a) ≡ length bs + 1
    missing_length = length-insert bs place a (searched_for (Err place) found).within

    missing_noted : noted a bs ≡ insert bs place a
    missing_noted = noted_absent a bs place (searched_for (Err place) found)

    pub missing_rising : IsStrictlyIncreasing (insert bs place a)
    missing_rising = rising_inserted a bs place rising (searched_for (Err place) found)

    pub missing_few : length bs < 32 → few_addresses (noted a bs) ≡ Ok (insert bs place a)
    missing_few few = ap few_addresses missing_noted ∙ is_few (insert bs place a) (omega (arith, missing_length))

    pub missing_over : 32 ≤ length bs → few_addresses (noted a bs) ≡ Err fault.Addresses
    missing_over full = ap few_addresses missing_noted ∙ too_many (insert bs place a) (omega (arith, missing_length))

-- nothing that was noted is lost
more_noted : (a : ℕ) (bs : List ℕ) → length bs ≤ length (noted a bs)
more_noted a [] = omega arith
more_noted a (b ∷ bs) = grind (arith, nat_tests, more_noted a bs)

pub more_inits : (is : List Init) (seen : List ℕ) → length seen ≤ length (noted_inits is seen)
more_inits [] seen = omega arith
more_inits (i ∷ is) seen = omega (arith, more_noted i.address seen, more_inits is (noted i.address seen))

more_in : (more seen : List ℕ) → length seen ≤ length (noted_in more seen)
more_in [] seen = omega arith
more_in (a ∷ more) seen = omega (arith, more_noted a seen, more_in more (noted a seen))

pub more_code : (is : List Instruction) (seen : List ℕ) → length seen ≤ length (noted_code is seen)
more_code [] seen = omega arith
more_code (i ∷ is) seen = omega (arith, more_in (address_in i) seen, more_code is (noted_in (address_in i) seen))

pub more_parties : (ps : List (List Instruction)) (seen : List ℕ) → length seen ≤ length (noted_parties ps seen)
more_parties [] seen = omega arith
more_parties (p ∷ ps) seen = omega (arith, more_code p seen, more_parties ps (noted_code p seen))

-- where there is no room for some, there is none for more
pub too_many_more : (bs more : List ℕ) (e : RoutineFault) → length bs ≤ length more → few_addresses bs ≡ Err e → few_addresses more ≡ Err e
too_many_more bs more e longer h =
    ⊎_elim
    (λ (over : 32 < length bs). too_many more (omega arith) ∙ sym (too_many bs over) ∙ h)
    (λ (few : length bs ≤ 32). let z : Ok bs ≡ Err e = sym (is_few bs few) ∙ h in cc)
    (cases_lt 32 (length bs))

-- a loop that notes the elements of a list in turn stops where there is no room for all
module _ {X : Type 0} (F : List X → List ℕ → List ℕ) (f : X → List ℕ → List ℕ) (go : (x : X) (xs : List X) (seen : List ℕ) → F (x ∷ xs) seen ≡ F xs (f x seen)) (more : (xs : List X) (seen : List ℕ) → length seen ≤ length (F xs seen)) (xs : List X) (i : ℕ) (seen whole : List ℕ) (inv : F (drop i xs) seen ≡ whole) where
  fold_step : (d : X) → i < length xs → F (drop (i + 1) xs) (f (get_or xs i d) seen) ≡ whole
  fold_step d h = sym (at_drop_more (λ ys. F ys seen) xs i d h ∙ go (get_or xs i d) (drop (i + 1) xs) seen) ∙ inv

  pub fold_over : (d : X) (e : RoutineFault) → i < length xs → few_addresses (f (get_or xs i d) seen) ≡ Err e → few_addresses whole ≡ Err e
  fold_over d e h over = too_many_more (f (get_or xs i d) seen) whole e (omega (arith, more (drop (i + 1) xs) (f (get_or xs i d) seen), ap length (fold_step d h))) over
