-- The addresses that a routine's lines name are among its addresses.
use Rattle.std.proofs.Common.{◌≡◌, ℕ, zero, suc, Bool, true, false, cond, ◌||◌, eqb, ltb, ◌⊎◌, List, [], ◌∷◌, get_or, Some, sym, refl, subst, inl, inr, ⊎_elim}
use Rattle.std.proofs.lemmas.Bool.{eq-eqb, eqb-true, or_left, or_right, or_cases}
use Rattle.instructions.specs.declared.types.Init.{Init}
use Rattle.instructions.specs.declared.types.Instruction.{Instruction}
use Rattle.grammar.specs.Listings.{Listing, code_at, address_in, noted, noted_inits, noted_in, noted_code, noted_parties, addresses_of}
use Rattle.paths.specs.Paths.{fetch}
use Rattle.tso.specs.Openings.{member}
use Rattle.tso.specs.Outcomes.{InInits, Names, by_init, by_instruction, AddressesAreNamed}

or_more : (b x y : Bool) → (x ≡ true → y ≡ true) → (b || x) ≡ true → (b || y) ≡ true
or_more true x y f h = refl
or_more false x y f h = f h

noted_has : (a : ℕ) (xs : List ℕ) → member a (noted a xs) ≡ true
noted_has a [] = or_left (eqb a a) false (eq-eqb a a refl)
noted_has a (b ∷ bs) = go (noted_has a bs) (ltb a b) (eqb a b) refl
  where
    go : member a (noted a bs) ≡ true → (c d : Bool) → eqb a b ≡ d → member a (cond c (a ∷ (b ∷ bs)) (cond d (b ∷ bs) (b ∷ noted a bs))) ≡ true
    go ih true d e = or_left (eqb a a) (member a (b ∷ bs)) (eq-eqb a a refl)
    go ih false true e = or_left (eqb a b) (member a bs) e
    go ih false false e = or_right (eqb a b) (member a (noted a bs)) ih

noted_keeps : (a k : ℕ) (xs : List ℕ) → member k xs ≡ true → member k (noted a xs) ≡ true
noted_keeps a k [] h = cc
noted_keeps a k (b ∷ bs) h = go (noted_keeps a k bs) (ltb a b) (eqb a b)
  where
    go : (member k bs ≡ true → member k (noted a bs) ≡ true) → (c d : Bool) → member k (cond c (a ∷ (b ∷ bs)) (cond d (b ∷ bs) (b ∷ noted a bs))) ≡ true
    go ih true d = or_right (eqb k a) (member k (b ∷ bs)) h
    go ih false true = h
    go ih false false = or_more (eqb k b) (member k bs) (member k (noted a bs)) ih h

-- what was noted stays
noted_inits_keeps : (k : ℕ) (is : List Init) (xs : List ℕ) → member k xs ≡ true → member k (noted_inits is xs) ≡ true
noted_inits_keeps k [] xs h = h
noted_inits_keeps k (i ∷ is) xs h = noted_inits_keeps k is (noted i.address xs) (noted_keeps i.address k xs h)

noted_in_keeps : (k : ℕ) (ns xs : List ℕ) → member k xs ≡ true → member k (noted_in ns xs) ≡ true
noted_in_keeps k [] xs h = h
noted_in_keeps k (a ∷ ns) xs h = noted_in_keeps k ns (noted a xs) (noted_keeps a k xs h)

noted_code_keeps : (k : ℕ) (is : List Instruction) (xs : List ℕ) → member k xs ≡ true → member k (noted_code is xs) ≡ true
noted_code_keeps k [] xs h = h
noted_code_keeps k (i ∷ is) xs h = noted_code_keeps k is (noted_in (address_in i) xs) (noted_in_keeps k (address_in i) xs h)

noted_parties_keeps : (k : ℕ) (ps : List (List Instruction)) (xs : List ℕ) → member k xs ≡ true → member k (noted_parties ps xs) ≡ true
noted_parties_keeps k [] xs h = h
noted_parties_keeps k (p ∷ ps) xs h = noted_parties_keeps k ps (noted_code p xs) (noted_code_keeps k p xs h)

-- and what is named is noted
noted_in_has : (k : ℕ) (ns xs : List ℕ) → member k ns ≡ true → member k (noted_in ns xs) ≡ true
noted_in_has k [] xs h = cc
noted_in_has k (a ∷ ns) xs h = go (noted_in_has k ns (noted a xs)) (eqb k a) refl h
  where
    go : (member k ns ≡ true → member k (noted_in ns (noted a xs)) ≡ true) → (b : Bool) → eqb k a ≡ b → (b || member k ns) ≡ true → member k (noted_in ns (noted a xs)) ≡ true
    go ih true e h = noted_in_keeps k ns (noted a xs) (let q = eqb-true k a e in rw q (noted_has a xs))
    go ih false e h = ih h

noted_code_has : (k : ℕ) (is : List Instruction) (n : ℕ) (i : Instruction) (xs : List ℕ) → fetch is n ≡ Some i → member k (address_in i) ≡ true → member k (noted_code is xs) ≡ true
noted_code_has k [] n i xs e h = cc
noted_code_has k (j ∷ is) zero i xs e h = noted_code_keeps k is (noted_in (address_in j) xs) (noted_in_has k (address_in j) xs (let q : i ≡ j = cc in rw q at h))
noted_code_has k (j ∷ is) (suc n) i xs e h = noted_code_has k is n i (noted_in (address_in j) xs) e h

noted_parties_has : (k : ℕ) (ps : List (List Instruction)) (p n : ℕ) (i : Instruction) (xs : List ℕ) → fetch (get_or ps p []) n ≡ Some i → member k (address_in i) ≡ true → member k (noted_parties ps xs) ≡ true
noted_parties_has k [] p n i xs e h = cc
noted_parties_has k (c ∷ ps) zero n i xs e h = noted_parties_keeps k ps (noted_code c xs) (noted_code_has k c n i xs e h)
noted_parties_has k (c ∷ ps) (suc p) n i xs e h = noted_parties_has k ps p n i (noted_code c xs) e h

-- the address of the instruction, if it has one, is in the list
abbrev pub Named : List ℕ → Instruction → Type 0
Named ks i = (k : ℕ) → member k (address_in i) ≡ true → member k ks ≡ true

-- the address of an instruction that stands in the routine is one of the routine's
pub fetched_named : (l : Listing) (p n : ℕ) (i : Instruction) → fetch (code_at l p) n ≡ Some i → Named (addresses_of l) i
fetched_named l p n i e k h = noted_parties_has k l.parties p n i (noted_inits l.inits []) e h

noted_inits_has : (k : ℕ) (is : List Init) (xs : List ℕ) → InInits k is → member k (noted_inits is xs) ≡ true
noted_inits_has k [] xs h = absurd h
noted_inits_has k (i ∷ is) xs (inl e) = noted_inits_keeps k is (noted i.address xs) (subst (λ (a : ℕ). member a (noted i.address xs) ≡ true) e (noted_has i.address xs))
noted_inits_has k (i ∷ is) xs (inr h) = noted_inits_has k is (noted i.address xs) h

-- nothing else is noted
noted_only : (a k : ℕ) (xs : List ℕ) → member k (noted a xs) ≡ true → (a ≡ k) ⊎ (member k xs ≡ true)
noted_only a k [] h = go (or_cases (eqb k a) false h)
  where
    go : (eqb k a ≡ true) ⊎ (false ≡ true) → (a ≡ k) ⊎ (false ≡ true)
    go (inl e) = inl (sym (eqb-true k a e))
    go (inr e) = inr e
noted_only a k (b ∷ bs) h = go (noted_only a k bs) (ltb a b) (eqb a b) h
  where
    first : (eqb k a ≡ true) ⊎ (member k (b ∷ bs) ≡ true) → (a ≡ k) ⊎ (member k (b ∷ bs) ≡ true)
    first (inl e) = inl (sym (eqb-true k a e))
    first (inr m) = inr m

    rest : (member k (noted a bs) ≡ true → (a ≡ k) ⊎ (member k bs ≡ true)) → (eqb k b ≡ true) ⊎ (member k (noted a bs) ≡ true) → (a ≡ k) ⊎ (member k (b ∷ bs) ≡ true)
    rest ih (inl e) = inr (or_left (eqb k b) (member k bs) e)
    rest ih (inr m) = ⊎_elim (λ (e : a ≡ k). inl e) (λ (y : member k bs ≡ true). inr (or_right (eqb k b) (member k bs) y)) (ih m)

    go : (member k (noted a bs) ≡ true → (a ≡ k) ⊎ (member k bs ≡ true)) → (c d : Bool) → member k (cond c (a ∷ (b ∷ bs)) (cond d (b ∷ bs) (b ∷ noted a bs))) ≡ true → (a ≡ k) ⊎ (member k (b ∷ bs) ≡ true)
    go ih true d m = first (or_cases (eqb k a) (member k (b ∷ bs)) m)
    go ih false true m = inr m
    go ih false false m = rest ih (or_cases (eqb k b) (member k (noted a bs)) m)

noted_in_only : (k : ℕ) (ns xs : List ℕ) → member k (noted_in ns xs) ≡ true → (member k ns ≡ true) ⊎ (member k xs ≡ true)
noted_in_only k [] xs h = inr h
noted_in_only k (n ∷ ns) xs h = go (noted_in_only k ns (noted n xs) h)
  where
    last : (n ≡ k) ⊎ (member k xs ≡ true) → (member k (n ∷ ns) ≡ true) ⊎ (member k xs ≡ true)
    last (inl e) = inl (or_left (eqb k n) (member k ns) (eq-eqb k n (sym e)))
    last (inr m) = inr m

    go : (member k ns ≡ true) ⊎ (member k (noted n xs) ≡ true) → (member k (n ∷ ns) ≡ true) ⊎ (member k xs ≡ true)
    go (inl m) = inl (or_right (eqb k n) (member k ns) m)
    go (inr m) = last (noted_only n k xs m)

noted_inits_only : (k : ℕ) (is : List Init) (xs : List ℕ) → member k (noted_inits is xs) ≡ true → InInits k is ⊎ (member k xs ≡ true)
noted_inits_only k [] xs h = inr h
noted_inits_only k (i ∷ is) xs h = go (noted_inits_only k is (noted i.address xs) h)
  where
    last : (i.address ≡ k) ⊎ (member k xs ≡ true) → InInits k (i ∷ is) ⊎ (member k xs ≡ true)
    last (inl e) = inl (inl e)
    last (inr m) = inr m

    go : InInits k is ⊎ (member k (noted i.address xs) ≡ true) → InInits k (i ∷ is) ⊎ (member k xs ≡ true)
    go (inl m) = inl (inr m)
    go (inr m) = last (noted_only i.address k xs m)

-- the address stands in an instruction of the code
record In (k : ℕ) (is : List Instruction) : Type 0 where
  pub position : ℕ
  pub i : Instruction
  pub at : fetch is position ≡ Some i
  pub has : member k (address_in i) ≡ true

record InParties (k : ℕ) (ps : List (List Instruction)) : Type 0 where
  pub party : ℕ
  pub code : In k (get_or ps party [])

noted_code_only : (k : ℕ) (is : List Instruction) (xs : List ℕ) → member k (noted_code is xs) ≡ true → In k is ⊎ (member k xs ≡ true)
noted_code_only k [] xs h = inr h
noted_code_only k (i ∷ is) xs h = go (noted_code_only k is (noted_in (address_in i) xs) h)
  where
    last : (member k (address_in i) ≡ true) ⊎ (member k xs ≡ true) → In k (i ∷ is) ⊎ (member k xs ≡ true)
    last (inl m) = inl (record { position = 0; i = i; at = refl; has = m })
    last (inr m) = inr m

    go : In k is ⊎ (member k (noted_in (address_in i) xs) ≡ true) → In k (i ∷ is) ⊎ (member k xs ≡ true)
    go (inl x) = inl (record { position = suc x.position; i = x.i; at = x.at; has = x.has })
    go (inr m) = last (noted_in_only k (address_in i) xs m)

noted_parties_only : (k : ℕ) (ps : List (List Instruction)) (xs : List ℕ) → member k (noted_parties ps xs) ≡ true → InParties k ps ⊎ (member k xs ≡ true)
noted_parties_only k [] xs h = inr h
noted_parties_only k (p ∷ ps) xs h = go (noted_parties_only k ps (noted_code p xs) h)
  where
    last : In k p ⊎ (member k xs ≡ true) → InParties k (p ∷ ps) ⊎ (member k xs ≡ true)
    last (inl x) = inl (record { party = 0; code = x })
    last (inr m) = inr m

    go : InParties k ps ⊎ (member k (noted_code p xs) ≡ true) → InParties k (p ∷ ps) ⊎ (member k xs ≡ true)
    go (inl x) = inl (record { party = suc x.party; code = x.code })
    go (inr m) = last (noted_code_only k p xs m)

pub addresses_are_named : AddressesAreNamed
addresses_are_named l a = (λ m. in_parties_lem (noted_parties_only a l.parties (noted_inits l.inits []) m), has)
  where
    in_inits : InInits a l.inits ⊎ (false ≡ true) → Names l a
    in_inits (inl h) = by_init h
    in_inits (inr e) = cc

    in_parties_lem : InParties a l.parties ⊎ (member a (noted_inits l.inits []) ≡ true) → Names l a
    in_parties_lem (inl x) = by_instruction x.party x.code.position x.code.i x.code.at x.code.has
    in_parties_lem (inr m) = in_inits (noted_inits_only a l.inits [] m)

    has : Names l a → member a (addresses_of l) ≡ true
    has (by_init h) = noted_parties_keeps a l.parties (noted_inits l.inits []) (noted_inits_has a l.inits [] h)
    has (by_instruction p k i e m) = fetched_named l p k i e a m
