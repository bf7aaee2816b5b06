-- How a run, what it leaves behind, and a count of entries grow by one entry; what a front of an order does.
use Rattle.std.proofs.Common.{◌≡◌, ℕ, zero, suc, ◌+◌, cond, List, [], ◌∷◌, ◌++◌, take, Some, refl, ap, ◌∙◌, append_assoc, append-nil, arith}
use Rattle.grammar.specs.Listings.{Listing}
use Rattle.orders.specs.declared.entries.Entry.{Entry}
use Rattle.tso.specs.Machine.{State, Turn, refused, moved, next, runs}
use Rattle.tso.specs.Traces.{gathered, occurs, same_entry}
use Rattle.tso.specs.Outcomes.{restricted, restricted_turn}
use Rattle.tso.proofs.Restriction.{next-restricted}

pub runs-snoc : (l : Listing) (es : List Entry) (e : Entry) (s u v : State) → runs l es s ≡ Some u → next l e u ≡ moved v → runs l (es ++ (e ∷ [])) s ≡ Some v
runs-snoc l [] e s u v h k = let g : s ≡ u = cc in let m : next l e s ≡ moved v = rw g k in cc
runs-snoc l (x ∷ es) e s u v h k = go (λ y. runs-snoc l es e y u v) (next l x s) refl
  where
    go : ((y : State) → runs l es y ≡ Some u → next l e u ≡ moved v → runs l (es ++ (e ∷ [])) y ≡ Some v)
        → (t : Turn) → next l x s ≡ t → runs l ((x ∷ es) ++ (e ∷ [])) s ≡ Some v
    go ih (refused n) q = cc
    go ih (moved y) q = let b : runs l es y ≡ Some u = cc in let c = ih y b k in cc

pub gathered_snoc : {X : Type 0} (f : Entry → State → List X) (l : Listing) (es : List Entry) (e : Entry) (s u v : State)
    → runs l es s ≡ Some u → next l e u ≡ moved v → gathered f l (es ++ (e ∷ [])) s ≡ gathered f l es s ++ f e u
gathered_snoc f l [] e s u v h k = let g : s ≡ u = cc in let m : next l e s ≡ moved v = rw g k in cc (append-nil (f e s))
gathered_snoc f l (x ∷ es) e s u v h k = go (λ y. gathered_snoc f l es e y u v) (next l x s) refl
  where
    go : ((y : State) → runs l es y ≡ Some u → next l e u ≡ moved v → gathered f l (es ++ (e ∷ [])) y ≡ gathered f l es y ++ f e u)
        → (t : Turn) → next l x s ≡ t → gathered f l ((x ∷ es) ++ (e ∷ [])) s ≡ gathered f l (x ∷ es) s ++ f e u
    go ih (refused n) q = cc
    go ih (moved y) q = let b : runs l es y ≡ Some u = cc in let c = ih y b k in cc (append_assoc (f x s) (gathered f l es y) (f e u))

pub occurs-snoc : (e x : Entry) (xs : List Entry) → occurs e (xs ++ (x ∷ [])) ≡ occurs e xs + cond (same_entry e x) 1 0
occurs-snoc e x [] = omega arith
occurs-snoc e x (y ∷ xs) = omega (arith, occurs-snoc e x xs)

-- what is gathered from the parties alone does not depend on the words outside the routine's addresses
pub gathered-restricted : {X : Type 0} (f : Entry → State → List X) (l : Listing) → ((e : Entry) (s : State) → f e (restricted l s) ≡ f e s)
    → (es : List Entry) (s : State) → gathered f l es (restricted l s) ≡ gathered f l es s
gathered-restricted f l same [] s = refl
gathered-restricted f l same (e ∷ es) s = go (gathered-restricted f l same es) (next l e s) refl
  where
    go : ((y : State) → gathered f l es (restricted l y) ≡ gathered f l es y) → (t : Turn) → next l e s ≡ t → gathered f l (e ∷ es) (restricted l s) ≡ gathered f l (e ∷ es) s
    go ih (refused n) q = let a = next-restricted l e s in let b : next l e (restricted l s) ≡ refused n = a ∙ ap (restricted_turn l) q in cc
    go ih (moved y) q = let a = next-restricted l e s in let b : next l e (restricted l s) ≡ moved (restricted l y) = a ∙ ap (restricted_turn l) q in let c = ih y in let d = same e s in cc

-- a front of an accepted order is accepted
pub runs_front : (l : Listing) (k : ℕ) (es : List Entry) (s u : State) → runs l es s ≡ Some u → (v : State) × (runs l (take k es) s ≡ Some v)
runs_front l zero es s u h = (s, refl)
runs_front l (suc k) [] s u h = (s, refl)
runs_front l (suc k) (e ∷ es) s u h = go (λ y. runs_front l k es y u) (next l e s) refl
  where
    go : ((y : State) → runs l es y ≡ Some u → (v : State) × (runs l (take k es) y ≡ Some v)) → (t : Turn) → next l e s ≡ t → (v : State) × (runs l (take (suc k) (e ∷ es)) s ≡ Some v)
    go ih (refused c) q = cc
    go ih (moved y) q = let b : runs l es y ≡ Some u = cc in let x = ih y b in let c = x.1 in (x.0, cc)
