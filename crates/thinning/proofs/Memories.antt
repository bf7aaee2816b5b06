-- What an order does over one memory it does over every other that holds the routine's addresses.
use Rattle.std.proofs.Common.{◌≡◌, ℕ, List, take, Some, None, Option, sym, refl, ap, ◌∙◌}
use Rattle.grammar.specs.Listings.{Listing, addresses_of}
use Rattle.memory.specs.Cells.{Cells}
use Rattle.orders.specs.declared.entries.Entry.{Entry}
use Rattle.orders.specs.declared.entries.Entry.TheVariants.{Step, Drain}
use Rattle.passes.specs.Passes.{ThinnedFrom}
use Rattle.tso.specs.Machine.{State, runs}
use Rattle.tso.specs.Openings.{Holds, missing, opening, AcceptsTo, member}
use Rattle.tso.specs.Outcomes.{within, restricted}
use Rattle.tso.specs.Traces.{gathered, stood_at, steps_of, arriving, arrivals_of}
use Rattle.tso.proofs.Restriction.{within_at, restricted_end, runs-restricted, openings_alike}
use Rattle.thinning.specs.Comparing.{SameWords, Agree}
use Rattle.thinning.specs.Promises.{OrdersKept}
use Rattle.thinning.proofs.Growing.{gathered-restricted, runs_front}
use Rattle.thinning.proofs.Positions.{addresses_kept, opening_kept}
use Rattle.thinning.proofs.Accepting.{runs_kept}

-- words that are the same within the routine's addresses
pub same_words : (l : Listing) (m n : Cells) → within (addresses_of l) m ≡ within (addresses_of l) n → SameWords l m n
same_words l m n h a k = sym (within_at (addresses_of l) m a k) ∙ ap (λ (x : Cells). x a) h ∙ within_at (addresses_of l) n a k

pub agree_restricted : (l : Listing) (s u : State) → restricted l s ≡ restricted l u → Agree l s u
agree_restricted l s u h =
    record {
      parties = λ p. ap (λ (x : State). x.party p) h;
      words = same_words l s.words u.words (ap (λ (x : State). x.words) h);
    }

pub runs-over : (l : Listing) (f g : Cells) → Holds f l → Holds g l → (es : List Entry) (u : State) → AcceptsTo l f es u → (v : State) × AcceptsTo l g es v × Agree l u v
runs-over l f g hf hg es u h = go (runs l es (opening l g)) refl
  where
    same : restricted_end l (runs l es (opening l g)) ≡ Some (restricted l u)
    same = sym (runs-restricted l es (opening l g)) ∙ ap (runs l es) (openings_alike l g f hg hf) ∙ runs-restricted l es (opening l f) ∙ ap (restricted_end l) h

    go : (x : Option State) → runs l es (opening l g) ≡ x → (v : State) × AcceptsTo l g es v × Agree l u v
    go None e = let a : restricted_end l None ≡ Some (restricted l u) = ap (restricted_end l) (sym e) ∙ same in cc
    go (Some v) e =
        let a : restricted_end l (Some v) ≡ Some (restricted l u) = ap (restricted_end l) (sym e) ∙ same in
        let b : restricted l u ≡ restricted l v = cc in
        (v, e, agree_restricted l u v b)

-- what an order leaves behind depends on the parties alone
gathered-over : {X : Type 0} (f : Entry → State → List X) (l : Listing) → ((e : Entry) (s : State) → f e (restricted l s) ≡ f e s)
    → (m n : Cells) → Holds m l → Holds n l → (es : List Entry) → gathered f l es (opening l m) ≡ gathered f l es (opening l n)
gathered-over f l same m n hm hn es =
    sym (gathered-restricted f l same es (opening l m)) ∙ ap (gathered f l es) (openings_alike l m n hm hn) ∙ gathered-restricted f l same es (opening l n)

pub steps_over : (p : ℕ) (l : Listing) (m n : Cells) → Holds m l → Holds n l → (es : List Entry) → steps_of p l es (opening l m) ≡ steps_of p l es (opening l n)
steps_over p l = gathered-over (stood_at p) l same
  where
    same : (e : Entry) (s : State) → stood_at p e (restricted l s) ≡ stood_at p e s
    same (Step q) s = refl
    same (Drain q) s = refl

pub arrivals_over : (l : Listing) (m n : Cells) → Holds m l → Holds n l → (es : List Entry) → arrivals_of l es (opening l m) ≡ arrivals_of l es (opening l n)
arrivals_over l = gathered-over (arriving l) l same
  where
    same : (e : Entry) (s : State) → arriving l e (restricted l s) ≡ arriving l e s
    same (Step q) s = refl
    same (Drain q) s = refl

-- a memory holds the addresses of both routines or of neither
pub holds_thinned : {o f t : Listing} → ThinnedFrom o f t → (m : Cells) → Holds m o → Holds m t
holds_thinned th m h = ap (missing m) (addresses_kept th) ∙ h

pub holds_original : {o f t : Listing} → ThinnedFrom o f t → (m : Cells) → Holds m t → Holds m o
holds_original th m h = ap (missing m) (sym (addresses_kept th)) ∙ h

pub agree_kept : {o f t : Listing} → ThinnedFrom o f t → (s u : State) → Agree t s u → Agree o s u
agree_kept th s u x = record { parties = x.parties; words = λ a h. x.words a (ap (member a) (addresses_kept th) ∙ h) }

pub orders_kept : OrdersKept
orders_kept o f t th m n hm hn es u h k =
    let front = runs_front o k es (opening o m) u h in
    let kept = runs_kept th (take k es) (opening o m) front.0 front.1 in
    let over = runs-over t m n (holds_thinned th m hm) hn (take k es) front.0 (ap (runs t (take k es)) (opening_kept th m) ∙ kept) in
    record {
      original = front.0;
      thinned = over.0;
      original_accepts = front.1;
      thinned_accepts = over.1;
      agree = agree_kept th front.0 over.0 over.2;
    }
