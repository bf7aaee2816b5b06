-- Which entries calls have accepted, by their answers.
use Rattle.std.proofs.Common.{◌≡◌, Bool, true, false, ltb, List, [], ◌∷◌, ◌++◌, length, sym, refl, ap, ◌∙◌, append_assoc, append-nil}
use Rattle.grammar.specs.Listings.{Listing}
use Rattle.orders.specs.declared.entries.Entry.{Entry}
use Rattle.tso.specs.Machine.{Turn, refused, moved, next}
use Rattle.thinning.specs.Pairs.{Pair, taken}
use Rattle.thinning.specs.Calls.{Double, limit, reply_to, called, replies, entry_fed, entries_fed}
use Rattle.thinning.specs.Promises.{AcceptedAsAnswered}
use Rattle.thinning.specs.declared.calls.Call.{Call}
use Rattle.thinning.specs.declared.calls.Call.TheVariants.{Feed, Close, Abandon}
use Rattle.thinning.proofs.Calling.{close_leaves, abandon_leaves, feeds_by}

accepted_by : (o : Listing) (e : Entry) (d : Pair) (x : Turn) → (taken o e d x).accepted ≡ d.accepted ++ entry_fed (Feed e) (reply_to x)
accepted_by o e d (refused n) = sym (append-nil d.accepted)
accepted_by o e d (moved u) = refl

once : (o t : Listing) (c : Call) (d : Double) → (called o t c d).left.pair.accepted ≡ d.pair.accepted ++ entry_fed c (called o t c d).reply
once o t (Feed e) d = go d.control.running (ltb (length d.pair.accepted) limit)
  where
    go : (a b : Bool) → (feeds_by o t e d a b).left.pair.accepted ≡ d.pair.accepted ++ entry_fed (Feed e) (feeds_by o t e d a b).reply
    go true true = accepted_by o e d.pair (next t e d.pair.thinned)
    go true false = sym (append-nil d.pair.accepted)
    go false b = sym (append-nil d.pair.accepted)
once o t (Close n) d = ap (λ (p : Pair). p.accepted) (close_leaves o t n d) ∙ sym (append-nil d.pair.accepted)
once o t (Abandon n) d = ap (λ (p : Pair). p.accepted) (abandon_leaves o t n d) ∙ sym (append-nil d.pair.accepted)

pub accepted_as_answered : AcceptedAsAnswered
accepted_as_answered o t [] d = sym (append-nil d.pair.accepted)
accepted_as_answered o t (c ∷ cs) d =
    accepted_as_answered o t cs (called o t c d).left
    ∙ ap (λ (xs : List Entry). xs ++ entries_fed cs (replies o t cs (called o t c d).left)) (once o t c d)
    ∙ append_assoc d.pair.accepted (entry_fed c (called o t c d).reply) (entries_fed cs (replies o t cs (called o t c d).left))
