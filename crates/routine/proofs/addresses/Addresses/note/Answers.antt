use Rattle.std.proofs.Common.{◌≡◌, Ok, vec_items, sym, ap, subst, ◌∙◌, arith}
use Rattle.std.specs.List.{insert}
use Rattle.std.specs.List.Sorted.{IsStrictlyIncreasing}
use Rattle.std.proofs.lemmas.Bool.{cond-true}
use Rattle.routine.proofs.Noting.{found_few, missing_rising, missing_few, missing_over}
use Rattle.routine.proofs.addresses.Addresses.note.Goals as goal

pub invariant_of-self-clause-rising : goal.invariant_of-self-clause-rising
invariant_of-self-clause-rising c =
    let list = c.args.self.now.list in
    let new : vec_items c.insert.new.self ≡ insert (vec_items list) c.in-Err.place c.args.address = c.insert.ensures.items ∙ cond-true _ _ _ (c.insert.ensures.succeeds (omega arith)) in
    subst IsStrictlyIncreasing (sym new) (missing_rising c.args.address (vec_items list) _ c.args.self.now.rising c.deref.ensures.value c.in-Err.place c.in-Err.ensures.position)

pub returns-then-len-ge-MOST_ADDRESSES-clause-noted : goal.returns-then-len-ge-MOST_ADDRESSES-clause-noted
returns-then-len-ge-MOST_ADDRESSES-clause-noted c =
    let list = c.args.self.now.list in
    missing_over c.args.address (vec_items list) _ c.args.self.now.rising c.deref.ensures.value c.in-Err.place c.in-Err.ensures.position (omega (arith, list.ok.0))

pub returns-else-len-ge-MOST_ADDRESSES-clause-noted : goal.returns-else-len-ge-MOST_ADDRESSES-clause-noted
returns-else-len-ge-MOST_ADDRESSES-clause-noted c =
    let list = c.args.self.now.list in
    let new : vec_items c.insert.new.self ≡ insert (vec_items list) c.in-Err.place c.args.address = c.insert.ensures.items ∙ cond-true _ _ _ (c.insert.ensures.succeeds (omega arith)) in
    missing_few c.args.address (vec_items list) _ c.args.self.now.rising c.deref.ensures.value c.in-Err.place c.in-Err.ensures.position (omega (arith, list.ok.0)) ∙ ap (λ bs. Ok bs) (sym new)

pub returns-in_default-clause-noted : goal.returns-in_default-clause-noted
returns-in_default-clause-noted c =
    let list = c.args.self.now.list in
    found_few c.args.address (vec_items list) _ c.args.self.now.rising c.deref.ensures.value _ c.in_default.field-0 c.in_default.is c.binary_search.ensures.position (omega (arith, list.ok.0))
