use Rattle.std.proofs.Common.{◌≡◌, ◌+◌, eqb, subst, sym, ◌∙◌, rules, tests, take}
use Rattle.std.specs.List.{position}
use Rattle.std.proofs.lemmas.Iterator.{YieldsList-from_slice}
use Rattle.std.proofs.lemmas.Iterator.Search.{position_from_yields_List}
use Rattle.std.proofs.lemmas.List.{take_rest}
use Rattle.fields.specs.Pieces.{IsSplit, SplitOnce}
use Rattle.fields.proofs.Cuts.{split_none, split_some}
use Rattle.fields.proofs.reader.split_once.Goals as goal

pub returns-in_err-at : goal.returns-in_err-at
returns-in_err-at c =
    let bs = c.args.bytes.now in
    let p : c.position.result ≡ position (λ b. eqb b c.args.separator) bs = position_from_yields_List (λ b. eqb b c.args.separator) _ _ c.position.result c.position.ensures.ran (YieldsList-from_slice bs (cc)) (λ x b q k. search (rules, tests)) in
    subst (SplitOnce c.args.separator bs) (sym c.from_residual.ensures) (split_none c.args.separator bs (sym p ∙ c.in_err-at.was))

pub returns : goal.returns
returns c =
    let bs = c.args.bytes.now in
    let p : c.position.result ≡ position (λ b. eqb b c.args.separator) bs = position_from_yields_List (λ b. eqb b c.args.separator) _ _ c.position.result c.position.ensures.ran (YieldsList-from_slice bs (cc)) (λ x b q k. search (rules, tests)) in
    let some = split_some c.args.separator c.in_ok-at.at bs (sym p ∙ c.in_ok-at.was) in
    subst (IsSplit c.args.separator bs (take c.in_ok-at.at bs)) (sym (take_rest bs (c.in_ok-at.at + 1))) some
