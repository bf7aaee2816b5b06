use Rattle.std.proofs.Common.{◌≡◌, length, ap, ◌∙◌, rules, tests, arith}
use Rattle.std.proofs.lemmas.Iterator.{YieldsList-from_slice}
use Rattle.std.proofs.lemmas.Iterator.Search.{all_from_yields_List}
use Rattle.grammar.specs.Listings.{target_within, targets_within}
use Rattle.routine.specs.Parties.{code_of}
use Rattle.routine.proofs.party.Party.stays_within.Goals as goal

pub returns : goal.returns
returns c =
    let code = code_of c.args.self.now in
    let end = c.len-end.result in
    let long : end ≡ length code = omega (arith, c.len-end.ensures, c.args.self.now.code.ok.0) in
    let by_call = all_from_yields_List (target_within end) _ _ _ c.all.ensures.ran (YieldsList-from_slice code cc) (λ x b q k. search (rules, tests)) in
    by_call ∙ ap (λ n. targets_within n code) long
