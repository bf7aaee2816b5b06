use Rattle.std.proofs.Common.{length, ap, ◌∙◌, subst, arith}
use Rattle.std.proofs.lemmas.List.{length-map}
use Rattle.grammar.specs.Listings.{party_lawful}
use Rattle.instructions.specs.Thinning.{thin_from}
use Rattle.paths.specs.Rules.{TakenOut}
use Rattle.routine.specs.Parties.{code_of}
use Rattle.routine.specs.Routines.{listing}
use Rattle.routine.specs.Thins.{marked}
use Rattle.passes.specs.Passes.{RuleOf}
use Rattle.passes.proofs.Applied.{partly_more, partly_all, party_lawful_lem, read_code}
use Rattle.passes.proofs.thinning.apply.Goals as goal

pub invariant_of-staying : goal.invariant_of-staying
invariant_of-staying g c =
    let r = c.args.from.now in
    let ps = c.parties-party-items.result.now in
    let all = c.parties-party-items.ensures in
    let e = c.code-instructions.ensures ∙ read_code ps (listing r).parties c.loop-number.number c.party-item.result all c.loop-number-test.true c.party-item.is in
    ap party_lawful e ∙ party_lawful_lem (listing r) c.loop-number.number r.within_limits (omega (arith, c.loop-number-test.true, ap length all, length-map ps code_of))

pub loop-number-preserved : goal.loop-number-preserved
loop-number-preserved g c =
    let pass = g.R.Rule.pass in
    let r = c.args.from.now in
    let ps = c.parties-party-items.result.now in
    let all = c.parties-party-items.ensures in
    let e = c.code-instructions.ensures ∙ read_code ps (listing r).parties c.loop-number.number c.party-item.result all c.loop-number-test.true c.party-item.is in
    let marks = marked c.staying.result in
    partly_more pass (listing r) (listing c.loop-number.into) (listing c.thin.new.self) c.loop-number.number marks (omega (arith, c.loop-number-test.true, ap length all, length-map ps code_of)) c.loop-number.invariant c.thin.ensures
    (subst (λ is. TakenOut (RuleOf pass is) is (thin_from marks 0 is)) e c.staying.ensures)

pub returns : goal.returns
returns g c =
    let r = c.args.from.now in
    let ps = c.parties-party-items.result.now in
    partly_all g.R.Rule.pass (listing r) (listing c.loop-number.into) c.loop-number.number (omega (arith, c.loop-number-test.false, ap length c.parties-party-items.ensures, length-map ps code_of)) c.loop-number.invariant
