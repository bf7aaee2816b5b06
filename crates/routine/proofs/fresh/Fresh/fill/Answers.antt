use Rattle.std.proofs.Common.{◌∙◌}
use Rattle.std.proofs.lemmas.Result.{err_from_is_err_and}
use Rattle.grammar.specs.Reads.{read_of}
use Rattle.routine.proofs.Reading.{read_ok, read_err, refused_grammar, accepted_grammar}
use Rattle.routine.proofs.fresh.Fresh.fill.Goals as goal

pub returns-in_err-read_text-clause-grammar : goal.returns-in_err-read_text-clause-grammar
returns-in_err-read_text-clause-grammar c =
    let p = err_from_is_err_and c.from_residual.result c.from_residual.ensures.1 in
    rw (p.1, p.2) (refused_grammar c.args.text.now _ _ (read_err (read_of c.args.text.now) _ _ c.in_err-read_text.ensures.read))

pub returns-clause-grammar : goal.returns-clause-grammar
returns-clause-grammar c =
    let q = read_ok (read_of c.args.text.now) _ c.in_ok-read_text.ensures.read in
    accepted_grammar c.args.text.now q.0 _ q.1 (c.hand_to.ensures ∙ q.2.listing)
