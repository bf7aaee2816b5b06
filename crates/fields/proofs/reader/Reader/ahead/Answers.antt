use Rattle.std.proofs.Common.{length, ap, refl, sym, ◌∙◌}
use Rattle.std.proofs.lemmas.List.{take_rest}
use Rattle.std.proofs.lemmas.Bool.{eqb-false}
use Rattle.fields.proofs.Answered.{ahead_line, ahead_unended}
use Rattle.fields.proofs.reader.Reader.ahead.Goals as goal

pub returns-in-Some-clause-is : goal.returns-in-Some-clause-is
returns-in-Some-clause-is c = ahead_line _ c.in-Some.bytes.now c.in-Some.field-0-1.now (rw take_rest at c.in-Some.ensures)

pub returns-in-None-2-clause-is : goal.returns-in-None-2-clause-is
returns-in-None-2-clause-is c =
    let cut = take_rest c.args.self.now.text.now c.args.self.now.next in
    (refl, ahead_unended _ (λ e. eqb-false _ _ (sym c.if-is_empty.ensures) (ap length cut ∙ e)) (rw take_rest at c.in-None.ensures))
