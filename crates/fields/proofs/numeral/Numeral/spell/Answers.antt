use Rattle.std.proofs.Common.{◌+◌, ◌-◌, ◌%◌, ◌^◌, ◌<◌, ◌≤◌, length, refl, ◌∙◌, append-nil, arith}
use Rattle.std.proofs.lemmas.Fmt.{length-decimal-le, decimal_nonempty}
use Rattle.std.proofs.lemmas.List.{length-set}
use Rattle.fields.proofs.Figures.{last_figure, more_figures}
use Rattle.fields.proofs.numeral.Numeral.spell.Goals as goal

pub returns : goal.returns
returns c = last_figure c.loop-rest.rest c.loop-rest.start c.loop-rest.digits c.args.n c.loop-rest-test.false c.loop-rest.invariant.1 (omega (arith, c.loop-rest.invariant.2, c.loop-rest.invariant.3)) c.loop-rest.invariant.0

pub loop-rest-init : goal.loop-rest-init
loop-rest-init c =
    let small : c.args.n < 2 ^ 32 = omega (arith, c.ranges.n) in
    (append-nil _, length-decimal-le 10 c.args.n (omega arith) (omega arith) (omega arith), omega arith, refl, small)

pub overflow_sub-start : goal.overflow_sub-start
overflow_sub-start c = omega (arith, c.loop-rest.invariant.1, decimal_nonempty c.loop-rest.rest (omega (arith, c.loop-rest.invariant.4)))

pub overflow_sub-start-2 : goal.overflow_sub-start-2
overflow_sub-start-2 c = omega (arith, c.loop-rest.invariant.1, decimal_nonempty c.loop-rest.rest (omega (arith, c.loop-rest.invariant.4)))

pub loop-rest-preserved : goal.loop-rest-preserved
loop-rest-preserved c =
    let low : c.loop-rest.start ≤ length c.loop-rest.digits = omega (arith, c.loop-rest.invariant.2, c.loop-rest.invariant.3) in
    let p = more_figures c.loop-rest.rest c.loop-rest.start c.loop-rest.digits c.args.n c.loop-rest-test.true (omega (arith, c.loop-rest.invariant.4)) c.loop-rest.invariant.1 low c.loop-rest.invariant.0 in
    (p.0, p.1, omega (arith, c.loop-rest.invariant.2), length-set c.loop-rest.digits (c.loop-rest.start - 1) (48 + c.loop-rest.rest % 10) ∙ c.loop-rest.invariant.3, p.2)
