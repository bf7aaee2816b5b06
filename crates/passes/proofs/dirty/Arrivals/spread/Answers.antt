use Rattle.std.proofs.Common.{ap, inl, inr, sym, ◌∙◌}
use Rattle.passes.proofs.Leading.{follows}
use Rattle.passes.proofs.dirty.Arrivals.spread.Goals as goal

pub raise-raised-requires : goal.raise-raised-requires
raise-raised-requires c = c.args.step.within _ (follows c.args.step.instruction c.args.step.k _ (inl (ap (λ n. n.0) c.next_of-first.ensures)))

pub raise-raised-requires-in-Some : goal.raise-raised-requires-in-Some
raise-raised-requires-in-Some c =
    c.args.step.within _ (follows c.args.step.instruction c.args.step.k _ (inr (sym (ap (λ n. n.1) c.next_of-first.ensures) ∙ c.in-Some.is)))
