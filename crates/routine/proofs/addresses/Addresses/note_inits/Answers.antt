use Rattle.std.proofs.Common.{refl}
use Rattle.std.proofs.lemmas.Result.{err_from_is_err_and}
use Rattle.grammar.specs.Listings.{noted, noted_inits}
use Rattle.instructions.specs.declared.types.Init.{Init}
use Rattle.routine.specs.Addresses.{noted_list}
use Rattle.routine.proofs.Noting.{more_inits, fold_over}
use Rattle.routine.proofs.addresses.Addresses.note_inits.Goals as goal

pub returns-in_err-note : goal.returns-in_err-note
returns-in_err-note c =
    let p = err_from_is_err_and c.from_residual.result c.from_residual.ensures.1 in
    rw (p.1, p.2) (fold_over noted_inits (λ (i : Init) seen. noted i.address seen) (λ _ _ _. refl) more_inits c.args.inits.now c.loop-init.init-index (noted_list c.loop-init.self) _ c.loop-init.invariant _ _ c.loop-init-test.true c.in_err-note.ensures.noted)
