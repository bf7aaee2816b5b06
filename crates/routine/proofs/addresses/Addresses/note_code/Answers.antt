use Rattle.std.proofs.Common.{refl, sym, ap, ◌∙◌}
use Rattle.std.proofs.lemmas.Result.{err_from_is_err_and}
use Rattle.grammar.specs.Listings.{noted_in, noted_code, address_in}
use Rattle.instructions.specs.declared.types.Instruction.{Instruction}
use Rattle.routine.specs.Addresses.{noted_list, few_addresses}
use Rattle.routine.proofs.Noting.{more_code, fold_over}
use Rattle.routine.proofs.addresses.Addresses.note_code.Goals as goal

pub returns-in_err-note : goal.returns-in_err-note
returns-in_err-note c =
    let p = err_from_is_err_and c.from_residual.result c.from_residual.ensures.1 in
    rw (p.1, p.2) (fold_over noted_code (λ (i : Instruction) seen. noted_in (address_in i) seen) (λ _ _ _. refl) more_code c.args.code.now c.loop-instruction.instruction-index (noted_list c.loop-instruction.self) _ c.loop-instruction.invariant _ _ c.loop-instruction-test.true (ap (λ more. few_addresses (noted_in more (noted_list c.loop-instruction.self))) (sym c.in-Some.ensures) ∙ c.in_err-note.ensures.noted))
