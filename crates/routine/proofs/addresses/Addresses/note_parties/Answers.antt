use Rattle.std.proofs.Common.{map, sym, refl, ap, ◌∙◌}
use Rattle.std.proofs.lemmas.Result.{err_from_is_err_and}
use Rattle.grammar.specs.Listings.{noted_code, noted_parties}
use Rattle.routine.specs.declared.party.Party.{Party}
use Rattle.routine.specs.Addresses.{noted_list, few_addresses}
use Rattle.routine.specs.Parties.{code_of}
use Rattle.routine.proofs.Noting.{more_parties, fold_over}
use Rattle.routine.proofs.addresses.Addresses.note_parties.Goals as goal

pub returns-in_err-note_code : goal.returns-in_err-note_code
returns-in_err-note_code c =
    let p = err_from_is_err_and c.from_residual.result c.from_residual.ensures.1 in
    let same = ap (λ is. few_addresses (noted_code is (noted_list c.loop-party.self))) (c.code.ensures ∙ ap code_of c.party-item.is) in
    rw (p.1, p.2) (fold_over (λ ps seen. noted_parties (map code_of ps) seen) (λ (party : Party) seen. noted_code (code_of party) seen) (λ _ _ _. refl) (λ ps seen. more_parties (map code_of ps) seen) c.args.parties.now c.loop-party.party-index (noted_list c.loop-party.self) _ c.loop-party.invariant c.party-item.result _ c.loop-party-test.true (sym same ∙ c.in_err-note_code.ensures))
