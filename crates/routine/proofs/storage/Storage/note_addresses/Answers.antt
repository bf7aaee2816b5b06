use Rattle.std.proofs.Common.{◌≡◌, [], sym, ap, ◌∙◌}
use Rattle.std.proofs.lemmas.Result.{err_from_is_err_and}
use Rattle.grammar.specs.Listings.{noted_inits, addresses_of}
use Rattle.routine.specs.Addresses.{noted_list, few_addresses}
use Rattle.routine.specs.Storages.{inits_of, parties_of, listing_of}
use Rattle.routine.proofs.Noting.{more_parties, too_many_more}
use Rattle.routine.proofs.storage.Storage.note_addresses.Goals as goal

pub returns-in_err-note_inits-clause-noted : goal.returns-in_err-note_inits-clause-noted
returns-in_err-note_inits-clause-noted c =
    let s = c.args.self.now in
    let p = err_from_is_err_and c.from_residual.result c.from_residual.ensures.1 in
    let same : noted_inits c.as_slice.result.now (noted_list c.clear.new.self) ≡ noted_inits (inits_of s) [] = λ i. noted_inits (c.as_slice.ensures.value i) (c.clear.ensures i) in
    rw (p.1, p.2) (too_many_more (noted_inits (inits_of s) []) (addresses_of (listing_of s)) _ (more_parties (parties_of s) (noted_inits (inits_of s) [])) (sym (ap few_addresses same) ∙ c.in_err-note_inits.ensures))
