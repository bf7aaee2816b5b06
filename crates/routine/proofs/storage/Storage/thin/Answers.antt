use Rattle.std.proofs.Common.{◌<◌, vec_len, vec_items, refl, arith}
use Rattle.routine.specs.Storages.{inits_of}
use Rattle.routine.specs.Thins.{marked}
use Rattle.routine.proofs.Thinning.{thinned_parties, thinned_complete}
use Rattle.routine.proofs.storage.Storage.thin.Goals as goal

pub returns-in-Some-clause-complete : goal.returns-in-Some-clause-complete
returns-in-Some-clause-complete c =
    let s = c.args.self.now in
    let within : c.args.party < vec_len s.parties = c.in-Some.ensures.variant.0 refl in
    let m = marked c.args.stays.now in
    let parties = thinned_parties m (vec_items s.parties) c.args.party c.in-Some.party.now c.thin.new.self (omega (arith, s.parties.ok.0)) c.in-Some.ensures.value c.thin.ensures in
    thinned_complete c.args.party m s _ (λ j. record { inits = inits_of s; parties = parties j }) refl
