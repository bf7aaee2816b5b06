use Rattle.routine.specs.Routines.{listing}
use Rattle.refusals.proofs.Compare.{inits_decided, parties_decided, by_parties, by_inits}
use Rattle.refusals.proofs.same.same_routine.Goals as goal

pub returns-then-eq : goal.returns-then-eq
returns-then-eq c =
    let same_inits = inits_decided c.inits.result.now c.inits-2.result.now c.eq.result c.eq.ensures in
    let same_parties = parties_decided c.parties.result.now c.parties-then-eq.result.now c.eq-then-eq.result c.eq-then-eq.ensures in
    by_parties (listing c.args.a.now) (listing c.args.b.now) _ _ c.inits.ensures c.inits-2.ensures _ _ c.eq-then-eq.result c.parties.ensures c.parties-then-eq.ensures (same_inits.0 c.if-eq.true) same_parties

pub returns-else-eq : goal.returns-else-eq
returns-else-eq c =
    let same_inits = inits_decided c.inits.result.now c.inits-2.result.now c.eq.result c.eq.ensures in
    by_inits (listing c.args.a.now) (listing c.args.b.now) _ _ c.inits.ensures c.inits-2.ensures c.eq.result c.if-eq.false same_inits
