use Rattle.std.proofs.Common.{sym, ap, ◌∙◌, arith}
use Rattle.passes.specs.Arrivals.{arrival_at, is_dirty}
use Rattle.passes.proofs.Arriving.{dirty_is}
use Rattle.passes.proofs.Copied.{copied_all}
use Rattle.passes.proofs.dirty.Arrivals.dirty_ones.Goals as goal

pub returns : goal.returns
returns c k =
    let m = c.args.self.now.at in
    let e = copied_all (omega arith) c.loop-k.invariant (omega arith) k in
    (λ t. dirty_is (arrival_at m k) (sym e ∙ t), λ d. e ∙ ap is_dirty d)
