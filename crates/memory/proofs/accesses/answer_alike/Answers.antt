use Rattle.std.proofs.Common.{◌≡◌, ◌≢◌, MatchBool, rules, sym, ap, ◌∙◌}
use Rattle.memory.specs.Accesses.{Alike, answers_of, cells_after}
use Rattle.memory.specs.Cells.{Cells}
use Rattle.memory.specs.declared.accesses.Access.TheVariants.{Read}
use Rattle.memory.proofs.Performing.{going_on, going_end, alike_on, alike_end}
use Rattle.memory.proofs.accesses.answer_alike.Goals as goal

pub loop-access-preserved : goal.loop-access-preserved
loop-access-preserved g c =
    let inv = c.loop-access.invariant in
    let one = c.perform_one-one.ensures in
    let other = c.perform_one-other.ensures in
    let xs = c.args.accesses.now in
    let i = c.loop-access.access-index in
    let within = c.loop-access-test.true in
    let C = g.M.Memory.cells in
    let D = g.N.Memory.cells in
    let m = c.perform_one-one.new.memory in
    let n = c.perform_one-other.new.memory in
    let same : MatchBool c.eq-alike.result (c.perform_one-one.result ≡ c.perform_one-other.result) (c.perform_one-one.result ≢ c.perform_one-other.result) = search rules in
    record {
      first = going_on xs i (Read 0) m within inv.first one.means one.itself;
      second = going_on xs i (Read 0) n within inv.second other.means other.itself;
      alike = alike_on c.loop-access.alike c.eq-alike.result (Alike (C c.args.first.now) (D c.args.second.now) xs) xs i (Read 0) (C c.loop-access.first) (D c.loop-access.second) (C m) (D n) c.perform_one-one.result c.perform_one-other.result within inv.alike same one.answer other.answer one.means other.means;
    }

pub returns : goal.returns
returns g c =
    let inv = c.loop-access.invariant in
    let xs = c.args.accesses.now in
    let i = c.loop-access.access-index in
    let C = g.M.Memory.cells in
    let D = g.N.Memory.cells in
    let past = c.loop-access-test.false in
    let one = going_end xs i past inv.first in
    let other = going_end xs i past inv.second in
    let all = alike_end c.loop-access.alike (Alike (C c.args.first.now) (D c.args.second.now) xs) xs i (C c.loop-access.first) (D c.loop-access.second) past inv.alike in
    record {
      answers = all;
      means = (one.0, other.0);
      itself = (one.1, other.1);
      law = λ e. (all.1 (ap (λ (k : Cells). answers_of k xs) e), one.0 ∙ ap (λ (k : Cells). cells_after k xs) e ∙ sym other.0);
    }
