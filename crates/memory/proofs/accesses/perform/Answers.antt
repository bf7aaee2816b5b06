use Rattle.std.proofs.Common.{vec_items, arith}
use Rattle.memory.specs.Accesses.{answers_of}
use Rattle.memory.specs.declared.accesses.Access.TheVariants.{Read}
use Rattle.memory.proofs.Performing.{going_on, going_end, answers_on, answers_end}
use Rattle.memory.proofs.accesses.perform.Goals as goal

pub loop-access-preserved : goal.loop-access-preserved
loop-access-preserved g c =
    let inv = c.loop-access.invariant in
    let own = c.perform_one.ensures in
    let pushed = c.push_reserved.ensures in
    let xs = c.args.accesses.now in
    let i = c.loop-access.access-index in
    let within = c.loop-access-test.true in
    let C = g.M.Memory.cells in
    let n = c.perform_one.new.memory in
    record {
      going = going_on xs i (Read 0) n within inv.going own.means own.itself;
      answers = answers_on xs i (Read 0) (C c.loop-access.memory) (C n) (vec_items c.loop-access.answers) (vec_items c.push_reserved.new.self) (answers_of (C c.args.memory.now) xs) within inv.answers (let e = pushed.items in let a = own.answer in cc) own.means;
      count = omega (arith, pushed.len, inv.count);
      room = omega (arith, pushed.capacity, inv.room);
    }

pub returns : goal.returns
returns g c =
    let inv = c.loop-access.invariant in
    let xs = c.args.accesses.now in
    let i = c.loop-access.access-index in
    let C = g.M.Memory.cells in
    let past = c.loop-access-test.false in
    let all = going_end xs i past inv.going in
    record {
      answers = answers_end xs i (C c.loop-access.memory) (vec_items c.loop-access.answers) (answers_of (C c.args.memory.now) xs) past inv.answers;
      means = all.0;
      itself = all.1;
      unchanged = tt;
    }
