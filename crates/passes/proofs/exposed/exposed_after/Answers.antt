use Rattle.std.proofs.Common.{arith}
use Rattle.passes.proofs.Lawful.{lawful_long}
use Rattle.passes.proofs.Exposing.{sound_start, settled_marks, shift_decides}
use Rattle.passes.proofs.exposed.exposed_after.Goals as goal

pub settle-requires : goal.settle-requires
settle-requires c =
    rw (← c.code.view_is)
    (sound_start c.code.inside.instructions.now c.from_end-exposure.result.marks (lawful_long _ c.code.invariant) (omega arith) c.from_end-exposure.ensures)

pub returns : goal.returns
returns c =
    let code = c.args.code.now in
    let marks = c.settle.new.marks.marks in
    shift_decides code c.after.result marks (rw (← c.code.view_is) (lawful_long _ c.code.invariant)) (settled_marks code marks c.settle.ensures.sound c.settle.ensures.settled) c.after.ensures
