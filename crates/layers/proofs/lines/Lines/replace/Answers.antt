use Rattle.layers.proofs.Laid.{placed_lined}
use Rattle.layers.proofs.lines.Lines.replace.Goals as goal

pub invariant_of-self-clause-placed : goal.invariant_of-self-clause-placed
invariant_of-self-clause-placed c =
    let s = c.args.self.now in
    rw c.from-i.ensures (placed_lined s.slots c.args.address c.args.word s.four s.placed)
