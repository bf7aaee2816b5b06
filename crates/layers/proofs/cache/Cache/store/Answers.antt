use Rattle.std.proofs.Common.{sym, refl, ap, ◌∙◌}
use Rattle.memory.specs.Answers.{written}
use Rattle.memory.specs.Cells.{Cells, put}
use Rattle.layers.specs.Lines.{Slots, laid}
use Rattle.layers.proofs.Fetching.{read_held, write_after_read}
use Rattle.layers.proofs.Laid.{laid-lined}
use Rattle.layers.proofs.cache.Cache.store.Goals as goal

pub returns : goal.returns
returns g c =
    let C = g.M.Memory.cells in
    let s = c.args.self.now in
    let e = c.read.new.self in
    let a = c.args.address in
    let w = c.args.word in
    let v = c.in_ok-read.field-0 in
    let read = c.in_ok-read.ensures in
    let after = c.replace.ensures.after in
    let held = read_held (laid (C s.below) s.lines.slots) a v read.answer in
    record {
      answer = sym (ap written held);
      means =
          ap (λ (ls : Slots). laid (C e.below) ls) after
          ∙ laid-lined (C e.below) e.lines.slots a v w e.lines.four (read.itself.line v held)
          ∙ ap (λ (f : Cells). put f a w) read.means;
      itself = write_after_read C g.M.Memory.reads g.M.Memory.writes s e (record { below = e.below; lines = c.replace.new.self }) a v w held read.itself refl after;
      unchanged = tt;
    }
