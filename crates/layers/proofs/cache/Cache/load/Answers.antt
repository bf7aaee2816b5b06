use Rattle.std.proofs.Common.{sym, ap, ◌∙◌}
use Rattle.memory.specs.Answers.{read_answer}
use Rattle.layers.proofs.Fetching.{miss_means, miss_read, read_held}
use Rattle.layers.proofs.Laid.{laid_miss}
use Rattle.layers.proofs.cache.Cache.load.Goals as goal

pub returns : goal.returns
returns g c =
    let s = c.args.self.now in
    let C = g.M.Memory.cells in
    let a = c.args.address in
    let w = c.in_ok-word.word in
    let read = c.in_ok-word.ensures in
    let taken = c.take_over.ensures in
    let d = c.take_over.new.self in
    let between = c.read.new.self in
    let held = read_held (C s.below) a w read.answer in
    record {
      answer = read.answer ∙ ap read_answer (sym (laid_miss (C s.below) s.lines.slots a c.requires));
      means = miss_means (C s.below) (C between) (C d.below) s.lines.slots d.lines.slots a w held c.requires read.means taken.means;
      itself = miss_read C g.M.Memory.reads g.M.Memory.writes s d a w between held c.requires read.itself taken.written taken.line;
      unchanged = tt;
    }
