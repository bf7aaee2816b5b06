-- What a miss comes to.
use Rattle.std.proofs.Common.{◌≡◌, ℕ, Some, None, Ok, Option, sym, ap, ◌∙◌, subst, set-set}
use Rattle.memory.specs.Answers.{read_answer}
use Rattle.memory.specs.Cells.{Cells, put}
use Rattle.memory.specs.Pairs.{cell}
use Rattle.memory.proofs.Puts.{put_same}
use Rattle.layers.specs.Caches.{CacheRead, CacheWritten, WrittenDown}
use Rattle.layers.specs.Lines.{Slots, laid, lined, line_of, word_in}
use Rattle.layers.specs.declared.cache.Cache.{Cache}
use Rattle.layers.proofs.Laid.{laid_miss, laid_none, line_taken}

pub read_held : (f : Cells) (a w : ℕ) → Ok w ≡ read_answer (f a) → f a ≡ Some w
read_held f a w e = go (f a) e
  where
    go : (o : Option ℕ) → Ok w ≡ read_answer o → o ≡ Some w
    go None e = cc
    go (Some v) e = cc

-- the lines then mean what they meant
pub miss_means : (f f' g : Cells) (ls ks : Slots) (a w : ℕ) → f a ≡ Some w → word_in (line_of ls a) a ≡ None → f' ≡ f → laid g ks ≡ put (laid f' ls) a w → laid g ks ≡ laid f ls
miss_means f f' g ls ks a w held miss same taken =
    taken ∙ ap (λ (k : Cells). put (laid k ls) a w) same ∙ put_same (laid f ls) a w (laid_miss f ls a miss ∙ held)

pub miss_read : {M : Type 0} (C : M → Cells) (R : M → ℕ → M → Type 0) (W : M → ℕ → ℕ → M → Type 0) (c d : Cache M) (a w : ℕ) (between : M) → C c.below a ≡ Some w → word_in (line_of c.lines.slots a) a ≡ None → R c.below a between → WrittenDown W (line_of c.lines.slots a) between d.below → d.lines.slots ≡ lined c.lines.slots a w → CacheRead C R W c a d
miss_read C R W c d a w between held miss read written line =
    record {
      refused = λ none. cc;
      hit = λ v found. cc;
      miss = λ v also none. let same : w ≡ v = cc in record { between = between; read = read; written = written; line = line ∙ ap (λ (u : ℕ). lined c.lines.slots a u) same };
      line = λ v means.
          let here = laid_miss (C c.below) c.lines.slots a miss in
          let same : w ≡ v = cc in
          ap (λ (ls : Slots). line_of ls a) line ∙ line_taken c.lines.slots a w c.lines.four ∙ ap (λ (u : ℕ). Some (cell a u)) same;
    }

-- after a read of a, the word w is put into the line of a
pub write_after_read : {M : Type 0} (C : M → Cells) (R : M → ℕ → M → Type 0) (W : M → ℕ → ℕ → M → Type 0) (c e d : Cache M) (a v w : ℕ) → laid (C c.below) c.lines.slots a ≡ Some v → CacheRead C R W c a e → d.below ≡ e.below → d.lines.slots ≡ lined e.lines.slots a w → CacheWritten C R W c a w d
write_after_read {M} C R W c e d a v w held read same line =
    record {
      refused = λ none. let no = laid_none (C c.below) c.lines.slots a none in cc;
      hit = λ u x below found. let kept = read.hit x found in (same ∙ ap (λ (k : Cache M). k.below) kept, line ∙ ap (λ (k : Cache M). lined k.lines.slots a w) kept);
      miss = λ u below none.
          let m = read.miss u below none in
          record {
            between = m.between;
            read = m.read;
            written = subst (λ (k : M). WrittenDown W (line_of c.lines.slots a) m.between k) (sym same) m.written;
            line = line ∙ ap (λ (ls : Slots). lined ls a w) m.line ∙ set-set c.lines.slots _ _ _;
          };
      line = λ u means. ap (λ (ls : Slots). line_of ls a) line ∙ line_taken e.lines.slots a w e.lines.four;
    }
