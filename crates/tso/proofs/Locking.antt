-- A locked exchange is a barrier, a read, a write, a drain and a barrier.
use Rattle.std.proofs.Common.{◌≡◌, ℕ, ◌<◌, List, [], ◌∷◌, ◌++◌, length, Option, sym, refl, ap, ◌∙◌, subst}
use Rattle.std.proofs.lemmas.Bool.{eq-eqb, ne_eqb}
use Rattle.memory.specs.Cells.{Cells, put}
use Rattle.tso.specs.Machine.{updated, later, newest, word_of}
use Rattle.tso.specs.Tso.{Storage, reads, writes, exchanges, fences, drains, NotPending, Becomes, Tso, read_from_memory, write_to_write_buffer, write_from_write_buffer_to_memory, barrier, locked_exchange, InTurn, locked_parts, ExchangesAsLocked}
use Rattle.tso.specs.declared.writes.Write.{Write}
use Rattle.tso.proofs.Published.{newest_none, means}

module _ (d p : ℕ) (m n : Storage) (a old new : ℕ) where
  -- the storage while the write waits
  abbrev between : Storage
  between = record { memory = m.memory; buffers = updated m.buffers p (record { address = a; word = new } ∷ []) }

  apart : 0 < d → Tso d p m (exchanges a old new) n → InTurn d p m (locked_parts a old new) n
  apart room t =
      let (none, old_is, b) = means d p m n (exchanges a old new) t in
      let pending : NotPending a (m.buffers p) = subst (NotPending a) (sym none) tt in
      let waits : between.buffers p ≡ record { address = a; word = new } ∷ [] = rw (eq-eqb p p refl) in
      let others : (q : ℕ) → (q ≡ p → ⊥) → between.buffers q ≡ m.buffers q = λ q other. rw (ne_eqb q p other) in
      let fits : length (m.buffers p) < d = subst (λ (ws : List Write). length ws < d) (sym none) room in
      let put_in : Becomes p m m.memory (m.buffers p ++ record { address = a; word = new } ∷ []) between = record { memory_is = refl; buffer_is = waits ∙ ap (λ (ws : List Write). ws ++ record { address = a; word = new } ∷ []) (sym none); others = others } in
      let put_out : Becomes p between (put m.memory a new) [] n = record { memory_is = b.memory_is; buffer_is = b.buffer_is; others = λ q other. b.others q other ∙ sym (others q other) } in
      (m, barrier none, (m, subst (λ (v : ℕ). Tso d p m (reads a v) m) (sym old_is) (read_from_memory pending), (between, write_to_write_buffer (record { address = a; word = new }) fits put_in, (n, write_from_write_buffer_to_memory (record { address = a; word = new }) [] waits put_out, (n, barrier b.buffer_is, refl)))))

  together : InTurn d p m (locked_parts a old new) n → Tso d p m (exchanges a old new) n
  together (k₁, t₁, (k₂, t₂, (k₃, t₃, (k₄, t₄, (k₅, t₅, last))))) =
      let (none, same₁) = means d p m k₁ fences t₁ in
      let (read, same₂) = means d p k₁ k₂ (reads a old) t₂ in
      let (room, b₃) = means d p k₂ k₃ (writes a new) t₃ in
      let (x, newer, line, b₄) = means d p k₃ k₄ drains t₄ in
      let (none₄, same₅) = means d p k₄ k₅ fences t₅ in
      let was : k₂ ≡ m = same₂ ∙ same₁ in
      let is : n ≡ k₄ = last ∙ same₅ in
      let held : k₃.buffers p ≡ record { address = a; word = new } ∷ [] = b₃.buffer_is ∙ ap (λ (ws : List Write). ws ++ record { address = a; word = new } ∷ []) (ap (λ (k : Storage). k.buffers p) was ∙ none) in
      let the_write : x ≡ record { address = a; word = new } = cc in
      let old_is : old ≡ word_of (m.memory a) =
      read ∙ ap (λ (k : Storage). word_of (later (newest (k.buffers p) a) (k.memory a))) same₁ ∙ ap (λ (ws : List Write). word_of (later (newest ws a) (m.memory a))) none ∙ ap (λ (o : Option ℕ). word_of (later o (m.memory a))) (newest_none [] a tt)
      in
      let b : Becomes p m (put m.memory a new) [] n = record {
        memory_is = ap (λ (k : Storage). k.memory) is ∙ b₄.memory_is ∙ ap (λ (y : Write). put k₃.memory y.address y.word) the_write ∙ ap (λ (f : Cells). put f a new) (b₃.memory_is ∙ ap (λ (k : Storage). k.memory) was);
        buffer_is = ap (λ (k : Storage). k.buffers p) is ∙ none₄;
        others = λ q other. ap (λ (k : Storage). k.buffers q) is ∙ b₄.others q other ∙ b₃.others q other ∙ ap (λ (k : Storage). k.buffers q) was;
      } in
      subst (λ (v : ℕ). Tso d p m (exchanges a v new) n) (sym old_is) (locked_exchange none b)

pub exchanges_as_locked : ExchangesAsLocked
exchanges_as_locked depth p m n a old new room = (apart depth p m n a old new room, together depth p m n a old new)
