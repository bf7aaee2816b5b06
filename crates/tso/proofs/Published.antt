-- The machine moves as x86-TSO does.
use Rattle.std.proofs.Common.{◌≡◌, ℕ, suc, ◌+◌, ◌%◌, ◌^◌, ◌<◌, Bool, true, false, cond, eqb, ltb, ◌⊎◌, List, [], ◌∷◌, ◌++◌, length, Some, None, Option, sym, refl, ap, ◌∙◌, subst, inl, inr}
use mathlib.Core.Path.{fun_ext}
use Rattle.std.proofs.lemmas.Bool.{eq-eqb, ne_eqb, eqb-true, eqb-false, lt-ltb, ltb-true, cases_eq}
use Rattle.fields.specs.declared.registers.Register.{Register}
use Rattle.fields.specs.declared.registers.Register.TheVariants.{A, B, C, D}
use Rattle.instructions.specs.declared.types.Instruction.{Instruction}
use Rattle.instructions.specs.declared.types.Instruction.TheVariants.{Load, Store, Exchange, Fence, Nop, Set, Add, JumpNonzero, Jump}
use Rattle.instructions.specs.declared.types.Operand.{Operand}
use Rattle.instructions.specs.declared.types.Operand.TheVariants as operand
use Rattle.grammar.specs.Listings.{Listing}
use Rattle.memory.specs.Cells.{Cells, put}
use Rattle.orders.specs.declared.entries.Entry.{Entry}
use Rattle.orders.specs.declared.entries.Entry.TheVariants.{Step, Drain}
use Rattle.tso.specs.Machine.{Party, State, moved, depth_of, updated, same_register, in_register, operand_value, later, newest, word_of, is_empty, stepped, words_after, step_fault, drained, next, Turn, refused, runs}
use Rattle.tso.specs.Tso.{Storage, Thread, Label, reads, writes, exchanges, fences, drains, silent, NotPending, Becomes, Tso, read_from_memory, read_from_write_buffer, write_to_write_buffer, write_from_write_buffer_to_memory, barrier, locked_exchange, no_storage, HasValue, Gets, Performs, load, store, exchange, fence, nop, set, add, jump_nonzero, jump_zero, jump, storage_of, thread_of, Transition, step, drain, MovesAsTso, Execution, done, more, RunsAsTso}
use Rattle.tso.specs.declared.faults.EntryFault.TheVariants.{BufferFull, BufferNotEmpty}
use Rattle.tso.specs.declared.writes.Write.{Write}
use Rattle.tso.proofs.Turns.{step_made, step_inverse, drain_made, drain_inverse, updated_own, updated_others}

-- registers and operands
same_true : (q r : Register) → same_register q r ≡ true → q ≡ r
same_true A A e = refl
same_true A B e = cc
same_true A C e = cc
same_true A D e = cc
same_true B A e = cc
same_true B B e = refl
same_true B C e = cc
same_true B D e = cc
same_true C A e = cc
same_true C B e = cc
same_true C C e = refl
same_true C D e = cc
same_true D A e = cc
same_true D B e = cc
same_true D C e = cc
same_true D D e = refl

same_self : (r : Register) → same_register r r ≡ true
same_self A = refl
same_self B = refl
same_self C = refl
same_self D = refl

gets_is : (f : Register → ℕ) (r : Register) (v : ℕ) (g : Register → ℕ) → Gets f r v g → g ≡ in_register f r v
unfolding in_register
gets_is f r v g h = fun_ext (λ q. go q (same_register q r) refl)
  where
    go : (q : Register) (b : Bool) → same_register q r ≡ b → g q ≡ cond b v (f q)
    go q true e = ap g (same_true q r e) ∙ h.that
    go q false e = h.others q (λ s. let t = same_self r in cc)

is_gets : (f : Register → ℕ) (r : Register) (v : ℕ) (g : Register → ℕ) → g ≡ in_register f r v → Gets f r v g
unfolding in_register
is_gets f r v g e = record { that = ap (λ (k : Register → ℕ). k r) e ∙ rw (same_self r); others = λ q apart. ap (λ (k : Register → ℕ). k q) e ∙ go q apart (same_register q r) refl }
  where
    go : (q : Register) → (q ≡ r → ⊥) → (b : Bool) → same_register q r ≡ b → cond b v (f q) ≡ f q
    go q apart true s = absurd (apart (same_true q r s))
    go q apart false s = refl

value_is : (f : Register → ℕ) (s : Operand) (v : ℕ) → HasValue f s v → v ≡ operand_value f s
unfolding operand_value
value_is f (operand.Register r) v h = h
value_is f (operand.Constant n) v h = h

has_value : (f : Register → ℕ) (s : Operand) → HasValue f s (operand_value f s)
unfolding operand_value
has_value f (operand.Register r) = refl
has_value f (operand.Constant n) = refl

-- the newest waiting write to an address
pub newest_none : (ws : List Write) (a : ℕ) → NotPending a ws → newest ws a ≡ None
unfolding newest
newest_none [] a h = refl
newest_none (w ∷ ws) a h = let rest = newest_none ws a h.1 in let e = ne_eqb w.address a h.0 in rw (rest, e)

newest-some : (older newer : List Write) (w : Write) → NotPending w.address newer → newest (older ++ (w ∷ newer)) w.address ≡ Some w.word
unfolding newest
newest-some [] newer w h = let rest = newest_none newer w.address h in let e = eq-eqb w.address w.address refl in rw (rest, e)
newest-some (x ∷ older) newer w h = let rest = newest-some older newer w h in rw rest

-- there is such a write, with none newer, or none waits
pub record Newest (ws : List Write) (a : ℕ) : Type 0 where
  pub older : List Write
  pub newer : List Write
  pub w : Write
  pub split : ws ≡ older ++ (w ∷ newer)
  pub at : w.address ≡ a
  pub none_newer : NotPending a newer

newest-cases : (ws : List Write) (a : ℕ) → NotPending a ws ⊎ Newest ws a
newest-cases [] a = inl tt
newest-cases (w ∷ ws) a = go (newest-cases ws a) (eqb w.address a) refl
  where
    go : NotPending a ws ⊎ Newest ws a → (b : Bool) → eqb w.address a ≡ b → NotPending a (w ∷ ws) ⊎ Newest (w ∷ ws) a
    go (inr n) b e = inr (record { older = w ∷ n.older; newer = n.newer; w = n.w; split = ap (λ (xs : List Write). w ∷ xs) n.split; at = n.at; none_newer = n.none_newer })
    go (inl h) true e = inr (record { older = []; newer = ws; w = w; split = refl; at = eqb-true w.address a e; none_newer = h })
    go (inl h) false e = inl (eqb-false w.address a e, h)

-- what each label means to the storage, with the word that is read computed
abbrev pub Means : ℕ → ℕ → Storage → Label → Storage → Type 0
Means d p m (reads a v) n = (v ≡ word_of (later (newest (m.buffers p) a) (m.memory a))) × (n ≡ m)
Means d p m (writes a v) n = (length (m.buffers p) < d) × Becomes p m m.memory (m.buffers p ++ (record { address = a; word = v } ∷ [])) n
Means d p m (exchanges a o v) n = (m.buffers p ≡ []) × (o ≡ word_of (m.memory a)) × Becomes p m (put m.memory a v) [] n
Means d p m fences n = (m.buffers p ≡ []) × (n ≡ m)
Means d p m drains n = (w : Write) × (newer : List Write) × (m.buffers p ≡ w ∷ newer) × Becomes p m (put m.memory w.address w.word) newer n
Means d p m silent n = n ≡ m

pub means : (d p : ℕ) (m n : Storage) (x : Label) → Tso d p m x n → Means d p m x n
means d p m n x (read_from_memory {a = a} h) = (ap (λ (o : Option ℕ). word_of (later o (m.memory a))) (sym (newest_none (m.buffers p) a h)), refl)
means d p m n x (read_from_write_buffer older newer w e h) = (ap (λ (o : Option ℕ). word_of (later o (m.memory w.address))) (sym (ap (λ (ws : List Write). newest ws w.address) e ∙ newest-some older newer w h)), refl)
means d p m n x (write_to_write_buffer w h b) = (h, b)
means d p m n x (write_from_write_buffer_to_memory w newer e b) = (w, newer, e, b)
means d p m n x (barrier e) = (e, refl)
means d p m n x (locked_exchange e b) = (e, refl, b)
means d p m n x no_storage = refl

-- the step of an instruction by party p, in the machine's own terms
record Effect (d p : ℕ) (s u : State) (i : Instruction) : Type 0 where
  pub free : step_fault d i (s.party p) ≡ None
  pub party_is : u.party p ≡ stepped i (s.party p) s.words
  pub words_is : u.words ≡ words_after i (s.party p) s.words
  pub others : (q : ℕ) → (q ≡ p → ⊥) → (u.party q).buffer ≡ (s.party q).buffer

party_from : (x y : Party) → x.position ≡ y.position → x.registers ≡ y.registers → x.buffer ≡ y.buffer → x ≡ y
party_from x y a b c = λ i. record { position = a i; registers = b i; buffer = c i }

module _ (d p : ℕ) (s u : State) where
  abbrev Same : Type 0
  Same = storage_of u ≡ storage_of s

  -- a step that leaves the storage as it is
  quiet : (i : Instruction) → Same → step_fault d i (s.party p) ≡ None → (u.party p).position ≡ (stepped i (s.party p) s.words).position → (u.party p).registers ≡ (stepped i (s.party p) s.words).registers
      → (stepped i (s.party p) s.words).buffer ≡ (s.party p).buffer → words_after i (s.party p) s.words ≡ s.words → Effect d p s u i
  quiet i same free at regs buffer words =
      record {
        free = free;
        party_is = party_from (u.party p) (stepped i (s.party p) s.words) at regs (ap (λ (m : Storage). m.buffers p) same ∙ sym buffer);
        words_is = ap (λ (m : Storage). m.memory) same ∙ sym words;
        others = λ q apart. ap (λ (m : Storage). m.buffers q) same;
      }

  effect : (i : Instruction) (y : Label) → Performs (thread_of s p) (thread_of u p) i y → Means d p (storage_of s) y (storage_of u) → Effect d p s u i
  effect i y (load {r = r} {a = a} {v = v} at gets) (v-is, same) = quiet (Load r a) same refl at (gets_is (s.party p).registers r v (u.party p).registers gets ∙ ap (in_register (s.party p).registers r) v-is) refl refl
  effect i y (store {a = a} {v = v} {s = o} at regs has) (room, b) =
      record {
        free = rw (lt-ltb (length (s.party p).buffer) d room);
        party_is = party_from (u.party p) (stepped (Store a o) (s.party p) s.words) at regs (b.buffer_is ∙ ap (λ (k : ℕ). (s.party p).buffer ++ (record { address = a; word = k } ∷ [])) (value_is (s.party p).registers o v has));
        words_is = b.memory_is;
        others = b.others;
      }
  effect i y (exchange {r = r} {a = a} {v = v} at gets) (none, v-is, b) =
      record {
        free = ap (λ (ws : List Write). cond (is_empty ws) None (Some BufferNotEmpty)) none;
        party_is = party_from (u.party p) (stepped (Exchange r a) (s.party p) s.words) at (gets_is (s.party p).registers r v (u.party p).registers gets ∙ ap (in_register (s.party p).registers r) v-is) (b.buffer_is ∙ sym none);
        words_is = b.memory_is;
        others = b.others;
      }
  effect i y (fence at regs) (none, same) = quiet Fence same (ap (λ (ws : List Write). cond (is_empty ws) None (Some BufferNotEmpty)) none) at regs refl refl
  effect i y (nop at regs) same = quiet Nop same refl at regs refl refl
  effect i y (set {r = r} {s = o} {v = v} at has gets) same = quiet (Set r o) same refl at (gets_is (s.party p).registers r v (u.party p).registers gets ∙ ap (in_register (s.party p).registers r) (value_is (s.party p).registers o v has)) refl refl
  effect i y (add {r = r} {s = o} v at has gets) same =
      quiet (Add r o) same refl at (gets_is (s.party p).registers r (((s.party p).registers r + v) % 2 ^ 32) (u.party p).registers gets ∙ ap (λ (k : ℕ). in_register (s.party p).registers r (((s.party p).registers r + k) % 2 ^ 32)) (value_is (s.party p).registers o v has)) refl refl
  effect i y (jump_nonzero {r = r} {k = k} nonzero at regs) same = quiet (JumpNonzero r k) same refl (at ∙ rw (ne_eqb ((s.party p).registers r) 0 nonzero)) regs refl refl
  effect i y (jump_zero {r = r} {k = k} is_zero at regs) same = quiet (JumpNonzero r k) same refl (at ∙ rw (eq-eqb ((s.party p).registers r) 0 is_zero)) regs refl refl
  effect i y (jump {k = k} at regs) same = quiet (Jump k) same refl at regs refl refl

-- and the other way: the label of a step, with both halves of the transition
record Shown (d p : ℕ) (s u : State) (i : Instruction) : Type 0 where
  pub label : Label
  pub performs : Performs (thread_of s p) (thread_of u p) i label
  pub tso : Tso d p (storage_of s) label (storage_of u)

reads_made : (d p : ℕ) (m : Storage) (a : ℕ) → Tso d p m (reads a (word_of (later (newest (m.buffers p) a) (m.memory a)))) m
reads_made d p m a = go (newest-cases (m.buffers p) a)
  where
    go : NotPending a (m.buffers p) ⊎ Newest (m.buffers p) a → Tso d p m (reads a (word_of (later (newest (m.buffers p) a) (m.memory a)))) m
    go (inl h) = subst (λ (o : Option ℕ). Tso d p m (reads a (word_of (later o (m.memory a)))) m) (sym (newest_none (m.buffers p) a h)) (read_from_memory h)
    go (inr n) =
        let fresh : NotPending n.w.address n.newer = subst (λ (k : ℕ). NotPending k n.newer) (sym n.at) n.none_newer in
        let found : newest (m.buffers p) n.w.address ≡ Some n.w.word = ap (λ (ws : List Write). newest ws n.w.address) n.split ∙ newest-some n.older n.newer n.w fresh in
        subst
        (λ (k : ℕ). Tso d p m (reads k (word_of (later (newest (m.buffers p) k) (m.memory k)))) m)
        n.at
        (subst (λ (o : Option ℕ). Tso d p m (reads n.w.address (word_of (later o (m.memory n.w.address)))) m) (sym found) (read_from_write_buffer n.older n.newer n.w n.split fresh))

empty_from : (ws : List Write) → cond (is_empty ws) None (Some BufferNotEmpty) ≡ None → ws ≡ []
empty_from [] h = refl
empty_from (w ∷ ws) h = cc

room_from : (b : Bool) → cond b None (Some BufferFull) ≡ None → b ≡ true
room_from true h = refl
room_from false h = cc

module _ (d p : ℕ) (s u : State) where
  changed : (i : Instruction) → Effect d p s u i → (ws : List Write) → (stepped i (s.party p) s.words).buffer ≡ ws → Becomes p (storage_of s) (words_after i (s.party p) s.words) ws (storage_of u)
  changed i f ws e = record { memory_is = f.words_is; buffer_is = ap (λ (x : Party). x.buffer) f.party_is ∙ e; others = f.others }

  still : (i : Instruction) → Effect d p s u i → (stepped i (s.party p) s.words).buffer ≡ (s.party p).buffer → words_after i (s.party p) s.words ≡ s.words → (y : Label) → Tso d p (storage_of s) y (storage_of s) → Tso d p (storage_of s) y (storage_of u)
  still i f buffer words y t = subst (λ (n : Storage). Tso d p (storage_of s) y n) (λ j. record { memory = sym (f.words_is ∙ words) j; buffers = λ q. sym (same q (cases_eq q p)) j }) t
    where
      same : (q : ℕ) → (q ≡ p) ⊎ (q ≡ p → ⊥) → (u.party q).buffer ≡ (s.party q).buffer
      same q (inl e) = ap (λ (k : ℕ). (u.party k).buffer) e ∙ ap (λ (x : Party). x.buffer) f.party_is ∙ buffer ∙ ap (λ (k : ℕ). (s.party k).buffer) (sym e)
      same q (inr apart) = f.others q apart

  at : (i : Instruction) → Effect d p s u i → (u.party p).position ≡ (stepped i (s.party p) s.words).position
  at i f = ap (λ (x : Party). x.position) f.party_is

  regs : (i : Instruction) → Effect d p s u i → (u.party p).registers ≡ (stepped i (s.party p) s.words).registers
  regs i f = ap (λ (x : Party). x.registers) f.party_is

  gets : (i : Instruction) (f : Effect d p s u i) (r : Register) (v : ℕ) → (stepped i (s.party p) s.words).registers ≡ in_register (s.party p).registers r v → Gets (s.party p).registers r v (u.party p).registers
  gets i f r v e = is_gets (s.party p).registers r v (u.party p).registers (regs i f ∙ e)

  shown : (i : Instruction) → Effect d p s u i → Shown d p s u i
  shown (Load r a) f =
      let v = word_of (later (newest (s.party p).buffer a) (s.words a)) in
      record { label = reads a v; performs = load (at (Load r a) f) (gets (Load r a) f r v refl); tso = still (Load r a) f refl refl (reads a v) (reads_made d p (storage_of s) a) }
  shown (Store a o) f =
      let v = operand_value (s.party p).registers o in
      let w : Write = record { address = a; word = v } in
      record {
        label = writes a v;
        performs = store (at (Store a o) f) (regs (Store a o) f) (has_value (s.party p).registers o);
        tso = write_to_write_buffer w (ltb-true (length (s.party p).buffer) d (room_from (ltb (length (s.party p).buffer) d) f.free)) (changed (Store a o) f ((s.party p).buffer ++ (w ∷ [])) refl);
      }
  shown (Exchange r a) f =
      let v = word_of (s.words a) in
      let none = empty_from (s.party p).buffer f.free in
      record { label = exchanges a v ((s.party p).registers r); performs = exchange (at (Exchange r a) f) (gets (Exchange r a) f r v refl); tso = locked_exchange none (changed (Exchange r a) f [] none) }
  shown Fence f = record { label = fences; performs = fence (at Fence f) (regs Fence f); tso = still Fence f refl refl fences (barrier (empty_from (s.party p).buffer f.free)) }
  shown Nop f = record { label = silent; performs = nop (at Nop f) (regs Nop f); tso = still Nop f refl refl silent no_storage }
  shown (Set r o) f =
      let v = operand_value (s.party p).registers o in
      record { label = silent; performs = set (at (Set r o) f) (has_value (s.party p).registers o) (gets (Set r o) f r v refl); tso = still (Set r o) f refl refl silent no_storage }
  shown (Add r o) f =
      let v = operand_value (s.party p).registers o in
      record { label = silent; performs = add v (at (Add r o) f) (has_value (s.party p).registers o) (gets (Add r o) f r (((s.party p).registers r + v) % 2 ^ 32) refl); tso = still (Add r o) f refl refl silent no_storage }
  shown (JumpNonzero r k) f = record { label = silent; performs = go (eqb ((s.party p).registers r) 0) refl (at (JumpNonzero r k) f); tso = still (JumpNonzero r k) f refl refl silent no_storage }
    where
      go : (b : Bool) → eqb ((s.party p).registers r) 0 ≡ b → (u.party p).position ≡ cond b (suc (s.party p).position) k → Performs (thread_of s p) (thread_of u p) (JumpNonzero r k) silent
      go true e to = jump_zero (eqb-true ((s.party p).registers r) 0 e) to (regs (JumpNonzero r k) f)
      go false e to = jump_nonzero (eqb-false ((s.party p).registers r) 0 e) to (regs (JumpNonzero r k) f)
  shown (Jump k) f = record { label = silent; performs = jump (at (Jump k) f) (regs (Jump k) f); tso = still (Jump k) f refl refl silent no_storage }

-- a state by the record of one party, the records of the others, and the words
module _ (s u : State) (p : ℕ) where
  state_is : (x : Party) (m : Cells) → u.party p ≡ x → ((q : ℕ) → (q ≡ p → ⊥) → u.party q ≡ s.party q) → u.words ≡ m → record { party = updated s.party p x; words = m } ≡ u
  state_is x m own others words = λ j. record { party = λ q. go q (eqb q p) refl j; words = sym words j }
    where
      go : (q : ℕ) (b : Bool) → eqb q p ≡ b → cond b x (s.party q) ≡ u.party q
      go q true e = sym own ∙ ap u.party (sym (eqb-true q p e))
      go q false e = sym (others q (eqb-false q p e))

forth : (l : Listing) (e : Entry) (s u : State) → next l e s ≡ moved u → Transition l e s u
forth l (Step p) s u h =
    let f = step_inverse l p s u h in
    let own = updated_own s u p (stepped f.i (s.party p) s.words) f.party_is in
    let rest = updated_others s u p (stepped f.i (s.party p) s.words) f.party_is in
    let k = shown (depth_of l) p s u f.i (record { free = f.free; party_is = own; words_is = f.words_is; others = λ q apart. ap (λ (x : Party). x.buffer) (rest q apart) }) in
    step f.i k.label (ltb-true p (length l.parties) f.here) f.at k.performs k.tso (λ q apart. ap (λ (x : Party). record { position = x.position; registers = x.registers }) (rest q apart))
forth l (Drain p) s u h =
    let f = drain_inverse l p s u h in
    let own = updated_own s u p (drained (s.party p) f.ws) f.party_is in
    let rest = updated_others s u p (drained (s.party p) f.ws) f.party_is in
    let b : Becomes p (storage_of s) (put s.words f.w.address f.w.word) f.ws (storage_of u) = record { memory_is = f.words_is; buffer_is = ap (λ (x : Party). x.buffer) own; others = λ q apart. ap (λ (x : Party). x.buffer) (rest q apart) } in
    drain (ltb-true p (length l.parties) f.here) (write_from_write_buffer_to_memory f.w f.ws f.buffer_is b) (λ q. go own rest q (cases_eq q p))
  where
    go : {ws : List Write} → u.party p ≡ drained (s.party p) ws → ((q : ℕ) → (q ≡ p → ⊥) → u.party q ≡ s.party q) → (q : ℕ) → (q ≡ p) ⊎ (q ≡ p → ⊥) → thread_of u q ≡ thread_of s q
    go own rest q (inl e) = ap (thread_of u) e ∙ ap (λ (x : Party). record { position = x.position; registers = x.registers }) own ∙ ap (thread_of s) (sym e)
    go own rest q (inr apart) = ap (λ (x : Party). record { position = x.position; registers = x.registers }) (rest q apart)

back : (l : Listing) (e : Entry) (s u : State) → Transition l e s u → next l e s ≡ moved u
back l e s u (step {p = p} i x here at performs tso others) =
    let f = effect (depth_of l) p s u i x performs (means (depth_of l) p (storage_of s) (storage_of u) x tso) in
    let rest : (q : ℕ) → (q ≡ p → ⊥) → u.party q ≡ s.party q = λ q apart. party_from (u.party q) (s.party q) (ap (λ (t : Thread). t.position) (others q apart)) (ap (λ (t : Thread). t.registers) (others q apart)) (f.others q apart) in
    step_made l p s i (lt-ltb p (length l.parties) here) at f.free
    ∙ ap moved (state_is s u p (stepped i (s.party p) s.words) (words_after i (s.party p) s.words) f.party_is rest f.words_is)
back l e s u (drain {p = p} here tso threads) =
    let (w, newer, line, b) = means (depth_of l) p (storage_of s) (storage_of u) drains tso in
    let own : u.party p ≡ drained (s.party p) newer = party_from (u.party p) (drained (s.party p) newer) (ap (λ (t : Thread). t.position) (threads p)) (ap (λ (t : Thread). t.registers) (threads p)) b.buffer_is in
    let rest : (q : ℕ) → (q ≡ p → ⊥) → u.party q ≡ s.party q = λ q apart. party_from (u.party q) (s.party q) (ap (λ (t : Thread). t.position) (threads q)) (ap (λ (t : Thread). t.registers) (threads q)) (b.others q apart) in
    drain_made l p s w newer (lt-ltb p (length l.parties) here) line
    ∙ ap moved (state_is s u p (drained (s.party p) newer) (put s.words w.address w.word) own rest b.memory_is)

pub moves_as_tso : MovesAsTso
moves_as_tso l e s u = (forth l e s u, back l e s u)

forth_all : (l : Listing) (es : List Entry) (s u : State) → runs l es s ≡ Some u → Execution l es s u
forth_all l [] s u h = let e : s ≡ u = cc in subst (Execution l [] s) e done
forth_all l (e ∷ es) s u h = go (λ t. forth_all l es t u) (next l e s) refl
  where
    go : ((t : State) → runs l es t ≡ Some u → Execution l es t u) → (t : Turn) → next l e s ≡ t → Execution l (e ∷ es) s u
    go ih (refused n) q = cc
    go ih (moved t) q = let rest : runs l es t ≡ Some u = cc in more (forth l e s t q) (ih t rest)

back_all : (l : Listing) (es : List Entry) (s u : State) → Execution l es s u → runs l es s ≡ Some u
back_all l es s u done = refl
back_all l es s u (more {e = e} {es = rest} {t = t} first x) = let a = back l e s t first in let b = back_all l rest t u x in cc

pub runs_as_tso : RunsAsTso
runs_as_tso l es s u = (forth_all l es s u, back_all l es s u)
