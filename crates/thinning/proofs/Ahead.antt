-- A party that is some silent steps ahead of another.
use Rattle.std.proofs.Common.{◌≡◌, ℕ, suc, ◌<◌, Bool, true, false, cond, ltb, List, [], ◌∷◌, ◌++◌, length, Some, None, Option, refl, ap, subst, arith}
use Rattle.std.proofs.lemmas.Bool.{ltb-true, lt-ltb, cond-true}
use Rattle.instructions.specs.declared.types.Instruction.{Instruction}
use Rattle.instructions.specs.declared.types.Instruction.TheVariants.{Load, Store, Exchange, Fence, Nop, Set, Add, JumpNonzero, Jump}
use Rattle.memory.specs.Cells.{Cells}
use Rattle.paths.specs.Paths.{Code, fetch}
use Rattle.tso.specs.Machine.{Party, operand_value, stepped, words_after, step_fault, drained}
use Rattle.tso.specs.Traces.{exchanged}
use Rattle.tso.specs.declared.faults.EntryFault.{EntryFault}
use Rattle.tso.specs.declared.faults.EntryFault.TheVariants.{BufferFull}
use Rattle.tso.specs.declared.writes.Write.{Write}

-- an instruction that touches nothing but its party's registers, position and store buffer, and waits for no drain
abbrev pub Silent : Instruction → Type 0
Silent (Load r a) = ⊥
Silent (Store a s) = Unit {0}
Silent (Exchange r a) = ⊥
Silent Fence = ⊥
Silent Nop = Unit {0}
Silent (Set r s) = Unit {0}
Silent (Add r s) = Unit {0}
Silent (JumpNonzero r t) = Unit {0}
Silent (Jump t) = Unit {0}

abbrev pub nothing_held : Cells
nothing_held a = None

-- t is o after silent steps of the code c from the positions ks; n writes may wait
pub data Ahead (n : ℕ) (c : Code) : List ℕ → Party → Party → Type 0 where
  level : {o : Party} → Ahead n c [] o o
  more : {k : ℕ} {ks : List ℕ} {o t : Party} (i : Instruction) → Silent i → k ≡ o.position → fetch c o.position ≡ Some i → step_fault n i o ≡ None → Ahead n c ks (stepped i o nothing_held) t → Ahead n c (k ∷ ks) o t

pub silent_stepped : (i : Instruction) → Silent i → (o : Party) (m n : Cells) → stepped i o m ≡ stepped i o n
silent_stepped (Load r a) q o m n = absurd q
silent_stepped (Store a s) q o m n = refl
silent_stepped (Exchange r a) q o m n = absurd q
silent_stepped Fence q o m n = absurd q
silent_stepped Nop q o m n = refl
silent_stepped (Set r s) q o m n = refl
silent_stepped (Add r s) q o m n = refl
silent_stepped (JumpNonzero r t) q o m n = refl
silent_stepped (Jump t) q o m n = refl

pub silent_words : (i : Instruction) → Silent i → (o : Party) (m : Cells) → words_after i o m ≡ m
silent_words (Load r a) q o m = absurd q
silent_words (Store a s) q o m = refl
silent_words (Exchange r a) q o m = absurd q
silent_words Fence q o m = absurd q
silent_words Nop q o m = refl
silent_words (Set r s) q o m = refl
silent_words (Add r s) q o m = refl
silent_words (JumpNonzero r t) q o m = refl
silent_words (Jump t) q o m = refl

pub silent_exchanged : (i : Instruction) (p : ℕ) (x : Party) → Silent i → exchanged (Some i) p x ≡ []
silent_exchanged (Load r a) p x q = absurd q
silent_exchanged (Store a s) p x q = refl
silent_exchanged (Exchange r a) p x q = absurd q
silent_exchanged Fence p x q = absurd q
silent_exchanged Nop p x q = refl
silent_exchanged (Set r s) p x q = refl
silent_exchanged (Add r s) p x q = refl
silent_exchanged (JumpNonzero r t) p x q = refl
silent_exchanged (Jump t) p x q = refl

-- no step ahead
pub ahead_none : {n : ℕ} {c : Code} {o t : Party} (ks : List ℕ) → length ks ≡ 0 → Ahead n c ks o t → o ≡ t
ahead_none [] e level = refl
ahead_none (k ∷ ks) e a = cc

-- one step more
pub ahead_snoc : {n : ℕ} {c : Code} {ks : List ℕ} {o t : Party} → Ahead n c ks o t → (i : Instruction) → Silent i → fetch c t.position ≡ Some i → step_fault n i t ≡ None
    → Ahead n c (ks ++ (t.position ∷ [])) o (stepped i t nothing_held)
ahead_snoc level i q f b = more i q refl f b level
ahead_snoc (more j qj e fj bj r) i q f b = more j qj e fj bj (ahead_snoc r i q f b)

-- the first of the steps
pub record First (n : ℕ) (c : Code) (m : ℕ) (all-ks : List ℕ) (o t : Party) : Type 0 where
  pub ks : List ℕ
  pub all : all-ks ≡ o.position ∷ ks
  pub late : length ks ≡ m
  pub i : Instruction
  pub silent : Silent i
  pub at : fetch c o.position ≡ Some i
  pub free : step_fault n i o ≡ None
  pub ahead : Ahead n c ks (stepped i o nothing_held) t

pub first : {n : ℕ} {c : Code} {o t : Party} {m : ℕ} (ks : List ℕ) → length ks ≡ suc m → Ahead n c ks o t → First n c m ks o t
first [] e level = cc
first (k ∷ ks) e (more i q z f b r) = record { ks = ks; all = ap {B = List ℕ} (λ x. x ∷ ks) z; late = omega arith; i = i; silent = q; at = f; free = b; ahead = r }

-- a silent step and a drain of the same party may change places
pub record Swapped (n : ℕ) (i : Instruction) (o : Party) (w : Write) (ws : List Write) : Type 0 where
  pub vs : List Write
  pub buffer_is : (stepped i o nothing_held).buffer ≡ w ∷ vs
  pub party_is : stepped i (drained o ws) nothing_held ≡ drained (stepped i o nothing_held) vs
  pub free : step_fault n i (drained o ws) ≡ None

abbrev room : ℕ → ℕ → Option EntryFault
room k n = cond (ltb k n) None (Some BufferFull)

room_below : (k n : ℕ) → room k n ≡ None → k < n
room_below k n h = go (ltb k n) refl h
  where
    go : (b : Bool) → ltb k n ≡ b → cond {A = Option EntryFault} b None (Some BufferFull) ≡ None → k < n
    go true e h = ltb-true k n e
    go false e h = cc

room_fewer : (k n : ℕ) → room (suc k) n ≡ None → room k n ≡ None
room_fewer k n h = let l : k < n = omega (arith, room_below (suc k) n h) in cond-true _ _ _ (lt-ltb k n l)

swapped : (n : ℕ) (i : Instruction) → Silent i → (o : Party) (w : Write) (ws : List Write) → step_fault n i o ≡ None → o.buffer ≡ w ∷ ws → Swapped n i o w ws
swapped n (Load r a) q o w ws b e = absurd q
swapped n (Store a s) q o w ws b e =
    let x : Write = record { address = a; word = operand_value o.registers s } in
    record { vs = ws ++ (x ∷ []); buffer_is = ap (λ (l : List Write). l ++ (x ∷ [])) e; party_is = refl; free = room_fewer (length ws) n (subst (λ (l : List Write). room (length l) n ≡ None) e b) }
swapped n (Exchange r a) q o w ws b e = absurd q
swapped n Fence q o w ws b e = absurd q
swapped n Nop q o w ws b e = record { vs = ws; buffer_is = e; party_is = refl; free = refl }
swapped n (Set r s) q o w ws b e = record { vs = ws; buffer_is = e; party_is = refl; free = refl }
swapped n (Add r s) q o w ws b e = record { vs = ws; buffer_is = e; party_is = refl; free = refl }
swapped n (JumpNonzero r t) q o w ws b e = record { vs = ws; buffer_is = e; party_is = refl; free = refl }
swapped n (Jump t) q o w ws b e = record { vs = ws; buffer_is = e; party_is = refl; free = refl }

-- both parties have the same oldest write, and a drain of both keeps the steps ahead
pub record BothDrained (n : ℕ) (c : Code) (ks : List ℕ) (o t : Party) (w : Write) (ws : List Write) : Type 0 where
  pub ts : List Write
  pub buffer_is : t.buffer ≡ w ∷ ts
  pub ahead : Ahead n c ks (drained o ws) (drained t ts)

pub ahead_drained : {n : ℕ} {c : Code} {ks : List ℕ} {o t : Party} → Ahead n c ks o t → (w : Write) (ws : List Write) → o.buffer ≡ w ∷ ws → BothDrained n c ks o t w ws
ahead_drained level w ws e = record { ts = ws; buffer_is = e; ahead = level }
ahead_drained {n} {c} {o = o} {t = t} (more {ks = ks} i q k f b r) w ws e =
    let x : Swapped n i o w ws = swapped n i q o w ws b e in
    let y : BothDrained n c ks (stepped i o nothing_held) t w x.vs = ahead_drained r w x.vs x.buffer_is in
    record { ts = y.ts; buffer_is = y.buffer_is; ahead = more i q k f x.free (rw x.party_is y.ahead) }
