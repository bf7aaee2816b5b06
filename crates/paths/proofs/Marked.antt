-- Closed and justified marks decide the rules.
use Rattle.std.proofs.Common.{◌≡◌, ℕ, suc, Bool, true, false, Some, None, Option, sym, refl, ap, ◌∙◌, zero-add}
use Rattle.std.proofs.lemmas.Bool.{false_from_ne_true}
use Rattle.instructions.specs.Thinning.{thin_from}
use Rattle.instructions.specs.declared.types.Instruction.{Instruction}
use Rattle.instructions.specs.declared.types.Instruction.TheVariants.{Fence, Nop}
use Rattle.paths.specs.Paths.{Code, fetch}
use Rattle.paths.specs.Rules.{TakenOut, Shielded, Screened, ForwardOf, BackwardOf}
use Rattle.paths.specs.Marks.{Walk, Bare, Dirty, Exposed, ForwardMarks, BackwardMarks, MarksDecide}
use Rattle.paths.proofs.Fetches.{thin_length, thin_at, thin_end, unless_same}
use Rattle.paths.proofs.Roads.{shielded_is, screened_is}

walk_marked : {c : Code} {r d : ℕ → Bool} {k l : ℕ} → ForwardMarks c r d → Walk c k l → r k ≡ true → r l ≡ true
walk_marked m Walk.here h = h
walk_marked m (Walk.step i f g s) h = walk_marked m s (m.go _ _ i f g h)

bare_marked : {c : Code} {r d : ℕ → Bool} {k l : ℕ} → ForwardMarks c r d → Bare c k l → d k ≡ true → d l ≡ true
bare_marked m Bare.here h = h
bare_marked m (Bare.step i f n g s) h = bare_marked m s (m.on _ _ i f n g h)

pub dirty_marked : {c : Code} {r d : ℕ → Bool} → ForwardMarks c r d → (k : ℕ) → Dirty c k → d k ≡ true
dirty_marked m k x = bare_marked m x.clear (m.put x.from x.address x.source x.store (walk_marked m x.reach m.start))

back_marked : {c : Code} {x : ℕ → Bool} {k l : ℕ} → BackwardMarks c x → Bare c k l → x l ≡ true → x k ≡ true
back_marked m Bare.here h = h
back_marked m (Bare.step i f n g s) h = m.back _ _ i f n g (back_marked m s h)

pub exposed_marked : {c : Code} {x : ℕ → Bool} → BackwardMarks c x → (k : ℕ) → Exposed c k → x k ≡ true
exposed_marked m k e = back_marked m e.clear (m.shown e.last e.shows)

-- a rule G that holds at k just where k has no mark
pub taken_out : (m : ℕ → Bool) (c : Code) (G : ℕ → Type 0) → ((k : ℕ) → G k → m k ≡ false) → ((k : ℕ) → m k ≡ false → G k) → TakenOut G c (thin_from m 0 c)
taken_out m c G out in-by = record { long = thin_length m 0 c; goes = goes; only = only; stays = stays }
  where
    goes : (k : ℕ) → fetch c k ≡ Some Fence → G k → fetch (thin_from m 0 c) k ≡ Some Nop
    goes k e g = let h = thin_at m 0 c k Fence e in let a = zero-add k in let b = out k g in cc

    only : (k : ℕ) → fetch c k ≡ Some Fence → fetch (thin_from m 0 c) k ≡ Some Nop → G k
    only k e f = go (m k) refl
      where
        go : (b : Bool) → m k ≡ b → G k
        go false q = in-by k q
        go true q =
            let h = thin_at m 0 c k Fence e in
            let a = zero-add k in
            cc

    stays : (k : ℕ) → ¬ ((fetch c k ≡ Some Fence) × G k) → fetch (thin_from m 0 c) k ≡ fetch c k
    stays k n = go (fetch c k) refl
      where
        go : (o : Option Instruction) → fetch c k ≡ o → fetch (thin_from m 0 c) k ≡ fetch c k
        go None e = thin_end m 0 c k e ∙ sym e
        go (Some i) e =
            let h = thin_at m 0 c k i e in
            let a = zero-add k in
            let b = unless_same (m k) i (λ q z. n (e ∙ ap {B = Option Instruction} Some z, in-by k q)) in
            cc

pub marks_decide : MarksDecide
marks_decide = (forward, backward)
  where
    forward : (c : Code) (r d : ℕ → Bool) → ForwardMarks c r d → ForwardOf c (thin_from d 0 c)
    forward c r d m =
        taken_out d c (Shielded c)
        (λ k s. false_from_ne_true (d k) (λ t. (shielded_is c k).0 s (m.dirtied k t)))
        (λ k f. (shielded_is c k).1 (λ x. let e = dirty_marked m k x in cc))

    backward : (c : Code) (x : ℕ → Bool) → BackwardMarks c x → BackwardOf c (thin_from (λ k. x (suc k)) 0 c)
    backward c x m =
        taken_out (λ k. x (suc k)) c (λ k. Screened c (suc k))
        (λ k s. false_from_ne_true (x (suc k)) (λ t. (screened_is c (suc k)).0 s (m.exposed (suc k) t)))
        (λ k f. (screened_is c (suc k)).1 (λ e. let g = exposed_marked m (suc k) e in cc))
