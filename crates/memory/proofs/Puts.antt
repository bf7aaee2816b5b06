-- The laws of a write. Not all of them are cited: they say what a write means, as docs/MEMORY.md does in words.
use Rattle.std.proofs.Common.{◌≡◌, ℕ, true, ◌≢◌, is_some, Some, None, ⊎_elim, arith}
use mathlib.Core.Path.{fun_ext}
use Rattle.std.proofs.lemmas.Bool.{cases_eq}
use Rattle.memory.specs.Cells.{Cells, put}

-- what is held stays held, and nothing else is
pub put_held : (f : Cells) (a w b : ℕ) → is_some (put f a w b) ≡ is_some (f b)
put_held f a w b = grind arith

pub put-here : (f : Cells) (a w : ℕ) → is_some (f a) ≡ true → put f a w a ≡ Some w
put-here f a w held = grind arith

pub put_apart : (f : Cells) (a w b : ℕ) → (b ≡ a → ⊥) → put f a w b ≡ f b
put_apart f a w b apart = grind arith

pub put-put : (f : Cells) (a v w : ℕ) → put (put f a v) a w ≡ put f a w
put-put f a v w = fun_ext (λ b. grind arith)

pub put_swap : (f : Cells) (a v b w : ℕ) → (a ≡ b → ⊥) → put (put f a v) b w ≡ put (put f b w) a v
put_swap f a v b w apart = fun_ext (λ q. grind arith)

-- a write of an address that is not held changes nothing
pub put_none : (f : Cells) (a w : ℕ) → f a ≡ None → put f a w ≡ f
put_none f a w none =
    fun_ext (λ b. ⊎_elim (λ (e : b ≡ a). rw (e, none) (grind arith)) (λ (ne : b ≢ a). grind arith) (cases_eq b a))

-- nor does one of the word that is held
pub put_same : (f : Cells) (a w : ℕ) → f a ≡ Some w → put f a w ≡ f
put_same f a w same =
    fun_ext (λ b. ⊎_elim (λ (e : b ≡ a). rw (e, same) (grind arith)) (λ (ne : b ≢ a). grind arith) (cases_eq b a))
