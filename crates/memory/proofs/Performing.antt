-- A list of accesses on its way.
use Rattle.std.proofs.Common.{◌≡◌, ℕ, ◌+◌, ◌<◌, ◌≤◌, Bool, true, false, ◌&&◌, List, [], ◌∷◌, ◌++◌, length, get_or, drop, MatchBool, sym, refl, ap, ◌∙◌, subst, append_assoc}
use Rattle.std.proofs.lemmas.List.{append-nil, drop_all, drop_more}
use Rattle.std.specs.Prelude.{◌↔◌, IsTrue}
use Rattle.memory.specs.Accesses.{Accessed, Alike, Performed, answer_of, answers_of, cells_after, cells_by}
use Rattle.memory.specs.Cells.{Cells}
use Rattle.memory.specs.declared.accesses.Access.{Access}
use Rattle.memory.specs.declared.accesses.Answer.{Answer}

-- the accesses xs, begun at the memory start, have come to m, and ys are left
pub record Going {M : Type 0} (C : M → Cells) (R : M → ℕ → M → Type 0) (W : M → ℕ → ℕ → M → Type 0) (xs ys : List Access) (start m : M) : Type 0 where
  pub means : cells_after (C m) ys ≡ cells_after (C start) xs
  pub itself : (n : M) → Performed R W ys m n → Performed R W xs start n

module _ {M : Type 0} {C : M → Cells} {R : M → ℕ → M → Type 0} {W : M → ℕ → ℕ → M → Type 0} (xs : List Access) (i : ℕ) {start m : M} where
  -- the access at i is made
  pub going_on : (x : Access) (n : M) → i < length xs → Going C R W xs (drop i xs) start m → C n ≡ cells_by (C m) (get_or xs i x) → Accessed R W (get_or xs i x) m n → Going C R W xs (drop (i + 1) xs) start n
  going_on x n within so means own =
      let left = drop_more xs i x within in
      let from = subst (λ (ys : List Access). Going C R W xs ys start m) left so in
      record {
        means = ap (λ (f : Cells). cells_after f (drop (i + 1) xs)) means ∙ from.means;
        itself = λ k rest. from.itself k (n, own, rest);
      }

  -- none is left
  pub going_end : length xs ≤ i → Going C R W xs (drop i xs) start m → (C m ≡ cells_after (C start) xs) × Performed R W xs start m
  going_end past so =
      let from = subst (λ (ys : List Access). Going C R W xs ys start m) (drop_all i xs past) so in
      (from.means, from.itself m refl)

-- the answers so far, with those that are to come

pub answers_on : (xs : List Access) (i : ℕ) (x : Access) (f g : Cells) (got got' all : List Answer) → i < length xs → got ++ answers_of f (drop i xs) ≡ all → got' ≡ got ++ answer_of f (get_or xs i x) ∷ [] → g ≡ cells_by f (get_or xs i x) → got' ++ answers_of g (drop (i + 1) xs) ≡ all
answers_on xs i x f g got got' all within so more means =
    ap (λ (ws : List Answer). ws ++ answers_of g (drop (i + 1) xs)) more
    ∙ append_assoc got (answer_of f (get_or xs i x) ∷ []) (answers_of g (drop (i + 1) xs))
    ∙ ap (λ (k : Cells). got ++ answer_of f (get_or xs i x) ∷ answers_of k (drop (i + 1) xs)) means
    ∙ ap (λ (ys : List Access). got ++ answers_of f ys) (sym (drop_more xs i x within))
    ∙ so

pub answers_end : (xs : List Access) (i : ℕ) (f : Cells) (got all : List Answer) → length xs ≤ i → got ++ answers_of f (drop i xs) ≡ all → got ≡ all
answers_end xs i f got all past so =
    sym (append-nil got) ∙ ap (λ (ys : List Access). got ++ answers_of f ys) (sym (drop_all i xs past)) ∙ so

-- two memories answered alike so far, and go on to do so from the cells f and g, where ys are left
abbrev pub StillAlike : Bool → Cells → Cells → List Access → Type 0
StillAlike b f g ys = IsTrue b × Alike f g ys

one_more : (b s : Bool) (f g : Cells) (x : Access) (ys : List Access) (p q : Answer) → MatchBool s (p ≡ q) (p ≡ q → ⊥) → p ≡ answer_of f x → q ≡ answer_of g x → StillAlike b f g (x ∷ ys) ↔ StillAlike (b && s) (cells_by f x) (cells_by g x) ys
one_more true true f g x ys p q same one other = (λ so. let e = so.1 in (refl, cc), λ so. let e = so.1 in (refl, cc))
one_more true false f g x ys p q apart one other = (λ so. absurd (apart (let e = so.1 in cc)), λ so. absurd (let e = so.0 in cc))
one_more false s f g x ys p q _ one other = (λ so. absurd (let e = so.0 in cc), λ so. absurd (let e = so.0 in cc))

-- whole says that all of them are answered alike

pub alike_on : (b s : Bool) (whole : Type 0) (xs : List Access) (i : ℕ) (x : Access) (f g f' g' : Cells) (p q : Answer) → i < length xs → whole ↔ StillAlike b f g (drop i xs) → MatchBool s (p ≡ q) (p ≡ q → ⊥) → p ≡ answer_of f (get_or xs i x) → q ≡ answer_of g (get_or xs i x) → f' ≡ cells_by f (get_or xs i x) → g' ≡ cells_by g (get_or xs i x) → whole ↔ StillAlike (b && s) f' g' (drop (i + 1) xs)
alike_on b s whole xs i x f g f' g' p q within so same one other first second =
    let from = rw (drop_more xs i x within) at so in
    let on = one_more b s f g (get_or xs i x) (drop (i + 1) xs) p q same one other in
    rw (first, second) (λ w. on.0 (from.0 w), λ h. from.1 (on.1 h))

pub alike_end : (b : Bool) (whole : Type 0) (xs : List Access) (i : ℕ) (f g : Cells) → length xs ≤ i → whole ↔ StillAlike b f g (drop i xs) → IsTrue b ↔ whole
alike_end b whole xs i f g past so =
    let from = rw (drop_all i xs past) at so in
    (λ e. from.1 (e, refl), λ w. (from.0 w).0)
