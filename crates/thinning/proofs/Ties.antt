-- What ties the two sides of a double run together, and what a party of it can say.
use Rattle.std.proofs.Common.{◌≡◌, ℕ, ◌+◌, ◌<◌, false, eqb, List, [], ◌∷◌, ◌++◌, length, Some, Option, sym, refl, ap, ◌∙◌, inl, inr, append-nil}
use mathlib.Core.Path.{transport}
use Rattle.instructions.specs.declared.types.Instruction.{Instruction}
use Rattle.instructions.specs.declared.types.Instruction.TheVariants.{Fence, Nop}
use Rattle.grammar.specs.Listings.{Listing, code_at, addresses_of}
use Rattle.memory.specs.Cells.{Cells}
use Rattle.paths.specs.Paths.{Code}
use Rattle.paths.specs.Marks.{Exposed}
use Rattle.orders.specs.declared.entries.Entry.{Entry}
use Rattle.orders.specs.declared.entries.Entry.TheVariants.{Step, Drain}
use Rattle.tso.specs.Machine.{Party, State, moved, depth_of, stepped, words_after, next, runs}
use Rattle.tso.specs.Openings.{opening, AcceptsTo}
use Rattle.tso.specs.Outcomes.{within, restricted, restricted_turn}
use Rattle.tso.specs.Traces.{stood_at, exchanged, steps_of, arrivals_of, occurs}
use Rattle.tso.proofs.Restriction.{next-restricted}
use Rattle.thinning.specs.Pairs.{Pair}
use Rattle.thinning.proofs.Updates.{eqb_self}
use Rattle.thinning.proofs.Growing.{gathered_snoc}
use Rattle.thinning.proofs.Positions.{Alike}
use Rattle.thinning.proofs.Ahead.{Silent, nothing_held, Ahead, silent_stepped, silent_words, silent_exchanged, ahead_none}
use Rattle.thinning.proofs.Clean.{OnPath}

-- the steps of a party that are accepted and not on the tape
abbrev pub owed : (ℕ → ℕ) → Entry → ℕ
owed behind (Step p) = behind p
owed behind (Drain p) = 0

-- one party on the two sides: x on the original side, y on the thinned one, n steps behind; xs and ys are the positions that it has stepped from
pub record Tie (depth : ℕ) (o f t : Code) (n : ℕ) (x y : Party) (xs ys : List ℕ) : Type 0 where
  pub ks : List ℕ
  pub late : length ks ≡ n
  pub ahead : Ahead depth t ks x y
  pub on_path : OnPath o x
  pub hidden : 0 < n → ¬ Exposed f y.position
  pub steps : ys ≡ xs ++ ks

pub tie_move : {depth : ℕ} {o f t : Code} {n n' : ℕ} {x x' y y' : Party} {a a' b b' : List ℕ}
    → n' ≡ n → x' ≡ x → y' ≡ y → a' ≡ a → b' ≡ b → Tie depth o f t n x y a b → Tie depth o f t n' x' y' a' b'
tie_move {depth} {o} {f} {t} p q r s z v = transport (λ i. Tie depth o f t (sym p i) (sym q i) (sym r i) (sym s i) (sym z i)) v

abbrev pub TieAt : Listing → Listing → Listing → Cells → Cells → Pair → ℕ → Type 0
TieAt o f t m n d q =
    Tie (depth_of t) (code_at o q) (code_at f q) (code_at t q) (d.behind q) (d.original.party q) (d.thinned.party q) (steps_of q o d.tape (opening o n)) (steps_of q t d.accepted (opening t m))

-- what every move keeps; m and n are the cells on which the two sides were opened
pub record Tied (o f t : Listing) (m n : Cells) (d : Pair) : Type 0 where
  pub thinned_run : AcceptsTo t m d.accepted d.thinned
  pub original_run : AcceptsTo o n d.tape d.original
  pub words : within (addresses_of t) d.thinned.words ≡ within (addresses_of t) d.original.words
  pub counts : (e : Entry) → occurs e d.accepted ≡ occurs e d.tape + owed d.behind e
  pub arrivals : arrivals_of t d.accepted (opening t m) ≡ arrivals_of o d.tape (opening o n)
  pub tie : (q : ℕ) → TieAt o f t m n d q

abbrev pub pair_of : State → State → List Entry → List Entry → (ℕ → ℕ) → Pair
pair_of u v xs es b = record { thinned = u; original = v; tape = xs; accepted = es; behind = b }

-- a turn on the routine's words alone
pub restricted_moved : (l : Listing) (e : Entry) (s u : State) → next l e s ≡ moved u → next l e (restricted l s) ≡ moved (restricted l u)
restricted_moved l e s u h = next-restricted l e s ∙ ap (restricted_turn l) h

-- the steps of a party after one more entry
module _ (l : Listing) (es : List Entry) (p : ℕ) (s u v : State) (run : runs l es s ≡ Some u) where
  pub steps_other : next l (Step p) u ≡ moved v → (q : ℕ) → eqb q p ≡ false → steps_of q l (es ++ (Step p ∷ [])) s ≡ steps_of q l es s
  steps_other k q e = let a = gathered_snoc (stood_at q) l es (Step p) s u v run k in let b = append-nil (steps_of q l es s) in cc

  pub steps_same : next l (Step p) u ≡ moved v → steps_of p l (es ++ (Step p ∷ [])) s ≡ steps_of p l es s ++ ((u.party p).position ∷ [])
  steps_same k = let a = gathered_snoc (stood_at p) l es (Step p) s u v run k in let b = eqb_self p in cc

  pub steps_drain : next l (Drain p) u ≡ moved v → (q : ℕ) → steps_of q l (es ++ (Drain p ∷ [])) s ≡ steps_of q l es s
  steps_drain k q = gathered_snoc (stood_at q) l es (Drain p) s u v run k ∙ append-nil (steps_of q l es s)

-- a party that is not behind
pub tie_level : {depth : ℕ} {o f t : Code} {n : ℕ} {x y : Party} {a b : List ℕ} → Tie depth o f t n x y a b → n ≡ 0 → x ≡ y
tie_level v e = ahead_none v.ks (v.late ∙ e) v.ahead

no_more : (ks a : List ℕ) → length ks ≡ 0 → a ++ ks ≡ a
no_more [] a e = append-nil a
no_more (k ∷ ks) a e = cc

pub tie_steps : {depth : ℕ} {o f t : Code} {n : ℕ} {x y : Party} {a b : List ℕ} → Tie depth o f t n x y a b → n ≡ 0 → b ≡ a
tie_steps {a = a} v e = v.steps ∙ no_more v.ks a (v.late ∙ e)

-- alike instructions bring the same into memory
pub exchanged_alike : (a b : Option Instruction) (p : ℕ) (x : Party) → Alike a b → exchanged b p x ≡ exchanged a p x
exchanged_alike a b p x (inl e) = rw e refl
exchanged_alike a b p x (inr e) = cc

-- where the thinned code's instruction is silent, so is the original's, once it is accepted
pub alike_silent : (a b : Option Instruction) (j i : Instruction) (p : ℕ) (x : Party) (m : Cells) → Alike a b → a ≡ Some j → b ≡ Some i → Silent i
    → (stepped j x m ≡ stepped i x nothing_held) × (words_after j x m ≡ m) × (exchanged a p x ≡ [])
alike_silent a b j i p x m (inl e) g h q =
    let c : j ≡ i = cc in
    let r = silent_stepped i q x m nothing_held in
    let s = silent_words i q x m in
    let v = silent_exchanged i p x q in
    (cc, cc, cc)
alike_silent a b j i p x m (inr e) g h q =
    let c : j ≡ Fence = cc in
    let r : i ≡ Nop = cc in
    (cc, cc, cc)
