-- A text at its first separator.
use Rattle.std.proofs.Common.{◌≡◌, ℕ, ◌+◌, ◌<◌, Bool, true, false, cond, eqb, List, [], ◌∷◌, ◌++◌, length, take, drop, get_or, Some, None, Option, sym, refl, ap, subst, ◌∙◌, ⊎_elim, one-add, arith, length-append}
use Rattle.std.specs.List.{All, prefix_len, position}
use Rattle.std.proofs.lemmas.Bool.{and_from, not-true, eq-eqb, eqb-true, cond-true, cond-false, cases_lt, lt-ltb, le-ltb}
use Rattle.std.proofs.Math.Seq.{take-append_seam, take-append-add, drop-append-add}
use Rattle.std.proofs.lemmas.List.{take_all}
use Rattle.std.proofs.lemmas.List.Splits.{slice_split_none, slice_split_at}
use Rattle.std.proofs.lemmas.List.Sums.{AllPass-from_list_all, split_at_first, passes_at_first}
use Rattle.fields.specs.Pieces.{pieces, other, lacks, IsSplit}

none_is : (sep : ℕ) (f : List ℕ) → lacks sep f ≡ true → All (λ c. eqb c sep ≡ false) f
none_is sep f h = λ k d low. not-true _ (AllPass-from_list_all (other sep) f h k d low)

-- a piece without the separator, at the end and before one
pub pieces_one : (sep : ℕ) (f : List ℕ) → lacks sep f ≡ true → pieces sep f ≡ f ∷ []
pieces_one sep f h = slice_split_none (λ c. eqb c sep) f (none_is sep f h)

pub pieces_front : (sep : ℕ) (f rest : List ℕ) → lacks sep f ≡ true → pieces sep (f ++ (sep ∷ rest)) ≡ f ∷ pieces sep rest
pieces_front sep f rest h = slice_split_at (λ c. eqb c sep) f sep rest (none_is sep f h) (eq-eqb sep sep refl)

pub pieces-split : (sep : ℕ) (text before after : List ℕ) → IsSplit sep text before after → pieces sep text ≡ before ∷ pieces sep after
pieces-split sep text before after s = ap (pieces sep) s.whole ∙ pieces_front sep before after s.first

front_at : (b : Bool) (sep c n : ℕ) (cs : List ℕ) → other sep c ≡ b → lacks sep (take n cs) ≡ true → lacks sep (take (cond b (1 + n) 0) (c ∷ cs)) ≡ true
front_at true sep c n cs e h = rw one-add (and_from _ _ e h)
front_at false sep c n cs e h = refl

lacks_front : (sep : ℕ) (cs : List ℕ) → lacks sep (take (prefix_len (other sep) cs) cs) ≡ true
lacks_front sep [] = refl
lacks_front sep (c ∷ cs) = front_at (other sep c) sep c (prefix_len (other sep) cs) cs refl (lacks_front sep cs)

-- what the place of the first separator says
pub split_none : (sep : ℕ) (cs : List ℕ) → position (λ c. eqb c sep) cs ≡ None → lacks sep cs ≡ true
split_none sep cs e = ⊎_elim
    (λ low. absurd (let z : Some (prefix_len (other sep) cs) ≡ None = sym (cond-true _ _ _ (lt-ltb _ _ low)) ∙ e in cc))
    (λ high. ap (lacks sep) (sym (take_all (prefix_len (other sep) cs) cs high)) ∙ lacks_front sep cs)
    (cases_lt (prefix_len (other sep) cs) (length cs))

split_at : (sep : ℕ) (cs : List ℕ) → prefix_len (other sep) cs < length cs → IsSplit sep cs (take (prefix_len (other sep) cs) cs) (drop (prefix_len (other sep) cs + 1) cs)
split_at sep cs h =
    let is : get_or cs (prefix_len (other sep) cs) 0 ≡ sep = eqb-true _ _ (passes_at_first (λ c. eqb c sep) cs 0 h) in
    record {
      whole = split_at_first (λ c. eqb c sep) cs 0 h ∙ ap (λ c. take (prefix_len (other sep) cs) cs ++ (c ∷ drop (prefix_len (other sep) cs + 1) cs)) is;
      first = lacks_front sep cs;
    }

pub split_some : (sep n : ℕ) (cs : List ℕ) → position (λ c. eqb c sep) cs ≡ Some n → IsSplit sep cs (take n cs) (drop (n + 1) cs)
split_some sep n cs e = ⊎_elim
    (λ low.
    let same : Some (prefix_len (other sep) cs) ≡ Some n = sym (cond-true _ _ _ (lt-ltb _ _ low)) ∙ e in
    let is : prefix_len (other sep) cs ≡ n = cc in
    subst (λ k. IsSplit sep cs (take k cs) (drop (k + 1) cs)) is (split_at sep cs low))
    (λ high. absurd (let z : ◌≡◌ {A = Option ℕ} None (Some n) = sym (cond-false _ _ _ (le-ltb _ _ high)) ∙ e in cc))
    (cases_lt (prefix_len (other sep) cs) (length cs))

-- a text up to its first separator, and past it
pub take_split : (sep : ℕ) (text before after : List ℕ) → IsSplit sep text before after → take (length before + 1) text ≡ before ++ (sep ∷ [])
take_split sep text before after s = ap (take (length before + 1)) s.whole ∙ take-append-add before (sep ∷ after) 1

pub front_split : (sep : ℕ) (text before after : List ℕ) → IsSplit sep text before after → take (length before) text ≡ before
front_split sep text before after s = ap (take (length before)) s.whole ∙ take-append_seam before (sep ∷ after)

pub drop_split : (sep : ℕ) (text before after : List ℕ) → IsSplit sep text before after → drop (length before + 1) text ≡ after
drop_split sep text before after s = ap (drop (length before + 1)) s.whole ∙ drop-append-add before (sep ∷ after) 1

pub length_split : (sep : ℕ) (text before after : List ℕ) → IsSplit sep text before after → length text ≡ length before + 1 + length after
length_split sep text before after s = omega (arith, ap length s.whole, length-append before (sep ∷ after))
