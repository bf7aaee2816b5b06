-- Whole lines: a text cut at its bytes 10 is read line by line, each line joining the draft.
use Rattle.std.proofs.Common.{◌≡◌, ℕ, suc, Bool, true, false, cond, List, [], ◌∷◌, ◌++◌, Some, Ok, Err, Result, refl, ap, ◌∙◌}
use Rattle.fields.specs.declared.faults.FieldFault.{FieldFault}
use Rattle.fields.specs.declared.faults.FieldFault.TheVariants.{Bytes, Spacing}
use Rattle.fields.specs.Lines.{line_checked, all_printable, all_some, there}
use Rattle.fields.specs.Pieces.{pieces, joined_by, lacks}
use Rattle.instructions.specs.Keywords.{may_stand}
use Rattle.instructions.specs.Lines.{Said, fields_say, line_read, found, by_answer}
use Rattle.instructions.specs.Texts.{line_text}
use Rattle.instructions.specs.declared.types.Line.{Line}
use Rattle.instructions.specs.declared.types.Stage.{Stage}
use Rattle.grammar.specs.declared.faults.RoutineFault.{RoutineFault}
use Rattle.grammar.specs.Grammar.{LinesReadBack, LinesReadAsWritten, word_of, line_fits}
use Rattle.grammar.specs.Reads.{Draft, accept, onward, by_line, read_from}
use Rattle.grammar.specs.Texts.{ended}
use Rattle.fields.proofs.Cuts.{pieces_front}
use Rattle.grammar.proofs.Cutting.{printable-lacks}

-- the n-th line fits, may stand here, and joins the draft
pub record Step (n : ℕ) (d : Draft) (l : Line) (e : Draft) : Type 0 where
  pub fits : line_fits l ≡ true
  pub stands : may_stand d.stage (word_of l) ≡ true
  pub joins : accept l n d ≡ Ok e

-- the lines, the first of them the n-th, join the draft one after another
abbrev pub Taken : ℕ → Draft → List Line → Draft → Type 0
Taken n d [] f = d ≡ f
Taken n d (l ∷ ls) f = (e : Draft) × (Step n d l e × Taken (suc n) e ls f)

-- the pieces of a text of these lines: the last one is empty
abbrev pub texts : List Line → List (List ℕ)
texts [] = [] ∷ []
texts (l ∷ ls) = line_text l ∷ texts ls

some_texts : (ls : List Line) → texts ls ≡ [] → ⊥
some_texts [] e = cc
some_texts (l ∷ ls) e = cc

join_front : (f : List ℕ) (ps : List (List ℕ)) → (ps ≡ [] → ⊥) → joined_by 10 (f ∷ ps) ≡ f ++ (10 ∷ joined_by 10 ps)
join_front f [] ne = absurd (ne refl)
join_front f (p ∷ ps) ne = refl

pub joined_texts : (ls : List Line) → joined_by 10 (texts ls) ≡ ended ls
joined_texts [] = refl
joined_texts (l ∷ ls) = join_front (line_text l) (texts ls) (some_texts ls) ∙ ap (λ bs. line_text l ++ (10 ∷ bs)) (joined_texts ls)

pub cond_ok : {A E : Type 0} (b : Bool) (x : Result A E) (e : E) (a : A) → cond b x (Err e) ≡ Ok a → (b ≡ true) × (x ≡ Ok a)
cond_ok true x e a h = (refl, h)
cond_ok false x e a h = cc

checked_lacks : (bs : List ℕ) (n : ℕ) → line_checked bs n ≡ Ok tt → lacks 10 bs ≡ true
checked_lacks bs n e = printable-lacks bs (cond_ok (all_printable bs) (cond (all_some (pieces 32 bs)) (Ok tt) (Err (Spacing n))) (Bytes n) tt e).0

read_line : (stage : Stage) (bs : List ℕ) (ps : List (List ℕ)) (n : ℕ) (l : Line) → (ps ≡ [] → ⊥) → line_checked bs n ≡ Ok tt → fields_say stage (pieces 32 bs) n ≡ Ok l → line_read stage (bs ∷ ps) n ≡ Ok (Some l)
read_line stage bs [] n l ne c s = absurd (ne refl)
read_line stage bs (p ∷ ps) n l ne c s = ap (λ r. by_answer (there r) (fields_say stage (pieces 32 bs) n)) c ∙ ap found s

-- what the lines that were read are
pub record Only (ps : List (List ℕ)) (n : ℕ) (d f : Draft) : Type 0 where
  pub lines : List Line
  pub cut : ps ≡ texts lines
  pub taken : Taken n d lines f

only_last : (p : List ℕ) (n : ℕ) (d f : Draft) → read_from n d (p ∷ []) ≡ Ok f → Only (p ∷ []) n d f
only_last [] n d f e = record { lines = []; cut = refl; taken = cc }
only_last (c ∷ cs) n d f e = cc

module _ (back : LinesReadBack) (only : LinesReadAsWritten) where
  pub cut_lines : (ls : List Line) (n : ℕ) (d f : Draft) → Taken n d ls f → pieces 10 (ended ls) ≡ texts ls
  cut_lines [] n d f t = refl
  cut_lines (l ∷ ls) n d f (e, (s, t)) = pieces_front 10 (line_text l) (ended ls) (checked_lacks (line_text l) n (back d.stage l n s.fits s.stands).0) ∙ ap (λ ps. line_text l ∷ ps) (cut_lines ls (suc n) e f t)

  pub read_taken : (ls : List Line) (n : ℕ) (d f : Draft) → Taken n d ls f → read_from n d (texts ls) ≡ Ok f
  read_taken [] n d f t = ap (λ d. Ok d) t
  read_taken (l ∷ ls) n d f (e, (s, t)) =
      let b = back d.stage l n s.fits s.stands in
      ap (λ r. by_line r (Ok d) (λ l. onward (accept l n d) (λ e. read_from (suc n) e (texts ls)))) (read_line d.stage (line_text l) (texts ls) n l (some_texts ls) b.0 b.1)
      ∙ ap (λ r. onward r (λ e. read_from (suc n) e (texts ls))) s.joins
      ∙ read_taken ls (suc n) e f t

  only_joined : (a : Result Draft RoutineFault) (l : Line) (p : List ℕ) (ps : List (List ℕ)) (n : ℕ) (d f : Draft) → accept l n d ≡ a → fields_say d.stage (pieces 32 p) n ≡ Ok l → ((e : Draft) → read_from (suc n) e ps ≡ Ok f → Only ps (suc n) e f) → onward a (λ e. read_from (suc n) e ps) ≡ Ok f → Only (p ∷ ps) n d f
  only_joined (Ok e) l p ps n d f j s rest h =
      let o = only d.stage p n l s in
      let q = rest e h in
      record { lines = l ∷ q.lines; cut = (λ i. o.0 i ∷ q.cut i); taken = (e, (record { fits = o.1.0; stands = o.1.1; joins = j }, q.taken)) }
  only_joined (Err x) l p ps n d f j s rest h = cc

  only_said : (s : Said) (p : List ℕ) (ps : List (List ℕ)) (n : ℕ) (d f : Draft) → fields_say d.stage (pieces 32 p) n ≡ s → ((e : Draft) → read_from (suc n) e ps ≡ Ok f → Only ps (suc n) e f) → by_line (found s) (Ok d) (λ l. onward (accept l n d) (λ e. read_from (suc n) e ps)) ≡ Ok f → Only (p ∷ ps) n d f
  only_said (Ok l) p ps n d f s rest h = only_joined (accept l n d) l p ps n d f refl s rest h
  only_said (Err x) p ps n d f s rest h = cc

  only_checked : (c : Result (Unit {0}) FieldFault) (p : List ℕ) (ps : List (List ℕ)) (n : ℕ) (d f : Draft) → ((e : Draft) → read_from (suc n) e ps ≡ Ok f → Only ps (suc n) e f) → by_line (by_answer (there c) (fields_say d.stage (pieces 32 p) n)) (Ok d) (λ l. onward (accept l n d) (λ e. read_from (suc n) e ps)) ≡ Ok f → Only (p ∷ ps) n d f
  only_checked (Ok u) p ps n d f rest h = only_said (fields_say d.stage (pieces 32 p) n) p ps n d f refl rest h
  only_checked (Err x) p ps n d f rest h = cc

  pub read_only : (ps : List (List ℕ)) (n : ℕ) (d f : Draft) → (ps ≡ [] → ⊥) → read_from n d ps ≡ Ok f → Only ps n d f
  read_only [] n d f ne h = absurd (ne refl)
  read_only (p ∷ []) n d f ne h = only_last p n d f h
  read_only (p ∷ (q ∷ qs)) n d f ne h = only_checked (line_checked p n) p (q ∷ qs) n d f (λ e k. read_only (q ∷ qs) (suc n) e f (λ z. cc) k) h
