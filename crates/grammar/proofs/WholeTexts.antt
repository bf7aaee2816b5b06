-- Whole texts: exactly what is written of a lawful routine is read, and so exactly what spells one.
use Rattle.std.proofs.Common.{◌≡◌, ℕ, true, cond, ◌&&◌, leb, List, [], length, Ok, Err, Result, sym, refl, ap, ◌∙◌, subst, arith}
use Rattle.std.proofs.lemmas.Bool.{and_parts, and_from, le-leb, cond-true}
use Rattle.fields.specs.Pieces.{pieces, joined_by}
use Rattle.instructions.specs.declared.types.Line.{Line}
use Rattle.grammar.specs.declared.faults.RoutineFault.{RoutineFault}
use Rattle.grammar.specs.declared.faults.RoutineFault.TheVariants as fault
use Rattle.grammar.specs.Grammar.{LinesReadBack, LinesReadAsWritten, ReadsExactly, WrittenIsRead, ReadIsWritten, Spells}
use Rattle.grammar.specs.Listings.{Listing, fewest_parties, addresses_of, lawful, inits_fit, parties_lawful, parties_fit}
use Rattle.grammar.specs.Reads.{Draft, blank, read_from, read_of, onward, outside, listed, finished}
use Rattle.grammar.specs.Texts.{ended, init_lines, party_lines, lines_of, text_of}
use Rattle.fields.proofs.Answered.{pieces-some}
use Rattle.std.proofs.lemmas.List.Splits.{join_with_byte-slice_split}
use Rattle.grammar.proofs.LineLists.{cond_ok, joined_texts, cut_lines, read_taken, read_only}
use Rattle.grammar.proofs.Drafts.{Limits, limits, within_limits}
use Rattle.grammar.proofs.LawfulTaken.{Reaches, lawful-taken}
use Rattle.grammar.proofs.TakenLawful.{FromBefore, taken-lawful}
use Rattle.grammar.proofs.Spelling.{lines_are, lines_spelled, lines_of_fit}
use Rattle.grammar.proofs.Lengths.{text_length, text_some}

-- what is asked at the text's end
record Finished (f : Draft) (l : Listing) : Type 0 where
  closed : outside f.stage ≡ true
  fewest : leb fewest_parties (length f.parties) ≡ true
  addresses : leb (length (addresses_of (listed f))) 32 ≡ true
  is : listed f ≡ l

finished_parts : (f : Draft) (l : Listing) → finished f ≡ Ok l → Finished f l
finished_parts f l h =
    let p = cond_ok (outside f.stage && leb fewest_parties (length f.parties)) (cond (leb (length (addresses_of (listed f))) 32) (Ok (listed f)) (Err fault.Addresses)) fault.Unfinished l h in
    let q = cond_ok (leb (length (addresses_of (listed f))) 32) (Ok (listed f)) fault.Addresses l p.1 in
    let a = and_parts _ _ p.0 in
    let e = q.1 in
    record { closed = a.0; fewest = a.1; addresses = q.0; is = cc }

finished_is : (f : Draft) (l : Listing) → Finished f l → finished f ≡ Ok l
finished_is f l k = cond-true _ _ _ (and_from _ _ k.closed k.fewest) ∙ cond-true _ _ _ k.addresses ∙ ap (λ l. Ok l) k.is

-- the draft that a lawful routine's lines leave
reached_finished : (l : Listing) → Limits l → (r : Reaches 1 blank (lines_of l) l.inits l.parties) → Finished r.last l
reached_finished l k r =
    let e : listed r.last ≡ l = (λ i. record { inits = r.inits i; parties = r.parties i }) in
    record { closed = r.closed; fewest = ap (λ l. leb fewest_parties (length l.parties)) e ∙ k.fewest; addresses = ap (λ l. leb (length (addresses_of l)) 32) e ∙ k.addresses; is = e }

-- the routine of lines that were taken is lawful, and they are its lines
listed-lawful : (ls : List Line) (f : Draft) (l : Listing) → FromBefore [] [] ls f → Finished f l → (ended ls ≡ text_of l) × (lawful l ≡ true)
listed-lawful ls f l t k =
    let text : ended ls ≡ text_of (listed f) = ap ended t.lines ∙ ap (λ is. ended (init_lines is (party_lines t.rest))) (sym t.inits) ∙ ap (λ ps. ended (init_lines f.inits (party_lines ps))) (sym t.parties) in
    let law : lawful (listed f) ≡ true = within_limits (listed f) (record {
      fewest = k.fewest;
      most = t.most;
      parties = ap parties_lawful t.parties ∙ t.law;
      count = t.count;
      order = t.order;
      inits_are_fit = ap inits_fit t.inits ∙ t.inits_are_fit;
      parties_are_fit = ap parties_fit t.parties ∙ t.fit;
      addresses = k.addresses;
    }) in
    subst (λ l. (ended ls ≡ text_of l) × (lawful l ≡ true)) k.is (text, law)

module _ (back : LinesReadBack) (only : LinesReadAsWritten) where
  read_back : (bs : List ℕ) (l : Listing) (r : Result Draft RoutineFault) → read_from 1 blank (pieces 10 bs) ≡ r → onward r finished ≡ Ok l → (bs ≡ text_of l) × (lawful l ≡ true)
  read_back bs l (Ok f) e h =
      let k = finished_parts f l h in
      let q = read_only back only (pieces 10 bs) 1 blank f (pieces-some 10 bs) e in
      let p = listed-lawful q.lines f l (taken-lawful q.lines f q.taken k.closed) k in
      (sym (join_with_byte-slice_split 10 bs) ∙ ap (joined_by 10) q.cut ∙ joined_texts q.lines ∙ p.0, p.1)
  read_back bs l (Err x) e h = cc

  pub read_is_written : ReadIsWritten
  read_is_written bs l e =
      let p = cond_ok (leb 1 (length bs) && leb (length bs) 8192) (onward (read_from 1 blank (pieces 10 bs)) finished) fault.Length l e in
      read_back bs l (read_from 1 blank (pieces 10 bs)) refl p.1

  pub written_is_read : WrittenIsRead
  written_is_read l h =
      let k = limits l h in
      let short = text_length l k in
      let r = lawful-taken l k in
      let long = text_some l k in (
        cond-true _ _ _ (and_from _ _ (le-leb 1 (length (text_of l)) long) (le-leb (length (text_of l)) 8192 (omega arith)))
            ∙ ap (λ ps. onward (read_from 1 blank ps) finished) (cut_lines back only (lines_of l) 1 blank r.last r.taken)
            ∙ ap (λ x. onward x finished) (read_taken back only (lines_of l) 1 blank r.last r.taken)
            ∙ finished_is r.last l (reached_finished l k r),
        short,
      )

  pub reads_exactly : ReadsExactly
  reads_exactly bs l = (
    (λ e. let p = read_is_written bs l e in (subst (λ bs. Spells bs l) (sym p.0) (lines_spelled (lines_of l) (lines_of_fit l (limits l p.1))), p.1)),
    (λ s h. ap read_of (lines_are s (lines_of_fit l (limits l h))) ∙ (written_is_read l h).0),
  )
