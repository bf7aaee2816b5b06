use Rattle.std.proofs.Common.{◌≡◌, ℕ, List, Bor, ◌+◌, ◌∷◌, length, take, drop, refl, ap, subst, sym, ◌∙◌, add-one, add_assoc, arith}
use Rattle.std.proofs.lemmas.List.{length-drop, drop-drop}
use Rattle.fields.specs.Newlines.{newlines}
use Rattle.fields.specs.Pieces.{pieces}
use Rattle.fields.specs.Tokens.{At}
use Rattle.fields.proofs.Cuts.{pieces-split, drop_split, length_split}
use Rattle.fields.proofs.Counting.{newlines_line, newlines_past}
use Rattle.fields.proofs.Fields.{line_stands}
use Rattle.fields.proofs.reader.Reader.enter.Goals as goal

pub invariant_of-self : goal.invariant_of-self
invariant_of-self c =
    let r = c.args.self.now in
    let bytes = c.args.bytes in
    let split = c.requires.split in
    let len = length_split 10 (drop r.next r.text.now) bytes.now c.requires.after split in
    let all = length-drop r.next r.text.now in
    let past = newlines_past r.text.now r.next bytes.now c.requires.after split in
    let end = ap (λ n. newlines (take n r.text.now)) (add_assoc r.next (length bytes.now) 1) in
    record {
      next_within = omega arith;
      few_lines = omega arith;
      place_within = r.next_within;
      counted = omega (arith, r.counted);
      stands = λ x is. let e : bytes ≡ x = cc in subst (λ (b : Bor (List ℕ)). At r.text.now b.now (r.line + 1) r.next) e (line_stands r.text.now bytes.now c.requires.after r.line r.next split r.counted);
      unbroken = λ x is. let e : bytes ≡ x = cc in subst (λ (b : Bor (List ℕ)). newlines b.now ≡ 0) e (newlines_line _ bytes.now c.requires.after split);
    }

pub returns : goal.returns
returns c =
    let r = c.args.self.now in
    let bytes = c.args.bytes.now in
    let n = length bytes + 1 in
    let split = c.requires.split in
    let left = sym (drop_split 10 (drop r.next r.text.now) bytes c.requires.after split) ∙ drop-drop n r.next r.text.now ∙ ap (λ k. drop k r.text.now) (sym (add_assoc r.next (length bytes) 1)) in
    record {
      text = refl;
      number = add-one _;
      begins = refl;
      line = bytes;
      cut = pieces-split 10 (drop r.next r.text.now) bytes c.requires.after split ∙ ap (λ bs. bytes ∷ pieces 10 bs) left;
      fields = refl;
    }
