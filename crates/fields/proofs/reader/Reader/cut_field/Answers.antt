use Rattle.std.proofs.Common.{◌≡◌, ℕ, List, Bor, ◌+◌, [], length, refl, ap, subst, ◌∙◌, arith}
use Rattle.std.specs.Option.{option_map_or}
use Rattle.fields.specs.Newlines.{newlines}
use Rattle.fields.specs.Pieces.{pieces}
use Rattle.fields.specs.Tokens.{At}
use Rattle.fields.proofs.Cuts.{pieces_one, pieces-split, length_split}
use Rattle.fields.proofs.Fields.{rest_within, field_stands, others_stand, others_unbroken}
use Rattle.fields.proofs.reader.Reader.cut_field.Goals as goal

pub invariant_of-self : goal.invariant_of-self
invariant_of-self c =
    let r = c.args.self.now in
    let rest = c.in_ok-rest.rest in
    let field = c.in-Some.field.now in
    let others = c.in-Some.others in
    let at = r.stands rest c.in_ok-rest.was in
    let none = r.unbroken rest c.in_ok-rest.was in
    let split = c.in-Some.ensures in
    record {
      next_within = r.next_within;
      few_lines = r.few_lines;
      place_within = omega (arith, rest_within r.text.now rest.now r.line r.place at r.place_within, length_split 32 rest.now field others.now split);
      counted = r.counted;
      stands = λ x is. let e : others ≡ x = cc in subst (λ (b : Bor (List ℕ)). At r.text.now b.now r.line (r.place + (length field + 1))) e (others_stand r.text.now rest.now r.line r.place at field others.now split none);
      unbroken = λ x is. let e : others ≡ x = cc in subst (λ (b : Bor (List ℕ)). newlines b.now ≡ 0) e (others_unbroken r.text.now rest.now r.line r.place at field others.now split none);
    }

pub returns-in-Some : goal.returns-in-Some
returns-in-Some c =
    let r = c.args.self.now in
    let rest = c.in_ok-rest.rest in
    let field = c.in-Some.field.now in
    let others = c.in-Some.others.now in
    record {
      text = refl;
      line = refl;
      next = refl;
      cut = ap (λ o. option_map_or (λ bs. pieces 32 bs.now) o []) c.in_ok-rest.was ∙ pieces-split 32 rest.now field others c.in-Some.ensures;
      stands = field_stands r.text.now rest.now r.line r.place (r.stands rest c.in_ok-rest.was) field others c.in-Some.ensures;
    }

pub returns-in-None : goal.returns-in-None
returns-in-None c =
    let r = c.args.self.now in
    let rest = c.in_ok-rest.rest in
    record {
      text = refl;
      line = refl;
      next = refl;
      cut = ap (λ o. option_map_or (λ bs. pieces 32 bs.now) o []) c.in_ok-rest.was ∙ pieces_one 32 rest.now c.in-None.ensures;
      stands = r.stands rest c.in_ok-rest.was;
    }
