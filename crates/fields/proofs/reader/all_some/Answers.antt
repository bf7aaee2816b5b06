use Rattle.std.proofs.Common.{not, eqb, length, ◌∙◌, rules, tests}
use Rattle.std.proofs.lemmas.Iterator.Search.{all_from_yields_List}
use Rattle.std.proofs.lemmas.Iterator.Splits.{YieldsList-from_slice_split}
use Rattle.fields.specs.Pieces.{pieces}
use Rattle.fields.proofs.Spaces.{all_some-is}
use Rattle.fields.proofs.reader.all_some.Goals as goal

pub returns : goal.returns
returns c =
    all_from_yields_List (λ f. not (eqb (length f) 0)) _ _ _ c.all.ensures.ran
    (YieldsList-from_slice_split _ (λ b. eqb b 32) c.args.line.now c.split.ensures.rest c.split.ensures.done c.split.ensures.closure (λ x r q k. search (rules, tests)))
    (λ x b q k. search (rules, tests))
    ∙ all_some-is (pieces 32 c.args.line.now)
