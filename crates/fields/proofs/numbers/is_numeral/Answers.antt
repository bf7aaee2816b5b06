use Rattle.std.proofs.Common.{◌≡◌, ◌∙◌, rules, tests}
use Rattle.std.specs.Char.{is_ascii_digit}
use Rattle.std.specs.Str.{all_ascii_digits}
use Rattle.std.proofs.lemmas.Iterator.{YieldsList-from_slice}
use Rattle.std.proofs.lemmas.Iterator.Search.{all_from_yields_List}
use Rattle.fields.proofs.Digits.{list_all-digits}
use Rattle.fields.proofs.numbers.is_numeral.Goals as goal
use Rattle.fields.proofs.numbers.is_numeral.Goals.{in_default-via-then-field-lt2, in_default-via-else-field-lt2+in_default-1}

pub returns-in_default : goal.returns-in_default
returns-in_default c =
    let ds = c.args.field.now in
    let all : c.all.result ≡ all_ascii_digits ds = all_from_yields_List is_ascii_digit _ _ c.all.result c.all.ensures.ran (YieldsList-from_slice ds (cc)) (λ x b q k. search (rules, tests)) ∙ list_all-digits ds in
    elim c.in_default.branch [ in_default-via-then-field-lt2 w ↦ search rules | in_default-via-else-field-lt2+in_default-1 w ↦ search rules ]
