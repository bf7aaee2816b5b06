use Rattle.std.proofs.Common.{◌+◌, List, ◌++◌, map, drop, string_bytes, sym, ap, ◌∙◌, append_assoc, add-one}
use Rattle.std.proofs.lemmas.List.{at_drop_more}
use Rattle.routine.specs.Parties.{code_of}
use Rattle.routine.specs.declared.party.Party.{Party}
use Rattle.reports.specs.Fences.{fate_lines, party_fates}
use Rattle.reports.proofs.fences.add_fates.Goals as goal

-- the lines of one party come first of those that are left
pub loop-number-preserved : goal.loop-number-preserved
loop-number-preserved c =
    let n = c.loop-number.number in
    let items = c.parties-party-items.result.now in
    let fs = map code_of c.parties-forward.result.now in
    let ts = map code_of c.parties-both.result.now in
    let code = c.code.ensures ∙ ap code_of c.party-item.is in
    let line = fate_lines n 0 c.code.result.now c.code_at-after_forward.result.now c.code_at-after_both.result.now in
    let rest = party_fates (n + 1) (map code_of (drop (n + 1) items)) fs ts in
    ap (λ bs. bs ++ rest) c.in_ok-add_party_fates.ensures
    ∙ append_assoc (string_bytes c.loop-number.out) line rest
    ∙ ap (λ bs. string_bytes c.loop-number.out ++ bs)
    ((λ i. fate_lines n 0 (code i) (c.code_at-after_forward.ensures i) (c.code_at-after_both.ensures i) ++ party_fates (add-one n i) (map code_of (drop (n + 1) items)) fs ts)
    ∙ sym (at_drop_more (λ (ps : List Party). party_fates n (map code_of ps) fs ts) items n c.party-item.result c.loop-number-test.true))
    ∙ c.loop-number.invariant
