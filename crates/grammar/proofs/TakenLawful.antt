-- Lines that are taken in turn, with no party open at the end, are those of a routine within its limits.
use Rattle.std.proofs.Common.{◌≡◌, ℕ, suc, ◌<◌, ◌≤◌, true, cond, ltb, List, [], ◌∷◌, ◌++◌, length, Ok, Err, sym, refl, ap, ◌∙◌, subst, append_assoc, append-nil, arith, length-append}
use Rattle.std.proofs.lemmas.Bool.{and_from, le-leb, ltb-true, both_ways}
use Rattle.instructions.specs.declared.types.Init.{Init}
use Rattle.instructions.specs.declared.types.Instruction.{Instruction}
use Rattle.instructions.specs.declared.types.Line.{Line}
use Rattle.instructions.specs.declared.types.Line.TheVariants as line
use Rattle.instructions.specs.declared.types.Stage.{Stage}
use Rattle.instructions.specs.declared.types.Stage.TheVariants.{Before, Inside, Between}
use Rattle.grammar.specs.declared.faults.RoutineFault.TheVariants as fault
use Rattle.grammar.specs.Listings.{rising, party_lawful, parties_lawful, targets_within, instruction_fits, code_fits, parties_fit, init_fits, inits_fit}
use Rattle.grammar.specs.Reads.{Draft, outside, accept, above}
use Rattle.grammar.specs.Texts.{code_lines, party_lines, init_lines}
use Rattle.grammar.proofs.LineLists.{Taken, cond_ok}
use Rattle.grammar.proofs.Drafts.{draft, instruction_stands, rising_snoc}

-- what each line asked, and the draft that it leaves
module _ (n : ℕ) (is : List Init) (ps : List (List Instruction)) (c : List Instruction) (s : Stage) (e : Draft) where
  init_joins_lem : (i : Init) → accept (line.Init i) n (draft is ps c s) ≡ Ok e → (above i.address is ≡ true) × ((length is < 16) × (draft (is ++ (i ∷ [])) ps c s ≡ e))
  init_joins_lem i h =
      let p = cond_ok (above i.address is) (cond (ltb (length is) 16) (Ok (draft (is ++ (i ∷ [])) ps c s)) (Err (fault.Room n))) (fault.Order n) e h in
      let q = cond_ok (ltb (length is) 16) (Ok (draft (is ++ (i ∷ [])) ps c s)) (fault.Room n) e p.1 in
      (p.0, (ltb-true _ _ q.0, cc q.1))

  party_joins : accept line.Party n (draft is ps c s) ≡ Ok e → (length ps < 4) × (draft is ps [] Inside ≡ e)
  party_joins h =
      let p = cond_ok (ltb (length ps) 4) (Ok (draft is ps [] Inside)) (fault.Room n) e h in
      (ltb-true _ _ p.0, cc p.1)

  instruction_joins : (i : Instruction) → accept (line.Instruction i) n (draft is ps c s) ≡ Ok e → (length c < 32) × (draft is ps (c ++ (i ∷ [])) s ≡ e)
  instruction_joins i h =
      let p = cond_ok (ltb (length c) 32) (Ok (draft is ps (c ++ (i ∷ [])) s)) (fault.Room n) e h in
      (ltb-true _ _ p.0, cc p.1)

  end_joins : accept line.End n (draft is ps c s) ≡ Ok e → (ltb 0 (length c) ≡ true) × ((targets_within (length c) c ≡ true) × (draft is (ps ++ (c ∷ [])) [] Between ≡ e))
  end_joins h =
      let p = cond_ok (ltb 0 (length c)) (cond (targets_within (length c) c) (Ok (draft is (ps ++ (c ∷ [])) [] Between)) (Err (fault.Target n))) (fault.Empty n) e h in
      let q = cond_ok (targets_within (length c) c) (Ok (draft is (ps ++ (c ∷ [])) [] Between)) (fault.Target n) e p.1 in
      (p.0, (q.0, cc q.1))

-- what is still to come between parties
record FromBetween (is : List Init) (ps : List (List Instruction)) (ls : List Line) (f : Draft) : Type 0 where
  rest : List (List Instruction)
  lines : ls ≡ party_lines rest
  inits : f.inits ≡ is
  parties : f.parties ≡ ps ++ rest
  law : parties_lawful rest ≡ true
  fit : parties_fit rest ≡ true
  most : length f.parties ≤ 4

-- what is still to come inside a party, of which c has been read
record FromInside (is : List Init) (ps : List (List Instruction)) (c : List Instruction) (ls : List Line) (f : Draft) : Type 0 where
  code : List Instruction
  rest : List (List Instruction)
  lines : ls ≡ code_lines code (party_lines rest)
  inits : f.inits ≡ is
  parties : f.parties ≡ ps ++ ((c ++ code) ∷ rest)
  party : party_lawful (c ++ code) ≡ true
  code_is_fit : code_fits code ≡ true
  law : parties_lawful rest ≡ true
  fit : parties_fit rest ≡ true
  most : length f.parties ≤ 4

-- what is still to come before any party
pub record FromBefore (is : List Init) (ps : List (List Instruction)) (ls : List Line) (f : Draft) : Type 0 where
  pub more : List Init
  pub rest : List (List Instruction)
  pub lines : ls ≡ init_lines more (party_lines rest)
  pub inits : f.inits ≡ is ++ more
  pub parties : f.parties ≡ ps ++ rest
  pub order : rising f.inits ≡ true
  pub count : length f.inits ≤ 16
  pub inits_are_fit : inits_fit more ≡ true
  pub law : parties_lawful rest ≡ true
  pub fit : parties_fit rest ≡ true
  pub most : length f.parties ≤ 4

abbrev Kept : Stage → List (List Instruction) → List Instruction → Type 0
Kept Before ps c = length ps ≤ 4
Kept Inside ps c = (length ps < 4) × (length c ≤ 32)
Kept Between ps c = length ps ≤ 4

abbrev Ahead : Stage → List Init → List (List Instruction) → List Instruction → List Line → Draft → Type 0
Ahead Before is ps c ls f = FromBefore is ps ls f
Ahead Inside is ps c ls f = FromInside is ps c ls f
Ahead Between is ps c ls f = FromBetween is ps ls f

-- at the end of the text
ahead_none : (s : Stage) (is : List Init) (ps : List (List Instruction)) (c : List Instruction) (f : Draft) → rising is ≡ true → length is ≤ 16 → Kept s ps c → draft is ps c s ≡ f → outside f.stage ≡ true → Ahead s is ps c [] f
ahead_none Before is ps c f r k room t o =
    subst (λ f. FromBefore is ps [] f) t (record { more = []; rest = []; lines = refl; inits = sym (append-nil is); parties = sym (append-nil ps); order = r; count = k; inits_are_fit = refl; law = refl; fit = refl; most = room })
ahead_none Inside is ps c f r k room t o = absurd (both_ways (outside f.stage) (sym (ap (λ d. outside d.stage) t)) o)
ahead_none Between is ps c f r k room t o =
    subst (λ f. FromBetween is ps [] f) t (record { rest = []; lines = refl; inits = refl; parties = sym (append-nil ps); law = refl; fit = refl; most = room })

-- one line in front
module _ (is : List Init) (ps : List (List Instruction)) (ls : List Line) (f : Draft) where
  before_init : (i : Init) → init_fits i ≡ true → FromBefore (is ++ (i ∷ [])) ps ls f → FromBefore is ps (line.Init i ∷ ls) f
  before_init i h q = record {
    more = i ∷ q.more;
    rest = q.rest;
    lines = ap (λ ls. line.Init i ∷ ls) q.lines;
    inits = q.inits ∙ append_assoc is (i ∷ []) q.more;
    parties = q.parties;
    order = q.order;
    count = q.count;
    inits_are_fit = and_from _ _ h q.inits_are_fit;
    law = q.law;
    fit = q.fit;
    most = q.most;
  }

  before_party : rising is ≡ true → length is ≤ 16 → FromInside is ps [] ls f → FromBefore is ps (line.Party ∷ ls) f
  before_party r k q = record {
    more = [];
    rest = q.code ∷ q.rest;
    lines = ap (λ ls. line.Party ∷ ls) q.lines;
    inits = q.inits ∙ sym (append-nil is);
    parties = q.parties;
    order = ap rising q.inits ∙ r;
    count = subst (λ x. length x ≤ 16) (sym q.inits) k;
    inits_are_fit = refl;
    law = and_from _ _ q.party q.law;
    fit = and_from _ _ q.code_is_fit q.fit;
    most = q.most;
  }

  between_party : FromInside is ps [] ls f → FromBetween is ps (line.Party ∷ ls) f
  between_party q = record {
    rest = q.code ∷ q.rest;
    lines = ap (λ ls. line.Party ∷ ls) q.lines;
    inits = q.inits;
    parties = q.parties;
    law = and_from _ _ q.party q.law;
    fit = and_from _ _ q.code_is_fit q.fit;
    most = q.most;
  }

  inside_instruction : (c : List Instruction) (i : Instruction) → instruction_fits i ≡ true → FromInside is ps (c ++ (i ∷ [])) ls f → FromInside is ps c (line.Instruction i ∷ ls) f
  inside_instruction c i h q =
      let e = append_assoc c (i ∷ []) q.code in
      record {
        code = i ∷ q.code;
        rest = q.rest;
        lines = ap (λ ls. line.Instruction i ∷ ls) q.lines;
        inits = q.inits;
        parties = q.parties ∙ ap (λ x. ps ++ (x ∷ q.rest)) e;
        party = subst (λ x. party_lawful x ≡ true) e q.party;
        code_is_fit = and_from _ _ h q.code_is_fit;
        law = q.law;
        fit = q.fit;
        most = q.most;
      }

  inside_end : (c : List Instruction) → party_lawful c ≡ true → FromBetween is (ps ++ (c ∷ [])) ls f → FromInside is ps c (line.End ∷ ls) f
  inside_end c h q =
      let e = append-nil c in
      record {
        code = [];
        rest = q.rest;
        lines = ap (λ ls. line.End ∷ ls) q.lines;
        inits = q.inits;
        parties = q.parties ∙ append_assoc ps (c ∷ []) q.rest ∙ ap (λ x. ps ++ (x ∷ q.rest)) (sym e);
        party = subst (λ x. party_lawful x ≡ true) (sym e) h;
        code_is_fit = refl;
        law = q.law;
        fit = q.fit;
        most = q.most;
      }

ahead : (ls : List Line) (s : Stage) (n : ℕ) (is : List Init) (ps : List (List Instruction)) (c : List Instruction) (f : Draft) → rising is ≡ true → length is ≤ 16 → Kept s ps c → Taken n (draft is ps c s) ls f → outside f.stage ≡ true → Ahead s is ps c ls f
ahead [] s n is ps c f r k room t o = ahead_none s is ps c f r k room t o
ahead (line.Init i ∷ ls) Before n is ps c f r k room (e, (s, t)) o =
    let j = init_joins_lem n is ps c Before e i s.joins in
    before_init is ps ls f i s.fits (ahead ls Before (suc n) (is ++ (i ∷ [])) ps c f (rising_snoc is i r j.0) (omega (arith, length-append is (i ∷ []))) room (subst (λ e. Taken (suc n) e ls f) (sym j.1.1) t) o)
ahead (line.Init i ∷ ls) Inside n is ps c f r k room (e, (s, t)) o = absurd (both_ways _ refl s.stands)
ahead (line.Init i ∷ ls) Between n is ps c f r k room (e, (s, t)) o = absurd (both_ways _ refl s.stands)
ahead (line.Party ∷ ls) Before n is ps c f r k room (e, (s, t)) o =
    let j = party_joins n is ps c Before e s.joins in
    before_party is ps ls f r k (ahead ls Inside (suc n) is ps [] f r k (j.0, omega arith) (subst (λ e. Taken (suc n) e ls f) (sym j.1) t) o)
ahead (line.Party ∷ ls) Inside n is ps c f r k room (e, (s, t)) o = absurd (both_ways _ refl s.stands)
ahead (line.Party ∷ ls) Between n is ps c f r k room (e, (s, t)) o =
    let j = party_joins n is ps c Between e s.joins in
    between_party is ps ls f (ahead ls Inside (suc n) is ps [] f r k (j.0, omega arith) (subst (λ e. Taken (suc n) e ls f) (sym j.1) t) o)
ahead (line.Instruction i ∷ ls) Before n is ps c f r k room (e, (s, t)) o = absurd (both_ways _ (instruction_stands Before i) s.stands)
ahead (line.Instruction i ∷ ls) Inside n is ps c f r k room (e, (s, t)) o =
    let j = instruction_joins n is ps c Inside e i s.joins in
    inside_instruction is ps ls f c i s.fits (ahead ls Inside (suc n) is ps (c ++ (i ∷ [])) f r k (room.0, omega (arith, length-append c (i ∷ []))) (subst (λ e. Taken (suc n) e ls f) (sym j.1) t) o)
ahead (line.Instruction i ∷ ls) Between n is ps c f r k room (e, (s, t)) o = absurd (both_ways _ (instruction_stands Between i) s.stands)
ahead (line.End ∷ ls) Before n is ps c f r k room (e, (s, t)) o = absurd (both_ways _ refl s.stands)
ahead (line.End ∷ ls) Inside n is ps c f r k room (e, (s, t)) o =
    let j = end_joins n is ps c Inside e s.joins in
    let law : party_lawful c ≡ true = and_from _ _ j.0 (and_from _ _ (le-leb (length c) 32 room.1) j.1.0) in
    inside_end is ps ls f c law (ahead ls Between (suc n) is (ps ++ (c ∷ [])) [] f r k (omega (arith, length-append ps (c ∷ []), room.0)) (subst (λ e. Taken (suc n) e ls f) (sym j.1.1) t) o)
ahead (line.End ∷ ls) Between n is ps c f r k room (e, (s, t)) o = absurd (both_ways _ refl s.stands)

pub taken-lawful : (ls : List Line) (f : Draft) → Taken 1 (draft [] [] [] Before) ls f → outside f.stage ≡ true → FromBefore [] [] ls f
taken-lawful ls f t o = ahead ls Before 1 [] [] [] f refl (omega arith) (omega arith) t o
