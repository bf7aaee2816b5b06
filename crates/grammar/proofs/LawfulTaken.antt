-- The lines of a lawful routine are taken in turn, and leave its INIT lines and parties.
use Rattle.std.proofs.Common.{◌≡◌, ℕ, suc, ◌<◌, ◌≤◌, true, ◌&&◌, ltb, leb, List, [], ◌∷◌, ◌++◌, length, sym, refl, ◌∙◌, subst, append_assoc, append-nil, arith, length-append}
use Rattle.std.proofs.lemmas.Bool.{and_parts, leb-true, lt-ltb, cond-true}
use Rattle.instructions.specs.Keywords.{may_stand}
use Rattle.instructions.specs.declared.keyword.Keyword.TheVariants as keyword
use Rattle.instructions.specs.declared.types.Init.{Init}
use Rattle.instructions.specs.declared.types.Instruction.{Instruction}
use Rattle.instructions.specs.declared.types.Line.{Line}
use Rattle.instructions.specs.declared.types.Line.TheVariants as line
use Rattle.instructions.specs.declared.types.Stage.{Stage}
use Rattle.instructions.specs.declared.types.Stage.TheVariants.{Before, Inside, Between}
use Rattle.grammar.specs.Listings.{Listing, rising, party_lawful, parties_lawful, targets_within, instruction_fits, code_fits, parties_fit, init_fits, inits_fit}
use Rattle.grammar.specs.Reads.{Draft, blank, outside}
use Rattle.grammar.specs.Texts.{code_lines, party_lines, init_lines, lines_of}
use Rattle.grammar.proofs.LineLists.{Step, Taken}
use Rattle.grammar.proofs.Drafts.{draft, instruction_stands, rising-above, Limits}

-- the lines are taken, and leave these INIT lines and parties, and none open
pub record Reaches (n : ℕ) (d : Draft) (ls : List Line) (is : List Init) (ps : List (List Instruction)) : Type 0 where
  pub last : Draft
  pub taken : Taken n d ls last
  pub inits : last.inits ≡ is
  pub parties : last.parties ≡ ps
  pub closed : outside last.stage ≡ true

reach_more : (n : ℕ) (d : Draft) (l : Line) (e : Draft) (ls : List Line) (is : List Init) (ps : List (List Instruction)) → Step n d l e → Reaches (suc n) e ls is ps → Reaches n d (l ∷ ls) is ps
reach_more n d l e ls is ps s r = record { last = r.last; taken = (e, (s, r.taken)); inits = r.inits; parties = r.parties; closed = r.closed }

-- a party that is open, with the rest of its code
reach_code : (code : List Instruction) (n : ℕ) (is : List Init) (ps : List (List Instruction)) (c : List Instruction) (more : List Line) (js : List Init) (qs : List (List Instruction)) → party_lawful (c ++ code) ≡ true → code_fits code ≡ true → ((m : ℕ) → Reaches m (draft is (ps ++ ((c ++ code) ∷ [])) [] Between) more js qs) → Reaches n (draft is ps c Inside) (code_lines code more) js qs
reach_code [] n is ps c more js qs h k go =
    let e = append-nil c in
    let law = subst (λ x. party_lawful x ≡ true) e h in
    let p = and_parts (ltb 0 (length c)) (leb (length c) 32 && targets_within (length c) c) law in
    let q = and_parts (leb (length c) 32) (targets_within (length c) c) p.1 in
    reach_more n (draft is ps c Inside) line.End (draft is (ps ++ (c ∷ [])) [] Between) more js qs
    (record { fits = refl; stands = refl; joins = cond-true _ _ _ p.0 ∙ cond-true _ _ _ q.1 })
    (subst (λ x. Reaches (suc n) (draft is (ps ++ (x ∷ [])) [] Between) more js qs) e (go (suc n)))
reach_code (i ∷ code) n is ps c more js qs h k go =
    let e = append_assoc c (i ∷ []) code in
    let p = and_parts (ltb 0 (length (c ++ (i ∷ code)))) (leb (length (c ++ (i ∷ code))) 32 && targets_within (length (c ++ (i ∷ code))) (c ++ (i ∷ code))) h in
    let q = leb-true (length (c ++ (i ∷ code))) 32 (and_parts (leb (length (c ++ (i ∷ code))) 32) (targets_within (length (c ++ (i ∷ code))) (c ++ (i ∷ code))) p.1).0 in
    let room : length c < 32 = omega (arith, length-append c (i ∷ code)) in
    let f = and_parts (instruction_fits i) (code_fits code) k in
    reach_more n (draft is ps c Inside) (line.Instruction i) (draft is ps (c ++ (i ∷ [])) Inside) (code_lines code more) js qs
    (record { fits = f.0; stands = instruction_stands Inside i; joins = cond-true _ _ _ (lt-ltb _ _ room) })
    (reach_code code (suc n) is ps (c ++ (i ∷ [])) more js qs (subst (λ x. party_lawful x ≡ true) (sym e) h) f.1 (λ m. subst (λ x. Reaches m (draft is (ps ++ (x ∷ [])) [] Between) more js qs) (sym e) (go m)))

-- the rest of the parties, where none is open
reach_parties : (rest : List (List Instruction)) (n : ℕ) (is : List Init) (ps : List (List Instruction)) (s : Stage) → may_stand s keyword.Party ≡ true → outside s ≡ true → parties_lawful rest ≡ true → parties_fit rest ≡ true → length (ps ++ rest) ≤ 4 → Reaches n (draft is ps [] s) (party_lines rest) is (ps ++ rest)
reach_parties [] n is ps s w o h k few = record { last = draft is ps [] s; taken = refl; inits = refl; parties = sym (append-nil ps); closed = o }
reach_parties (p ∷ rest) n is ps s w o h k few =
    let e = append_assoc ps (p ∷ []) rest in
    let law = and_parts (party_lawful p) (parties_lawful rest) h in
    let fit = and_parts (code_fits p) (parties_fit rest) k in
    let room : length ps < 4 = omega (arith, length-append ps (p ∷ rest)) in
    reach_more n (draft is ps [] s) line.Party (draft is ps [] Inside) (code_lines p (party_lines rest)) is (ps ++ (p ∷ rest))
    (record { fits = refl; stands = w; joins = cond-true _ _ _ (lt-ltb _ _ room) })
    (reach_code p (suc n) is ps [] (party_lines rest) is (ps ++ (p ∷ rest)) law.0 fit.0 (λ m. subst (λ x. Reaches m (draft is (ps ++ (p ∷ [])) [] Between) (party_lines rest) is x) e (reach_parties rest m is (ps ++ (p ∷ [])) Between refl refl law.1 fit.1 (subst (λ x. length x ≤ 4) (sym e) few))))

-- the rest of the INIT lines
reach_inits : (is : List Init) (n : ℕ) (got : List Init) (more : List Line) (js : List Init) (qs : List (List Instruction)) → rising (got ++ is) ≡ true → inits_fit is ≡ true → length (got ++ is) ≤ 16 → ((m : ℕ) → Reaches m (draft (got ++ is) [] [] Before) more js qs) → Reaches n (draft got [] [] Before) (init_lines is more) js qs
reach_inits [] n got more js qs r k few go = subst (λ x. Reaches n (draft x [] [] Before) more js qs) (append-nil got) (go n)
reach_inits (i ∷ is) n got more js qs r k few go =
    let e = append_assoc got (i ∷ []) is in
    let fit = and_parts (init_fits i) (inits_fit is) k in
    let room : length got < 16 = omega (arith, length-append got (i ∷ is)) in
    reach_more n (draft got [] [] Before) (line.Init i) (draft (got ++ (i ∷ [])) [] [] Before) (init_lines is more) js qs
    (record { fits = fit.0; stands = refl; joins = cond-true _ _ _ (rising-above got i is r) ∙ cond-true _ _ _ (lt-ltb _ _ room) })
    (reach_inits is (suc n) (got ++ (i ∷ [])) more js qs (subst (λ x. rising x ≡ true) (sym e) r) fit.1 (subst (λ x. length x ≤ 16) (sym e) few) (λ m. subst (λ x. Reaches m (draft x [] [] Before) more js qs) (sym e) (go m)))

pub lawful-taken : (l : Listing) → Limits l → Reaches 1 blank (lines_of l) l.inits l.parties
lawful-taken l k = reach_inits l.inits 1 [] (party_lines l.parties) l.inits l.parties k.order k.inits_are_fit k.count (λ m. reach_parties l.parties m l.inits [] Before refl refl k.parties k.parties_are_fit k.most)
