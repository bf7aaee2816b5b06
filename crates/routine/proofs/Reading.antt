-- Lines that are read one by one.
use Rattle.std.proofs.Common.{◌≡◌, ℕ, Bool, true, false, List, Some, Ok, Err, Option, Result, sym, refl, ap, ◌∙◌}
use Rattle.std.specs.Result.{OnOk}
use Rattle.fields.specs.Lines.{line_answer}
use Rattle.fields.specs.Pieces.{pieces}
use Rattle.fields.specs.declared.faults.FieldFault.{FieldFault}
use Rattle.instructions.specs.Keywords.{may_stand}
use Rattle.instructions.specs.Lines.{Said, line_read, fields_say, by_answer, found, first}
use Rattle.instructions.specs.declared.faults.LineFault.{LineFault}
use Rattle.instructions.specs.declared.types.Line.{Line}
use Rattle.instructions.specs.declared.types.Stage.{Stage}
use Rattle.grammar.specs.Grammar.{word_of}
use Rattle.grammar.specs.Listings.{Listing, lawful, addresses_of}
use Rattle.grammar.specs.Reads.{read_of}
use Rattle.grammar.specs.declared.faults.RoutineFault.{RoutineFault}
use Rattle.grammar.proofs.Exactly.{reads_exactly, read_is_written}
use Rattle.grammar.proofs.LinesOnly.{lines_read_as_written}
use Rattle.routine.specs.Drafts.{Holds, ReadInto}
use Rattle.routine.specs.Fresh.{fresh_listing, ByGrammar}
use Rattle.routine.specs.Storages.{IsComplete}
use Rattle.routine.specs.declared.draft.Draft.{Draft}
use Rattle.routine.specs.declared.fresh.Fresh.{Fresh}

abbrev Found : Type 0
Found = Result (Option Line) LineFault

found-said : (s : Said) (l : Line) → ◌≡◌ {A = Found} (Ok (Some l)) (found s) → s ≡ Ok l
found-said (Ok k) l e = cc
found-said (Err d) l e = cc

answer_said : (a : Result Bool FieldFault) (s : Said) (l : Line) → ◌≡◌ {A = Found} (Ok (Some l)) (by_answer a s) → s ≡ Ok l
answer_said (Ok true) s l e = found-said s l e
answer_said (Ok false) s l e = cc
answer_said (Err d) s l e = cc

-- the word of a line that was read may stand there
pub line_stands : (stage : Stage) (ps : List (List ℕ)) (n : ℕ) (l : Line) → Ok (Some l) ≡ line_read stage ps n → may_stand stage (word_of l) ≡ true
line_stands stage ps n l e = (lines_read_as_written stage (first ps) n l (answer_said (line_answer ps n) (fields_say stage (pieces 32 (first ps)) n) l e)).1.1

-- what a text was read as, by the answer
pub read_ok : (s : Result Listing RoutineFault) (d : Draft) → ReadInto s (Ok tt) d → (l : Listing) × (s ≡ Ok l) × Holds l d
read_ok (Ok l) d h = (l, refl, h.1)
read_ok (Err e) d h = cc

pub read_err : (s : Result Listing RoutineFault) (e : RoutineFault) (d : Draft) → ReadInto s (Err e) d → s ≡ Err e
read_err (Ok l) e d h = cc
read_err (Err f) e d h = cc

-- what is held is lawful, and its addresses are noted
held : (text : List ℕ) (l : Listing) (d : Draft) → read_of text ≡ Ok l → Holds l d → IsComplete d.storage
held text l d e h = record { within_limits = ap lawful h.listing ∙ (read_is_written text l e).1; knows_addresses = h.addresses ∙ ap addresses_of (sym h.listing) }

pub complete_read : (text : List ℕ) (r : Result (Unit {0}) RoutineFault) (d : Draft) → ReadInto (read_of text) r d → OnOk r (IsComplete d.storage)
complete_read text (Ok u) d h = let q = read_ok (read_of text) d h in held text q.0 d q.1 q.2
complete_read text (Err e) d h = tt

pub refused_grammar : (text : List ℕ) (e : RoutineFault) (g : Fresh) → read_of text ≡ Err e → ByGrammar text (Err e) g
refused_grammar text e g h = record {
  only = λ r. cc;
  each = λ l spells law. let s = (reads_exactly text l).1 spells law in cc;
}

pub accepted_grammar : (text : List ℕ) (l : Listing) (g : Fresh) → read_of text ≡ Ok l → fresh_listing g ≡ l → ByGrammar text (Ok tt) g
accepted_grammar text l g h is =
    let e = h ∙ ap (λ k. Ok k) (sym is) in
    let p = (reads_exactly text (fresh_listing g)).0 e in
    record {
      only = λ _. (p.0, (p.1, (read_is_written text (fresh_listing g) e).0));
      each = λ k spells law. let s = (reads_exactly text k).1 spells law in (refl, cc);
    }
