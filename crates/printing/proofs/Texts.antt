-- The text of a routine, as its parts one after another.
use Rattle.std.proofs.Common.{◌≤◌, length, Ok, ◌≡◌, ℕ, List, [], ◌∷◌, ◌++◌, map, sym, refl, ap, ◌∙◌, append-nil, append_assoc}
use Rattle.std.specs.List.{flat_map}
use Rattle.fields.specs.Pieces.{joined_by}
use Rattle.grammar.proofs.Exactly.{written_is_read}
use Rattle.grammar.specs.Reads.{read_of}
use Rattle.grammar.specs.Texts.{ended, code_lines, init_lines, party_lines, text_of}
use Rattle.instructions.specs.Texts.{line_text, operand_text}
use Rattle.instructions.specs.declared.types.Init.{Init}
use Rattle.instructions.specs.declared.types.Instruction.{Instruction}
use Rattle.instructions.specs.declared.types.Line.{Line}
use Rattle.instructions.specs.declared.types.Line.TheVariants as line
use Rattle.instructions.specs.declared.types.Operand.{Operand}
use Rattle.routine.specs.Parties.{code_of}
use Rattle.routine.specs.Routines.{listing}
use Rattle.routine.specs.declared.party.Party.{Party}
use Rattle.routine.specs.declared.routine.Routine.{Routine}
pub use Rattle.printing.proofs.Written.{in_turn, sets_whole}
use Rattle.printing.specs.Lines.{field_text, instruction_line, init_line, party_text}

-- a first field, and those after it
pub joined_fields : (first : List ℕ) (fields : List Operand) → joined_by 32 (first ∷ map operand_text fields) ≡ first ++ flat_map field_text fields
joined_fields first [] = sym (append-nil first)
joined_fields first (f ∷ fs) = ap (λ bs. first ++ (32 ∷ bs)) (joined_fields (operand_text f) fs)

-- lines that follow others
pub ended-append : (ls ms : List Line) → ended (ls ++ ms) ≡ ended ls ++ ended ms
ended-append [] ms = refl
ended-append (l ∷ ls) ms = ap (λ bs. line_text l ++ (10 ∷ bs)) (ended-append ls ms) ∙ sym (append_assoc (line_text l) (10 ∷ ended ls) (ended ms))

pub code_lines-append : (is : List Instruction) (more : List Line) → code_lines is more ≡ code_lines is [] ++ more
code_lines-append [] more = refl
code_lines-append (i ∷ is) more = ap (λ ls. line.Instruction i ∷ ls) (code_lines-append is more)

pub init_lines-append : (is : List Init) (more : List Line) → init_lines is more ≡ init_lines is [] ++ more
init_lines-append [] more = refl
init_lines-append (i ∷ is) more = ap (λ ls. line.Init i ∷ ls) (init_lines-append is more)

-- the INIT lines, and what comes after them
pub inits_text : (is : List Init) (more : List Line) → ended (init_lines is more) ≡ flat_map init_line is ++ ended more
inits_text [] more = refl
inits_text (i ∷ is) more = simp (inits_text is more, append_assoc)

-- a party's instructions and END, and what comes after them
pub code_text : (is : List Instruction) (more : List Line) → ended (code_lines is more) ≡ flat_map instruction_line is ++ ended (line.End ∷ more)
code_text [] more = refl
code_text (i ∷ is) more = simp (code_text is more, append_assoc)

-- the parties
pub parties_text : (ps : List Party) → ended (party_lines (map code_of ps)) ≡ flat_map party_text ps
parties_text [] = refl
parties_text (p ∷ ps) =
    let rest = party_lines (map code_of ps) in
    let first = code_text (code_of p) rest in
    let alone = code_text (code_of p) [] in
    let others = parties_text ps in
    let apart = append_assoc (flat_map instruction_line (code_of p)) (ended (line.End ∷ [])) (ended rest) in
    cc

-- for a function that writes one part after another
pub ruleset parts = (in_turn, joined_fields, inits_text, code_text, parties_text)

-- a routine's text reads back, and has no more bytes than this
pub reads_back : (r : Routine) → read_of (text_of (listing r)) ≡ Ok (listing r)
reads_back r = (written_is_read (listing r) r.within_limits).0

pub longest : (r : Routine) → length (text_of (listing r)) ≤ 2952
longest r = (written_is_read (listing r) r.within_limits).1

-- for a function that writes the whole text
pub ruleset whole = (sets_whole, reads_back, longest)
