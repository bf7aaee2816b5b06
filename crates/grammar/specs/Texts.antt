-- How a routine is written: its lines, each with byte 10 after it.
use Rattle.std.specs.Prelude.{ℕ, List, [], ◌∷◌, ◌++◌}
use Rattle.instructions.specs.Texts.{line_text}
use Rattle.instructions.specs.declared.types.Init.{Init}
use Rattle.instructions.specs.declared.types.Instruction.{Instruction}
use Rattle.instructions.specs.declared.types.Line.{Line}
use Rattle.instructions.specs.declared.types.Line.TheVariants as line
use Rattle.grammar.specs.Listings.{Listing}

-- the rest of a party's lines, and what comes after them
abbrev pub code_lines : List Instruction → List Line → List Line
code_lines [] more = line.End ∷ more
code_lines (i ∷ is) more = line.Instruction i ∷ code_lines is more

abbrev pub party_lines : List (List Instruction) → List Line
party_lines [] = []
party_lines (p ∷ ps) = line.Party ∷ code_lines p (party_lines ps)

abbrev pub init_lines : List Init → List Line → List Line
init_lines [] more = more
init_lines (i ∷ is) more = line.Init i ∷ init_lines is more

-- the lines of a routine: INIT lines, then for each party PARTY, its instructions and END
abbrev pub lines_of : Listing → List Line
lines_of l = init_lines l.inits (party_lines l.parties)

abbrev pub ended : List Line → List ℕ
ended [] = []
ended (l ∷ ls) = line_text l ++ (10 ∷ ended ls)

abbrev pub text_of : Listing → List ℕ
text_of l = ended (lines_of l)
