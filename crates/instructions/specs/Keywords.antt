-- The words, how they are spelled, and where each may stand.
use Rattle.std.specs.Prelude.{ℕ, Bool, true, false, not, List, [], ◌∷◌, codes, find, Option}
use Rattle.fields.specs.Tokens.{Seen, is_word}
use Rattle.instructions.specs.declared.keyword.Keyword.{Keyword}
use Rattle.instructions.specs.declared.keyword.Keyword.TheVariants.{Init, Party, End, Load, Store, Exchange, Fence, Nop, Set, Add, JumpNonzero, Jump}
use Rattle.instructions.specs.declared.types.Stage.{Stage}
use Rattle.instructions.specs.declared.types.Stage.TheVariants.{Before, Inside, Between}

abbrev pub spelled : Keyword → List ℕ
spelled Init = codes "INIT"
spelled Party = codes "PARTY"
spelled End = codes "END"
spelled Load = codes "LD"
spelled Store = codes "ST"
spelled Exchange = codes "XCHG"
spelled Fence = codes "MFENCE"
spelled Nop = codes "NOP"
spelled Set = codes "SET"
spelled Add = codes "ADD"
spelled JumpNonzero = codes "JNZ"
spelled Jump = codes "JMP"

abbrev pub every_keyword : List Keyword
every_keyword = Init ∷ (Party ∷ (End ∷ (Load ∷ (Store ∷ (Exchange ∷ (Fence ∷ (Nop ∷ (Set ∷ (Add ∷ (JumpNonzero ∷ (Jump ∷ [])))))))))))

-- the keyword that a field is
abbrev pub keyword_seen : Seen → Option Keyword
keyword_seen field = find (λ k. is_word field (spelled k)) every_keyword

abbrev pub is_before : Stage → Bool
is_before Before = true
is_before Inside = false
is_before Between = false

abbrev pub is_inside : Stage → Bool
is_inside Before = false
is_inside Inside = true
is_inside Between = false

-- INIT lines stand before any party, PARTY outside of one, and all others inside
abbrev pub may_stand : Stage → Keyword → Bool
may_stand stage Init = is_before stage
may_stand stage Party = not (is_inside stage)
may_stand stage _ = is_inside stage
