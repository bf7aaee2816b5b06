-- What writing a text on a page leaves.
use Rattle.std.specs.Prelude.{◌≡◌, ℕ, ◌+◌, ◌^◌, ◌<◌, List, length}
use Rattle.std.proofs.lemmas.List.Edits.{sets}
use Rattle.printing.specs.declared.page.Page.{Page}

-- the place after the text is a number of 64 bits; no invariant of the page, since it speaks of a text still to be written
abbrev pub EndFits : Page → List ℕ → Type 0
EndFits p text = p.at + length text < 2 ^ 64

-- the same buffer, with the text from the old place on, as far as it goes, and the place after the text
pub record Wrote (old : Page) (text : List ℕ) (new : Page) : Type 0 where
  pub same_buffer : new.out.ghost_name ≡ old.out.ghost_name
  pub bytes : new.out.now ≡ sets old.out.now old.at text
  pub ends : new.at ≡ old.at + length text
