use Rattle.std.proofs.Common.{take}
use Rattle.std.specs.List.{flat_map}
use Rattle.printing.specs.Pages.{Wrote}
use Rattle.printing.proofs.text.write_all.Given as goal

abbrev pub invariant-loop-item : goal.invariant-loop-item
invariant-loop-item g l = Wrote l.initial.page (flat_map g.T.Text.text (take l.item-index l.items)) l.page
