-- How it is told what became of a fence.
use Rattle.std.specs.Prelude.{ℕ, List, codes}
use Rattle.reports.specs.declared.fates.Fate.{Fate}
use Rattle.reports.specs.declared.fates.Fate.TheVariants.{Forward, Backward, Stays}

abbrev pub fate_text : Fate → List ℕ
fate_text Forward = codes "FORWARD"
fate_text Backward = codes "BACKWARD"
fate_text Stays = codes "STAYS"
