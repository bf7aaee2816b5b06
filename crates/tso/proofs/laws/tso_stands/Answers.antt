use Rattle.tso.proofs.Locking.{exchanges_as_locked}
use Rattle.tso.proofs.Published.{moves_as_tso, runs_as_tso}
use Rattle.tso.proofs.laws.tso_stands.Goals as goal

pub returns : goal.returns
returns c = record { moves = moves_as_tso; runs = runs_as_tso; exchanges = exchanges_as_locked }
