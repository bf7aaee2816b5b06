use Rattle.tso.proofs.Changing.{refused_changes_nothing, accepted_changes_one_party}
use Rattle.tso.proofs.Refusing.{refuses_exactly, answered_once}
use Rattle.tso.proofs.laws.entries_stand.Goals as goal

pub returns : goal.returns
returns c = record { refused = refused_changes_nothing; accepted = accepted_changes_one_party; exactly = refuses_exactly; once = answered_once }
