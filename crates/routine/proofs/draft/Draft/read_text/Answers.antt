use Rattle.std.proofs.Common.{rules}
use Rattle.routine.proofs.Reading.{complete_read}
use Rattle.routine.proofs.draft.Draft.read_text.Goals as goal

pub returns-clause-complete : goal.returns-clause-complete
returns-clause-complete c = complete_read c.args.text.now c.finish.result c.finish.new.self (search rules)
