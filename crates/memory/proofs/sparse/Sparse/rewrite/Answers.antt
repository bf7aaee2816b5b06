use Rattle.std.proofs.Common.{rules}
use Rattle.memory.proofs.Places.{put_at}
use Rattle.memory.proofs.sparse.Sparse.rewrite.Goals as goal

pub returns-clause-means : goal.returns-clause-means
returns-clause-means c = search (rules, put_at)
