-- What making a sparse memory of some cells answers.
use Rattle.std.specs.Prelude.{◌≡◌, Some, None, Ok, Err, vec_items, Result, Vec}
use Rattle.std.specs.declared.alloc.Global.{Global}
use Rattle.memory.specs.Pairs.{unfit}
use Rattle.memory.specs.declared.cell.Cell.{Cell}
use Rattle.memory.specs.declared.sparse.Sparse.{Sparse}
use Rattle.memory.specs.declared.unfit.UnfitPairs.{UnfitPairs}

-- a memory of exactly these cells where they fit; else they come back, with the reason
abbrev pub Made : Vec Cell Global → Result Sparse UnfitPairs → Type 0
Made pairs (Ok s) = (unfit (vec_items pairs) ≡ None) × (s.pairs ≡ pairs)
Made pairs (Err e) = (unfit (vec_items pairs) ≡ Some e.unfit) × (e.pairs ≡ pairs)
