use Rattle.std.proofs.Common.{◌≡◌, ◌++◌, drop}
use Rattle.std.specs.Prelude.{replicate}
use Rattle.lists.proofs.clear.Given as goal

-- So much of the front is zero, and the rest of it is as it was.
abbrev pub invariant-loop-x : goal.invariant-loop-x
invariant-loop-x g l = l.x-items ≡ replicate l.x-index g.T.Zero.ZERO ++ drop l.x-index l.initial.x-items
