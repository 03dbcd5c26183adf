-- What stands there, with the pairs that are to come, is what it is to be in the end.
use Rattle.std.proofs.Common.{◌-◌}
use Rattle.pairs.specs.Pairs.{pairs_from, pairs}
use Rattle.pairs.specs.Candidates.{pushed}
use Rattle.pairs.specs.Lent.{found_in}
use Rattle.pairs.proofs.Pushing.{Going}
use Rattle.pairs.proofs.pairs.collect.Given as goal

abbrev pub invariant-loop-i : goal.invariant-loop-i
invariant-loop-i l =
    Going l.fn.c l.c (pairs_from l.s.radius_sq l.s.points.now l.s.predicted.now l.i (l.s.np - l.i))
    (pushed l.fn.c.cap (found_in l.fn.c) (pairs l.s.points.now l.s.np l.s.predicted.now l.s.radius_sq))
