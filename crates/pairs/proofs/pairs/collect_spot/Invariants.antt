-- What stands there, with the pairs that are to come, is what it is to be in the end.
use Rattle.std.proofs.Common.{◌-◌, ◌/◌, length}
use Rattle.pairs.specs.Pairs.{point_at, pairs_of}
use Rattle.pairs.specs.Candidates.{pushed}
use Rattle.pairs.specs.Lent.{found_in}
use Rattle.pairs.proofs.Pushing.{Going}
use Rattle.pairs.proofs.pairs.collect_spot.Given as goal

abbrev pub invariant-loop-j : goal.invariant-loop-j
invariant-loop-j l =
    Going l.fn.c l.c (pairs_of l.s.radius_sq l.s.predicted.now l.i (point_at l.s.points.now l.i) l.j (length l.s.predicted.now / 2 - l.j))
    (pushed l.fn.c.cap (found_in l.fn.c) (pairs_of l.s.radius_sq l.s.predicted.now l.i (point_at l.s.points.now l.i) 0 (length l.s.predicted.now / 2)))
