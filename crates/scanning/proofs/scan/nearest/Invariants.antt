-- The predictions passed were looked at.
use Rattle.scanning.proofs.Looking.{Looking}
use Rattle.scanning.proofs.scan.nearest.Given as goal

abbrev pub invariant-loop-j : goal.invariant-loop-j
invariant-loop-j l = Looking l.s l.spot l.fn.work l.work l.j l.best
