-- The spots passed were scanned.
use Rattle.scanning.proofs.Sifting.{Scanning}
use Rattle.scanning.proofs.scan.closest.Given as goal

abbrev pub invariant-loop-i : goal.invariant-loop-i
invariant-loop-i l = Scanning l.s l.fn.work l.work l.i l.best
