-- The marks passed are put right, and the others are as they were.
use Rattle.std.proofs.Common.{◌+◌, cond}
use Rattle.scanning.specs.Seeking.{predictions, seen}
use Rattle.scanning.proofs.Marking.{Marked}
use Rattle.scanning.proofs.scan.settle.Given as goal

abbrev pub invariant-loop-j : goal.invariant-loop-j
invariant-loop-j l = Marked l.s.np (predictions l.s) (λ j. cond (seen l.fn.work (l.s.np + j)) 0 1) l.fn.work l.work l.j
