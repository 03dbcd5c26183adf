-- So many matches were taken, and the work list holds them. Each turn takes one, and there are no more than spots.
use Rattle.std.proofs.Common.{◌≡◌, ◌-◌, List, length}
use Rattle.matching.specs.Greedy.{Match}
use Rattle.scanning.proofs.Holding.{Holding}
use Rattle.scanning.proofs.taking.take_closest.Given as goal

abbrev pub invariant-loop-m : goal.invariant-loop-m
invariant-loop-m l = (taken : List Match) × (length taken ≡ l.t) × Holding l.s l.fn.work taken l.work

abbrev pub decreases-loop-m : goal.decreases-loop-m
decreases-loop-m l = l.s.np - l.t
