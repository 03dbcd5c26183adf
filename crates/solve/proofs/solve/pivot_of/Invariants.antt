use Rattle.solve.specs.Solve.{best_from, pivot_of}
use Rattle.std.proofs.Common.{◌≡◌, ◌-◌, ◌<◌}
use Rattle.solve.proofs.solve.pivot_of.Given as goal

abbrev pub invariant-loop-i : goal.invariant-loop-i
invariant-loop-i l = (l.p.row < 3) × (best_from l.m l.at l.p l.i (3 - l.i) ≡ pivot_of l.m l.at)
