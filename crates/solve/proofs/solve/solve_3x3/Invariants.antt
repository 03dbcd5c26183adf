use Rattle.solve.specs.Solve.{solved_from}
use Rattle.std.proofs.Common.{◌≡◌, ◌-◌}
use Rattle.solve.proofs.solve.solve_3x3.Given as goal

abbrev pub invariant-loop-at : goal.invariant-loop-at
invariant-loop-at l = (solved_from l.at (3 - l.at) l.m ≡ solved_from 0 3 l.initial.m)
