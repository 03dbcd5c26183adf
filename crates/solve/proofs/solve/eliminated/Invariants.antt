use Rattle.std.proofs.Common.{◌≡◌, ◌++◌, map, length, take, drop}
use Rattle.solve.specs.Solve.{reduced, eliminated}
use Rattle.solve.proofs.solve.eliminated.Given as goal

abbrev pub invariant-loop-i : goal.invariant-loop-i
invariant-loop-i l = (length l.m ≡ 3) × (take l.i l.m ++ map (reduced l.col.at l.pivot) (drop l.i l.m) ≡ eliminated l.initial.m l.col.at)
