use Rattle.solve.specs.Solve.{minus_from}
use Rattle.std.proofs.Common.{◌≡◌, length}
use Rattle.solve.proofs.solve.minus_from.Given as goal

abbrev pub invariant-loop-j : goal.invariant-loop-j
invariant-loop-j l = (length l.r ≡ 4) × (length l.pivot ≡ 4) × (minus_from l.j l.f l.r l.pivot ≡ minus_from l.col l.f l.initial.r l.pivot)
