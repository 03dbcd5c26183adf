-- What is left to sum gives the whole.
use Rattle.std.proofs.Common.{◌≡◌, drop}
use Rattle.rounding.specs.Arith.{zero64}
use Rattle.residuals.specs.Residual.{in_front}
use Rattle.wcs_refine.specs.Closing.{sum_squares}
use Rattle.wcs_refine.proofs.reporting.sum_squares.Given as goal

abbrev pub invariant-loop-x : goal.invariant-loop-x
invariant-loop-x l = sum_squares (in_front (drop l.x-index l.residuals)) l.s ≡ sum_squares (in_front l.residuals) zero64
