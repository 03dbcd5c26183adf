-- `solve::covariance::unconstrained` meets its contract: 1 / 0 is the infinity. Assumes nothing.
use Rattle.solve.specs.Covariance.{unconstrained}
use lib.Ieee.{div, of_bits}
use Rattle.std.proofs.Common.{refl}
use Rattle.solve.proofs.covariance.unconstrained.Goals as goal

pub returns : goal.returns
unfolding unconstrained div of_bits
returns c = refl
