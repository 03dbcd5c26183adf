-- `angles::inverse::series_of` meets its contract: each bracket is the definition's, with the divisor as a float. Assumes nothing.
use Rattle.angles.specs.Inverse.{alternating, series}
use Rattle.angles.proofs.Wholes.{series_divisors}
use Rattle.angles.proofs.inverse.series_of.Goals as goal

pub returns : goal.returns
unfolding series alternating
returns c = let divisors = series_divisors in cc
