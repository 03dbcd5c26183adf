-- `angles::direct::sine_of` meets its contract: each bracket is the definition's, with the divisor as a float. Assumes nothing.
use Rattle.angles.specs.SinCos.{bracket, sine}
use Rattle.angles.proofs.Wholes.{sine_divisors}
use Rattle.angles.proofs.direct.sine_of.Goals as goal

pub returns : goal.returns
unfolding sine bracket
returns c = let divisors = sine_divisors in cc
