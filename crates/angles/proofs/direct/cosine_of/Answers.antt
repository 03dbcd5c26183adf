-- `angles::direct::cosine_of` meets its contract: each bracket is the definition's, with the divisor as a float. Assumes nothing.
use Rattle.angles.specs.SinCos.{bracket, cosine}
use Rattle.angles.proofs.Wholes.{cosine_divisors}
use Rattle.angles.proofs.direct.cosine_of.Goals as goal

pub returns : goal.returns
unfolding cosine bracket
returns c = let divisors = cosine_divisors in cc
