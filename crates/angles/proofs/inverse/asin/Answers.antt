-- `angles::inverse::asin` meets its contract: the test picks the definition's case, and 0 / 0 is the NaN. Assumes nothing.
use lib.Ieee.{div, of_bits}
use Rattle.angles.specs.Inverse.{asin}
use Rattle.angles.proofs.inverse.asin.Goals as goal

pub returns-then-abs : goal.returns-then-abs
unfolding asin div of_bits
returns-then-abs c = rw (← c.abs.ensures, c.if-abs.true)
