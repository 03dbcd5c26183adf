-- `angles::direct::sin_cos` meets its contract: the test picks the definition's case, and 0 / 0 is the NaN. Assumes nothing.
use lib.Ieee.{div, of_bits}
use Rattle.angles.specs.SinCos.{sin_cos}
use Rattle.angles.proofs.direct.sin_cos.Goals as goal

pub returns-else-abs : goal.returns-else-abs
unfolding sin_cos div of_bits
returns-else-abs c = rw (← c.abs.ensures, c.if-abs.false)
