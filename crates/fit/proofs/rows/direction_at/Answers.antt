-- What lies past the end is 0 / 0, the NaN.
use lib.Ieee.{div, of_bits}
use Rattle.panel.specs.Threes.{three_at}
use Rattle.fit.specs.Rows.{direction_at}
use Rattle.fit.proofs.rows.direction_at.Goals as goal

pub returns : goal.returns
unfolding direction_at three_at div of_bits
returns c = c.three_at.ensures
