-- What lies past the end is 0 / 0, the NaN.
use lib.Ieee.{div, of_bits}
use Rattle.panel.specs.Spots.{spot_at}
use Rattle.panel.specs.Threes.{three_at}
use Rattle.panel.proofs.spots.spot_at.Goals as goal

pub returns : goal.returns
unfolding spot_at three_at div of_bits
returns c = rw c.three_at.ensures
