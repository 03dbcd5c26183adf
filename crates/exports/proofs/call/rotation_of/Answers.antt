use mathlib.Core.Path.{refl}
use lib.Ieee.{of_bits}
use Rattle.panel.specs.Threes.{three_at}
use Rattle.exports.proofs.call.rotation_of.Goals as goal

pub returns : goal.returns
unfolding three_at of_bits
returns c = rw (c.three_at-x.ensures, c.three_at-y.ensures, c.three_at-z.ensures) refl
