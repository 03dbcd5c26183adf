-- What is not a number is so written. Assumes nothing.
use mathlib.Core.Path.{ap, ◌∙◌}
use lib.Ieee.{div, of_bits}
use Rattle.residuals.specs.Residual.{keeps}
use Rattle.residuals.proofs.clipping.kept_at.Goals as goal

pub returns : goal.returns
unfolding div of_bits
returns c = c.keeps.ensures ∙ ap (keeps c.args.threshold) c.at.ensures
