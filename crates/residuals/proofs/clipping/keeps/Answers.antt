-- The mark is never kept.
use lib.Ieee.{ne}
use Rattle.residuals.specs.Residual.{keeps}
use Rattle.residuals.proofs.clipping.keeps.Goals as goal

pub returns-then-x : goal.returns-then-x
unfolding keeps ne
returns-then-x c = rw c.if-x.true

pub returns-else-x : goal.returns-else-x
unfolding keeps ne
returns-else-x c = rw c.if-x.false
