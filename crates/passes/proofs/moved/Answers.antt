-- The boresight's point is the pose's own.
use Rattle.passes.specs.Fit.{moved}
use Rattle.passes.proofs.moved.Goals as goal

pub returns : goal.returns
unfolding moved
returns c = rw (c.inverse_tan_project-ra.ensures, c.crval.ensures.0, c.crval.ensures.1)
