-- `wcs_refine::rounds::adaptive_px` meets its contract: statistics or none pick the definition's case. Assumes nothing.
use Rattle.wcs_refine.proofs.RoundSteps.{radius_missing, radius_of}
use Rattle.wcs_refine.proofs.rounds.adaptive_px.Goals as goal

pub returns-in_default : goal.returns-in_default
returns-in_default c = radius_missing c.args.k c.radius_px-most.ensures c.in_default.is

pub returns : goal.returns
returns c =
    radius_of c.args.k c.radius_px-most.ensures
    c.in-Some.is c.max.ensures c.min.ensures
