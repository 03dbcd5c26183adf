-- The part that is lent is just long enough.
use Rattle.std.proofs.Common.{◌*◌, refl, arith}
use Rattle.wcs_refine.proofs.Points.{laid_out}
use Rattle.wcs_refine.proofs.associating.set_out.Goals as goal

pub returns : goal.returns
returns c =
    let a = c.args in
    laid_out a.spots.now a.floats.now (4 * a.room) a.within (omega (arith, c.requires.0, c.requires.1)) c.lay_points.ensures refl
