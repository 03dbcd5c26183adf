-- `associating::associate_spots` meets its contract: the points are laid behind the predictions, which stay. Assumes nothing.
use Rattle.std.proofs.Common.{arith, rules}
use Rattle.wcs_refine.proofs.Lent.{same_on}
use Rattle.wcs_refine.proofs.Points.{spots_associated}
use Rattle.wcs_refine.proofs.associating.associate_spots.Goals as goal

pub returns : goal.returns
returns c =
    let w = c.args.w.now in
    let s = c.associate.ensures in (
      same_on (search rules) s.0,
      spots_associated w.course.k w.course.room c.args.q _ w.course.spots.now w.floats.now _ w.held c.args.r w.numbers.now _ _ (omega (arith, w.course.fits, c.requires)) c.min-within.ensures
          c.set_out.ensures s.1,
    )
