-- `looking::look_again` meets its contract: the cached query serves. Assumes nothing.
use Rattle.wcs_refine.proofs.Lent.{fits_of}
use Rattle.wcs_refine.proofs.LookSteps.{looked_again}
use Rattle.wcs_refine.proofs.looking.look_again.Goals as goal

pub returns : goal.returns
returns c =
    let w = c.args.w.now in
    let q = c.predict-q.ensures in (
      q.0,
      looked_again w.course.k w.course.room w.course.directions.now w.held w.numbers.now (fits_of w) (rw (← c.crval.ensures.0, ← c.crval.ensures.1) c.camera_rows_f64-rows.ensures)
          _ _ c.predict-q.result c.requires q.1 c.without_query.ensures,
    )
