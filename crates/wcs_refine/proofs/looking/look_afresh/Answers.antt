-- `looking::look_afresh` meets its contract: its steps together are the definition's fresh query. Assumes nothing.
use Rattle.wcs_refine.proofs.Lent.{same_on, fits_of}
use Rattle.wcs_refine.proofs.LookSteps.{looked_afresh}
use Rattle.wcs_refine.proofs.looking.look_afresh.Goals as goal

pub returns : goal.returns
returns c =
    let w = c.args.w.now in
    let n = c.list_cone-n.ensures in
    let q = c.predict-q.ensures in
    let p = c.prune-c.ensures in
    let told = rw (n.0.course, ← p.1) at q.1 in
    let kept = rw (q.0.course, n.0.course) at p.2 in (
      same_on (same_on n.0 q.0) p.0,
      looked_afresh w.course.k w.course.room w.course.directions.now w.held w.numbers.now (fits_of w) (rw (← c.crval.ensures.0, ← c.crval.ensures.1) c.camera_rows_f64-rows.ensures)
          _ _ _ _ c.list_cone-n.result c.predict-q.result c.prune-c.result c.requires
          n.1 told kept c.after_query.ensures,
    )
