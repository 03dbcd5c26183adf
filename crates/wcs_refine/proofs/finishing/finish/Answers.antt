-- `finishing::finish` meets its contract: the closing clips, and from what they leave the report and the result list. Assumes nothing.
use Rattle.std.proofs.Common.{◌≡◌, ◌-◌, ◌*◌, ◌≤◌, length, arith, rules}
use Rattle.wcs_refine.proofs.Along.{hands_on}
use Rattle.wcs_refine.proofs.CallEnds.{Closes, closes_unsound, closes_fine}
use Rattle.wcs_refine.proofs.finishing.finish.Goals as goal

pub returns-in_err-pose : goal.returns-in_err-pose
returns-in_err-pose c =
    let a = c.args in
    let w = a.w.now in (
      search rules,
      hands_on (Closes w.course.k w.course.spots.now w.course.directions.now w.held.pose w.held.used w.numbers.now c.clean.new.matches a.result_list.now a.counts a.result_list.now) _ c.from_residual.ensures.1
          (closes_unsound w.course.k w.course.spots.now w.course.directions.now w.held.pose w.held.used w.numbers.now c.clean.new.matches a.result_list.now a.counts _
          c.in_err-pose.ensures),
    )

pub returns : goal.returns
returns c =
    let a = c.args in
    let w = a.w.now in
    let q = c.in_ok-pose.field-0 in
    let whole : 2 * q.used - 0 ≡ 2 * q.used = omega arith in
    let fits : 2 * w.held.used ≤ length w.numbers.now = omega (arith, w.used, w.many) in (
      search rules,
      closes_fine w.course.k w.course.spots.now w.course.directions.now w.held.pose w.held.used w.numbers.now _ a.result_list.now a.counts
          q c.in_ok-pose.ensures (2 * q.used - 0) c.report-rms.result whole c.clean.auto.matches fits
          c.report-rms.ensures c.lay_over.ensures,
    )
