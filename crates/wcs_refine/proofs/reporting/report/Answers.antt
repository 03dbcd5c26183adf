-- `wcs_refine::reporting::report` meets its contract: the residuals stand at the front of the floats, and the matrices are taken by rows. Assumes nothing.
use Rattle.std.proofs.Common.{◌≡◌, ℕ, ◌-◌, ◌/◌, length, take, ap, ◌∙◌, arith}
use Rattle.fit.specs.Rows.{rows}
use Rattle.entry.specs.Entry.{fixed_of}
use Rattle.wcs_refine.proofs.CleanSteps.{written_front, residual_count}
use Rattle.wcs_refine.proofs.ReportSteps.{report_is}
use Rattle.wcs_refine.proofs.reporting.report.Goals as goal

pub returns : goal.returns
returns c =
    let a = c.args in
    let n = length a.matches.now / 2 in
    let whole : n - 0 ≡ n = omega arith in
    let d = c.residuals-in_front.ensures in
    let e = written_front _ a.floats.now _ n (residual_count a.course.now.k.cut a.course.now.spots.now a.course.now.directions.now a.pose a.matches.now) c.requires d in
    report_is a.pose a.matches.now (rows a.course.now.spots.now a.course.now.directions.now a.matches.now) (fixed_of a.course.now.k) _ _ _ _ _ _
    (ap (λ (m : ℕ). take m c.residuals-in_front.new.floats) whole ∙ e) d.counted c.sum_squares-sum.ensures c.root_mean-rms.ensures c.covariance-cov.ensures c.cd_from_theta-cd.ensures
