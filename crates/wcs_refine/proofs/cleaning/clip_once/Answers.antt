-- The residuals stand at the front of the floats, and their number picks the definition's case.
use Rattle.std.proofs.Common.{◌≡◌, ℕ, ◌-◌, ◌/◌, ◌≤◌, length, ap, ◌∙◌, arith}
use Rattle.std.specs.Prelude.{Option}
use Rattle.residuals.specs.Residual.{clipped}
use Rattle.wcs_refine.proofs.CleanSteps.{written_front, counted_front, residual_count, closing_few, closing_none, closing_some}
use Rattle.wcs_refine.proofs.cleaning.clip_once.Goals as goal

pub returns-then-n-lt-FEWEST_MATCHES : goal.returns-then-n-lt-FEWEST_MATCHES
returns-then-n-lt-FEWEST_MATCHES c =
    let a = c.args in
    closing_few a.course.now.k.cut a.course.now.spots.now a.course.now.directions.now a.pose a.matches.now c.if-n-lt-FEWEST_MATCHES.true

pub compute_stats-requires : goal.compute_stats-requires
compute_stats-requires c =
    let a = c.args in
    let fits : length a.matches.now / 2 ≤ length a.floats.now = omega (arith, c.requires) in (
      omega (arith, c.requires, c.residuals-in_front.auto),
      counted_front _ a.floats.now _ (length a.matches.now / 2) (residual_count a.course.now.k.cut a.course.now.spots.now a.course.now.directions.now a.pose a.matches.now) fits
          c.residuals-in_front.ensures,
    )

pub returns-in_err-s : goal.returns-in_err-s
returns-in_err-s c =
    let a = c.args in
    let fits : length a.matches.now / 2 ≤ length a.floats.now = omega (arith, c.requires) in
    ap (λ (x : Option ℕ). clipped x a.matches.now) c.from_residual.ensures
    ∙ closing_none a.course.now.k.cut a.course.now.spots.now a.course.now.directions.now a.pose a.matches.now c.if-n-lt-FEWEST_MATCHES.false _ _
    (written_front _ a.floats.now _ (length a.matches.now / 2) (residual_count a.course.now.k.cut a.course.now.spots.now a.course.now.directions.now a.pose a.matches.now) fits
    c.residuals-in_front.ensures) c.compute_stats.ensures c.in_err-s.was

pub returns : goal.returns
returns c =
    let a = c.args in
    let fits : length a.matches.now / 2 ≤ length a.floats.now = omega (arith, c.requires) in
    let whole : length a.matches.now / 2 - 0 ≡ length a.matches.now / 2 = omega arith in
    closing_some a.course.now.k.cut a.course.now.spots.now a.course.now.directions.now a.pose a.matches.now c.if-n-lt-FEWEST_MATCHES.false _ _
    (written_front _ a.floats.now _ (length a.matches.now / 2) (residual_count a.course.now.k.cut a.course.now.spots.now a.course.now.directions.now a.pose a.matches.now) fits
    c.residuals-in_front.ensures) c.compute_stats.ensures (length a.matches.now / 2 - 0) whole c.in_ok-s.was c.mad_clip_matches.ensures
