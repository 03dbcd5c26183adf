-- The residuals stand at the front of the floats, and their statistics pick the clip.
use Rattle.std.proofs.Common.{◌≡◌, ◌-◌, ◌/◌, length, refl, arith}
use Rattle.wcs_refine.proofs.RoundSteps.{trim_counts, trimmed}
use Rattle.wcs_refine.proofs.rounds.trim.Goals as goal

pub compute_stats-s-requires : goal.compute_stats-s-requires
compute_stats-s-requires c =
    let a = c.args in (
      omega (arith, c.requires, c.residuals-in_front.auto),
      trim_counts a.course.now.k a.course.now.spots.now a.course.now.directions.now a.pose a.matches.now a.floats.now _ c.requires.1 c.residuals-in_front.ensures,
    )

pub returns : goal.returns
returns c =
    let a = c.args in
    let whole : length a.matches.now / 2 - 0 ≡ length a.matches.now / 2 = omega arith in
    trimmed a.course.now.k a.course.now.spots.now a.course.now.directions.now a.pose a.matches.now a.floats.now _ c.requires.1 c.residuals-in_front.ensures _
    (length a.matches.now / 2) (length a.matches.now / 2 - 0) _ _ refl whole c.compute_stats-s.ensures c.clip_round-used.ensures c.adaptive_px-radius.ensures
