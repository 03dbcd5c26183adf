-- Enough residuals or not picks the definition's case.
use Rattle.wcs_refine.proofs.ClipSteps.{no_stats, with_stats}
use Rattle.wcs_refine.proofs.clipping.compute_stats.Goals as goal

pub returns-then-seen-lt-FEWEST_RESIDUALS : goal.returns-then-seen-lt-FEWEST_RESIDUALS
returns-then-seen-lt-FEWEST_RESIDUALS c =
    no_stats c.args.floats.now c.args.n c.args.seen c.requires.1 c.if-seen-lt-FEWEST_RESIDUALS.true

pub returns : goal.returns
returns c =
    with_stats c.args.floats.now _ c.args.n c.args.seen _ c.requires.0 c.requires.1 c.if-seen-lt-FEWEST_RESIDUALS.false
    c.residual_median_sigma.ensures
