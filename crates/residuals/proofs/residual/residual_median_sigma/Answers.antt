-- `residuals::residual::residual_median_sigma` meets its contract: what the statistics are lent is those in front of the plane. Assumes nothing.
use Rattle.residuals.proofs.Gathered.{measured}
use Rattle.residuals.proofs.residual.residual_median_sigma.Goals as goal

pub returns : goal.returns
returns c =
    let e = c.split_at_mut-residuals.ensures in
    let g = c.gather-count.ensures in
    measured c.args.l.now c.args.n c.min-from.ensures e.front e.back g.0 g.1 c.median_mad_sigma.new.vals c.median_mad_sigma.ensures
