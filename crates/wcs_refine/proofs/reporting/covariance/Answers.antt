-- `wcs_refine::reporting::covariance` meets its contract. Assumes nothing.
use Rattle.std.proofs.Common.{ap, ◌∙◌}
use Rattle.fit.specs.declared.Counted.{Counted}
use Rattle.wcs_refine.specs.Cleaning.{covariance_of}
use Rattle.wcs_refine.proofs.reporting.covariance.Goals as goal

pub returns : goal.returns
unfolding covariance_of
returns c = c.covariance_from_normal.ensures ∙ ap (λ (m : Counted). covariance_of m c.args.sum) c.normal_matrix-m.ensures
