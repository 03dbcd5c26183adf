-- `wcs_refine::reporting::root_mean` meets its contract: whether there is a residual picks the definition's case. Assumes nothing.
use Rattle.std.proofs.Common.{le-ltb, lt-ltb}
use Rattle.wcs_refine.proofs.reporting.root_mean.Goals as goal

pub returns-then-n-lt1 : goal.returns-then-n-lt1
returns-then-n-lt1 c = rw (lt-ltb _ _ c.if-n-lt1.true)

pub returns : goal.returns
returns c = rw (le-ltb _ _ c.if-n-lt1.false, ← c.nearest_u64_to_f64.ensures) c.sqrt.ensures
