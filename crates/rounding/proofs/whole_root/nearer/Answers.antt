use Rattle.rounding.proofs.Newton.{step}
use Rattle.rounding.proofs.whole_root.nearer.Goals as goal

pub returns : goal.returns
returns c = step c.args.s c.args.b c.args.m c.ranges.m.fits c.requires
