use Rattle.std.proofs.Common.{arith}
use lib.Ieee.{nan}
use Rattle.stats.specs.Median.{deviations}
use Rattle.stats.proofs.Fronts.{fronted_none, fronted_more, fronted_all}
use Rattle.stats.proofs.deviate.Goals as goal

pub loop-x-init : goal.loop-x-init
loop-x-init c = fronted_none _ _

pub loop-x-preserved : goal.loop-x-preserved
loop-x-preserved c = fronted_more _ _ _ _ nan _ c.loop-x.invariant (omega arith) c.abs.ensures

pub returns : goal.returns
unfolding deviations
returns c = fronted_all _ _ _ _ c.loop-x.invariant (omega arith)
