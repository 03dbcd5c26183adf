use Rattle.std.proofs.Common.{rules}
use Rattle.lists.proofs.Fronts.{fill_step}
use Rattle.lists.proofs.Clearing.{all_cleared}
use Rattle.lists.proofs.clear.Goals as goal

pub loop-x-preserved : goal.loop-x-preserved
loop-x-preserved g c = rw c.ZERO.ensures (fill_step _ _ _ c.loop-x.invariant (search rules))

pub returns : goal.returns
returns g c = all_cleared g.T.Zero.ZERO c.args.n _ c.loop-x.x-index c.args.s.now _ c.min-most.ensures c.loop-x-test.false c.loop-x.auto.x-index-end c.loop-x.invariant
