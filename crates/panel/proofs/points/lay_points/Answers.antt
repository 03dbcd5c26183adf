use Rattle.std.proofs.Common.{rules}
use Rattle.panel.proofs.Laying.{lay_next}
use Rattle.panel.proofs.points.lay_points.Goals as goal

pub loop-i-preserved : goal.loop-i-preserved
loop-i-preserved c =
    (search rules, lay_next c.args.spots.now c.args.points.now c.loop-i.i c.loop-i.invariant.1 (search rules) c.spot_at-s.ensures)
