-- `start_pose` meets its contract: each step is one of the definition. Assumes nothing.
use mathlib.Core.Path.{ap}
use mathlib.Core.List.{List}
use lib.Ieee.{Float}
use Rattle.solve.specs.Vector.{row}
use Rattle.entry.proofs.StartPoses.{posed}
use Rattle.entry.proofs.head.start_pose.Goals as goal

pub returns : goal.returns
returns c =
    let axes = c.plane_at.ensures in
    posed c.args.rotation c.widened-z.ensures c.widened-x.ensures c.atan2-ra.ensures c.clamp.ensures c.asin-dec.ensures (ap (λ (m : List (List Float)). row m 1) axes) (ap (λ (m : List (List Float)). row m 0) axes) c.dot.ensures c.dot-2.ensures c.atan2-theta.ensures
