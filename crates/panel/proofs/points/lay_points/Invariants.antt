-- The points of i spots stand at the front, and what lies behind them is as it was.
use Rattle.std.proofs.Common.{◌≡◌, ◌*◌, ◌++◌, drop, length}
use Rattle.panel.specs.Points.{coordinates}
use Rattle.panel.proofs.points.lay_points.Given as goal

abbrev pub invariant-loop-i : goal.invariant-loop-i
invariant-loop-i l =
    (length l.points ≡ length l.fn.points) × (l.points ≡ coordinates l.spots 0 l.i ++ drop (2 * l.i) l.fn.points)
