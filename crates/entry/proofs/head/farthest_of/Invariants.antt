use Prim.Native.Nat.{◌≤◌, ◌-◌}
use mathlib.Core.Path.{◌≡◌}
use lib.Ieee.{binary64}
use Rattle.rounding.specs.Arith.{zero64}
use Rattle.rounding.specs.Root.{root}
use Rattle.rounding.proofs.RootMax.{Plain}
use Rattle.entry.specs.Fixed.{farthest}
use Rattle.entry.proofs.head.farthest_of.Given as goal

abbrev pub invariant-loop-i : goal.invariant-loop-i
invariant-loop-i l = (l.i ≤ l.n) × Plain binary64 l.square × (farthest l.spots l.i (l.n - l.i) (root binary64 l.square) ≡ farthest l.spots 0 l.n zero64)

abbrev pub decreases-loop-i : goal.decreases-loop-i
decreases-loop-i l = l.n - l.i
