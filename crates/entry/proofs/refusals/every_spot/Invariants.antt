use Prim.Native.Nat.{◌-◌}
use mathlib.Core.Bool.{Bool}
use mathlib.Core.Path.{◌≡◌}
use Rattle.panel.specs.declared.Spot.{Spot}
use Rattle.entry.specs.Check.{every_spot}
use Rattle.entry.proofs.refusals.every_spot.Given as goal

-- all spots pass where the rest do
abbrev pub invariant-loop-i : goal.invariant-loop-i
invariant-loop-i g l = (p : Spot → Bool) → ((s : Spot) (b : Bool) → goal.F-post g l.fn.test s b → b ≡ p s)
    → every_spot p l.spots 0 l.i-end ≡ every_spot p l.spots l.i (l.i-end - l.i)
