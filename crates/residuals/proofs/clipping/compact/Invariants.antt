use mathlib.Core.Path.{◌≡◌}
use mathlib.Core.List.{◌++◌}
use Prim.Native.Nat.{◌*◌, ◌/◌, ◌-◌, ◌≤◌}
use lib.ListN.{length, take, drop}
use Rattle.residuals.specs.Residual.{kept_from}
use Rattle.residuals.proofs.clipping.compact.Given as goal

abbrev pub invariant-loop-i : goal.invariant-loop-i
invariant-loop-i l =
    (length l.matches ≡ length l.initial.matches) × (l.k ≤ 2 * l.i) × (drop l.k l.matches ≡ drop l.k l.initial.matches)
    × (take l.k l.matches ++ kept_from l.threshold l.residuals l.initial.matches l.i (length l.initial.matches / 2 - l.i) ≡ kept_from l.threshold l.residuals l.initial.matches 0 (length l.initial.matches / 2))
