use mathlib.Core.Path.{◌≡◌}
use mathlib.Core.List.{◌++◌}
use Prim.Native.Nat.{◌+◌, ◌-◌, ◌/◌, ◌≤◌}
use lib.ListN.{length, take, drop}
use Rattle.residuals.specs.Residual.{residuals, over, in_front}
use Rattle.fit.specs.Rows.{rows, rows_from}
use Rattle.residuals.proofs.residual.residuals.Given as goal

abbrev pub invariant-loop-i : goal.invariant-loop-i
invariant-loop-i l =
    (l.count ≤ l.i) × (length l.out ≡ length l.initial.out)
    × (take l.i l.out ++ over (residuals l.w (rows_from l.spots l.directions l.fn.matches l.i (length l.fn.matches / 2 - l.i))) (drop l.i l.out) ≡ over (residuals l.w (rows l.spots l.directions l.fn.matches)) l.initial.out)
    × (l.count + length (in_front (residuals l.w (rows_from l.spots l.directions l.fn.matches l.i (length l.fn.matches / 2 - l.i)))) ≡ length (in_front (residuals l.w (rows l.spots l.directions l.fn.matches))))
