use mathlib.Core.Path.{◌≡◌}
use mathlib.Core.List.{◌++◌}
use Prim.Native.Nat.{◌≤◌}
use lib.ListN.{length, take, drop}
use Rattle.residuals.specs.Residual.{in_front}
use Rattle.residuals.proofs.residual.gather.Given as goal

abbrev pub invariant-loop-x : goal.invariant-loop-x
invariant-loop-x l =
    (l.k ≤ l.x-index) × (length l.scratch ≡ length l.initial.scratch) × (l.k ≡ length (in_front (take l.x-index l.residuals)))
    × (l.scratch ≡ in_front (take l.x-index l.residuals) ++ drop l.k l.initial.scratch)
