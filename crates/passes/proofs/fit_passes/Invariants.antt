use mathlib.Core.Path.{◌≡◌}
use Prim.Native.Nat.{◌-◌}
use Rattle.fit.specs.Rows.{rows}
use Rattle.passes.specs.Fit.{fit_passes}
use Rattle.passes.proofs.PassSteps.{later}
use Rattle.passes.proofs.fit_passes.Given as goal

abbrev pub invariant-loop-i : goal.invariant-loop-i
invariant-loop-i l = later l.i (fit_passes (10 - l.i) l.cut (rows l.spots l.directions l.matches) l.p) ≡ fit_passes 10 l.cut (rows l.spots l.directions l.matches) l.initial.p
