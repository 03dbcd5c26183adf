use mathlib.Core.List.{[], ◌∷◌}
use Prim.Native.Nat.{◌*◌, ◌-◌, ◌≤◌}
use lib.ListN.{length}
use Rattle.query.specs.Query.{scanned}
use Rattle.query.proofs.Listed.{Writing}
use Rattle.query.proofs.scan.scan_into.Given as goal

abbrev pub invariant-loop-j : goal.invariant-loop-j
invariant-loop-j l = (l.k ≤ l.j) × (l.n ≤ length l.initial.out) × (3 * l.n ≤ length l.directions) × Writing 0 l.k l.out l.initial.out (scanned l.directions (l.x ∷ l.y ∷ l.z ∷ []) l.least l.j (l.n - l.j)) (scanned l.directions (l.x ∷ l.y ∷ l.z ∷ []) l.least 0 l.n)
