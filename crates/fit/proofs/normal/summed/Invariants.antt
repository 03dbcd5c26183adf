-- The sums so far, with the matches that are left, give the whole.
use Rattle.std.proofs.Common.{◌≡◌, ◌-◌, ◌/◌, ◌≤◌, Bool, length}
use Rattle.fit.specs.Normal.{Brings, with_rows, no_matches}
use Rattle.fit.specs.Rows.{rows, rows_from}
use Rattle.fit.proofs.normal.summed.Given as goal

abbrev pub invariant-loop-spot : goal.invariant-loop-spot
invariant-loop-spot g l = record {
  counts : l.s.n ≤ l.spot-index;
  left : (fitting : Bool) → Brings (goal.F-post g l.brings) fitting l.w
      → with_rows fitting l.w l.s (rows_from l.spots l.directions l.fn.matches l.spot-index (length l.fn.matches / 2 - l.spot-index)) ≡ with_rows fitting l.w no_matches (rows l.spots l.directions l.fn.matches);
}
