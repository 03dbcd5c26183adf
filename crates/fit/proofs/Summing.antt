-- One match more in the normal equations. Assumes nothing.
use mathlib.Core.Path.{◌≡◌, sym, ap, ◌∙◌}
use mathlib.Core.Bool.{Bool}
use mathlib.Core.List.{List}
use Prim.Native.Nat.{ℕ, ◌+◌, ◌-◌, ◌*◌, ◌≤◌, ◌<◌}
use lib.Ieee.{Float}
use lib.ListN.{get_or}
use Rattle.panel.specs.Spots.{spot_at}
use Rattle.panel.specs.declared.Spot.{Spot}
use Rattle.fit.specs.Normal.{with_row, with_rows}
use Rattle.fit.specs.Rows.{row_of, direction_at, row_at, rows_from}
use Rattle.fit.specs.declared.View.{View}
use Rattle.fit.specs.declared.Counted.{Counted}
use Rattle.fit.proofs.Lookup.{rows_next, rows_none}

-- What is left to sum gives the whole: a turn of the loop keeps that, and at the end nothing is left.
module _ (f : Bool) (w : View) (ss ds : List Float) (ms : List ℕ) (n i : ℕ) (t whole : Counted)
    (left : with_rows f w t (rows_from ss ds ms i (n - i)) ≡ whole) where
  pub sum_next : i < n → {c : Spot} {d : List Float} {next : Counted} → c ≡ spot_at ss (get_or ms (2 * i) 0) → d ≡ direction_at ds (get_or ms (2 * i + 1) 0)
      → next ≡ with_row f w t (row_of c d) → with_rows f w next (rows_from ss ds ms (i + 1) (n - (i + 1))) ≡ whole
  unfolding with_rows row_at
  sum_next h {c} {d} {next} p q r =
      let e : next ≡ with_row f w t (row_at ss ds ms i) = rw (r, p, q) in
      ap (λ (x : Counted). with_rows f w x (rows_from ss ds ms (i + 1) (n - (i + 1)))) e ∙ sym (ap (with_rows f w t) (rows_next ss ds ms n i h)) ∙ left

  pub sum_done : n ≤ i → t ≡ whole
  unfolding with_rows
  sum_done h = sym (ap (with_rows f w t) (rows_none ss ds ms n i h)) ∙ left
