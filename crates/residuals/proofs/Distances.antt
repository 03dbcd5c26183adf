-- One match more among the residuals: what is written and what is counted. Assumes nothing.
use mathlib.Core.Path.{◌≡◌, refl, sym, ap, ◌∙◌}
use mathlib.Core.Bool.{Bool, true, false, cond, not}
use mathlib.Core.List.{List, [], ◌∷◌, ◌++◌}
use Prim.Native.Nat.{ℕ, zero, suc, ◌+◌, ◌-◌, ◌*◌, ◌≤◌, ◌<◌}
use native.Mathlib.Numerals.{add-one}
use native.Mathlib.Omega.{arith}
use lib.Ieee.{Float, eq, ne}
use mir.Val.{bool_byte}
use lib.ListN.{get_or, length, take, drop, set, take-append-drop}
use lib.Seq.{take-nil, drop-nil}
use Rattle.solve.specs.Constants.{minus_one}
use Rattle.residuals.specs.Residual.{residual_of, residuals, over, in_front}
use Rattle.panel.specs.Spots.{spot_at}
use Rattle.fit.specs.Rows.{row_of, direction_at, row_at, rows_from}
use Rattle.fit.specs.declared.View.{View}
use Rattle.panel.specs.declared.Spot.{Spot}
use Rattle.fit.proofs.Lookup.{rows_next, rows_none}

-- The residuals of the rows from the match i on.
module _ (w : View) (ss ds : List Float) (ms : List ℕ) (n i : ℕ) where
  pub residuals_next : i < n → {c : Spot} {d : List Float} {x : Float} → c ≡ spot_at ss (get_or ms (2 * i) 0) → d ≡ direction_at ds (get_or ms (2 * i + 1) 0)
      → x ≡ residual_of w (row_of c d) → residuals w (rows_from ss ds ms i (n - i)) ≡ x ∷ residuals w (rows_from ss ds ms (i + 1) (n - (i + 1)))
  unfolding residuals row_at
  residuals_next h {c} {d} {x} p q r =
      let e : x ≡ residual_of w (row_at ss ds ms i) = rw (r, p, q) in
      ap (residuals w) (rows_next ss ds ms n i h) ∙ ap (λ (y : Float). y ∷ residuals w (rows_from ss ds ms (i + 1) (n - (i + 1)))) (sym e)

  pub residuals_none : n ≤ i → residuals w (rows_from ss ds ms i (n - i)) ≡ []
  unfolding residuals
  residuals_none h = ap (residuals w) (rows_none ss ds ms n i h)

over_nil : (xs : List Float) → over xs [] ≡ []
unfolding over
over_nil [] = refl
over_nil (x ∷ xs) = refl

-- what is left to write, after the place i is written; past the end of the list nothing is
over_next : (x : Float) (xs l : List Float) (i : ℕ) → take (suc i) (set l i x) ++ over xs (drop (suc i) (set l i x)) ≡ take i l ++ over (x ∷ xs) (drop i l)
unfolding over
over_next x xs [] i = rw (take-nil i, drop-nil i, over_nil xs)
over_next x xs (y ∷ l) zero = refl
over_next x xs (y ∷ l) (suc i) = ap (λ (r : List Float). y ∷ r) (over_next x xs l i)

pub written_next : (l : List Float) (i : ℕ) {x : Float} {xs ys m whole : List Float} → xs ≡ x ∷ ys → m ≡ set l i x → take i l ++ over xs (drop i l) ≡ whole
    → take (i + 1) m ++ over ys (drop (i + 1) m) ≡ whole
written_next l i {x} {xs} {ys} p q r =
    rw (q, add-one i) (over_next x ys l i ∙ sym (ap (λ (z : List Float). take i l ++ over z (drop i l)) p) ∙ r)

pub written_done : (l : List Float) (i : ℕ) {xs whole : List Float} → xs ≡ [] → take i l ++ over xs (drop i l) ≡ whole → l ≡ whole
unfolding over
written_done l i p r = sym (take-append-drop i l) ∙ sym (ap (λ (z : List Float). take i l ++ over z (drop i l)) p) ∙ r

picked : (b : Bool) (x : Float) (xs : List Float) → length (cond b xs (x ∷ xs)) ≡ cond b 0 1 + length xs
picked true x xs = omega arith
picked false x xs = omega arith

pub front_length : (x : Float) (xs : List Float) → length (in_front (x ∷ xs)) ≡ cond (eq x minus_one) 0 1 + length (in_front xs)
unfolding in_front
front_length x xs = picked (eq x minus_one) x (in_front xs)

pub counted_next : (k : ℕ) {x : Float} {xs ys : List Float} {u total : ℕ} → xs ≡ x ∷ ys → u ≡ cond (eq x minus_one) 0 1 → k + length (in_front xs) ≡ total
    → k + u + length (in_front ys) ≡ total
counted_next k {x} {xs} {ys} p q r =
    let e : length (in_front xs) ≡ cond (eq x minus_one) 0 1 + length (in_front ys) = ap (λ (z : List Float). length (in_front z)) p ∙ front_length x ys in
    omega arith

-- what a residual adds to the number of those in front of the plane
tally : (b : Bool) → (bool_byte (not b) ≤ 1) × (bool_byte (not b) ≡ cond b 0 1)
tally true = (omega arith, refl)
tally false = (omega arith, refl)

pub tallied : (x : Float) {u : ℕ} → u ≡ bool_byte (ne x minus_one) → (u ≤ 1) × (u ≡ cond (eq x minus_one) 0 1)
unfolding ne
tallied x e = rw e (tally (eq x minus_one))

pub counted_done : (k : ℕ) {xs : List Float} {total : ℕ} → xs ≡ [] → k + length (in_front xs) ≡ total → k ≡ total
unfolding in_front
counted_done k {xs} p r =
    let e : length (in_front xs) ≡ 0 = ap (λ (z : List Float). length (in_front z)) p in
    omega arith
