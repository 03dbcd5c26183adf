-- What stands at the places of a round's frame: the spots lent, and the predictions (`Places` of `specs/Meaning.antt`). Assumes nothing.
use Rattle.std.proofs.Common.{◌≡◌, ℕ, zero, suc, ◌+◌, ◌*◌, ◌<◌, List, [], ◌∷◌, length, get_or, refl, ap, ap₂, ◌∙◌, arith}
use lib.Ieee.{Float, nan}
use Rattle.pairs.specs.Pairs.{Point, point_at}
use Rattle.pairs.specs.Candidates.{point}
use Rattle.panel.specs.Spots.{spot_at}
use Rattle.panel.specs.Points.{coordinates, within_limit, points_of}
use Rattle.entry.specs.Fixed.{Fixed}
use Rattle.query.specs.Query.{Prediction}
use Rattle.wcs_refine.specs.Associate.{laid, direction_of}
use Rattle.wcs_refine.specs.Round.{State}
use Rattle.wcs_refine.specs.Meaning.{predicted, Places}
use Rattle.wcs_refine.proofs.Points.{points_within}
use Rattle.wcs_refine.proofs.Remaining.{laid_length}

-- two numbers on in a list of points
point_next : (x y : Float) (l : List Float) (n : ℕ) → point_at (x ∷ y ∷ l) (suc n) ≡ point_at l n
unfolding point_at
point_next x y l n =
    let a : 2 * suc n ≡ suc (suc (2 * n)) = omega arith in
    let b : 2 * suc n + 1 ≡ suc (suc (2 * n + 1)) = omega arith in
    ap₂ point (ap (λ (k : ℕ). get_or (x ∷ y ∷ l) k nan) a) (ap (λ (k : ℕ). get_or (x ∷ y ∷ l) k nan) b)

module _ (spots : List Float) where
  abbrev spot_point : ℕ → Point
  spot_point i = point (spot_at spots i).px (spot_at spots i).py

  point_of_spot : (i k n : ℕ) → n < k → point_at (coordinates spots i k) n ≡ spot_point (i + n)
  unfolding coordinates point_at
  point_of_spot i zero n h = absurd (omega arith)
  point_of_spot i (suc k) zero h = let e : i ≡ i + 0 = omega arith in ap spot_point e
  point_of_spot i (suc k) (suc n) h =
      let e : suc i + n ≡ i + suc n = omega arith in
      point_next (spot_at spots i).px (spot_at spots i).py (coordinates spots (suc i) k) n ∙ point_of_spot (suc i) k n (omega arith) ∙ ap spot_point e

  point_within : (limit i : ℕ) → i < within_limit spots limit → point_at (points_of spots limit) i ≡ spot_point i
  unfolding points_of
  point_within limit i h = let e : 0 + i ≡ i = omega arith in point_of_spot 0 (within_limit spots limit) i h ∙ ap spot_point e

prediction_at : (qs : List Prediction) (j : ℕ) (past : Prediction) → j < length qs →
    (point_at (laid qs) j ≡ point (get_or qs j past).x (get_or qs j past).y) × (direction_of qs j ≡ (get_or qs j past).direction)
unfolding laid direction_of point_at
prediction_at [] j past h = absurd (omega arith)
prediction_at (q ∷ qs) zero past h = (refl, refl)
prediction_at (q ∷ qs) (suc j) past h =
    let r = prediction_at qs j past (omega arith) in (point_next q.x q.y (laid qs) j ∙ r.0, r.1)

pub places : (k : Fixed) (spots directions : List Float) (s : State) → Places k spots directions s
places k spots directions s = record {
  spots_many = points_within spots k.limit;
  spot = point_within spots k.limit;
  predictions_many = laid_length (predicted k spots directions s);
  prediction = prediction_at (predicted k spots directions s);
}
