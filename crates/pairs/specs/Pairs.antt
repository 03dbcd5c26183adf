-- The candidate pairs of a round: the first double loop of `greedy_unique_matches` (solver/matching.rs). Definitions only.
-- Spots and predictions are flat lists, x then y; a place past a list's end reads as NaN, which never qualifies. Assumes nothing.
use Rattle.std.specs.Prelude.{ℕ, zero, suc, ◌+◌, ◌*◌, ◌/◌, min, cond, List, [], ◌∷◌, ◌++◌, length, slice_index_or, Float}
use Rattle.std.specs.Float.{nan}
use Rattle.std.specs.Float.Ieee.{le}
use Rattle.rounding.specs.Arith.{◌⊕◌, ◌⊖◌, ◌⊗◌}

-- A spot and a prediction, by their numbers, with the square of their distance.
pub record Pair : Type 0 where
  pub d2 : Float
  pub spot : ℕ
  pub prediction : ℕ

-- A place on the panel, in pixels.
pub record Point : Type 0 where
  pub x : Float
  pub y : Float

-- The point with the number i of a flat list.
unfoldable pub point_at : List Float → ℕ → Point
point_at l i = record { x = slice_index_or l (2 * i) nan; y = slice_index_or l (2 * i + 1) nan }

-- dx * dx + dy * dy, with dx and dy from the prediction to the spot
unfoldable pub squared : Point → Point → Float
squared c p = (c.x ⊖ p.x) ⊗ (c.x ⊖ p.x) ⊕ (c.y ⊖ p.y) ⊗ (c.y ⊖ p.y)

-- `if d2 <= radius_sq`: a pair stands in front of the others where its squared distance is at most the squared radius. 01: "NaN distances never
-- qualify."
unfoldable pub within : Float → Pair → List Pair → List Pair
within r2 p ps = cond (le p.d2 r2) (p ∷ ps) ps

-- The pairs of spot i with the predictions from j on, k of them.
unfoldable pub pairs_of : Float → List Float → ℕ → Point → ℕ → ℕ → List Pair
unfolding within squared point_at
pairs_of r2 predicted i c j zero = []
pairs_of r2 predicted i c j (suc k) =
    within r2 (record { d2 = squared c (point_at predicted j); spot = i; prediction = j })
    (pairs_of r2 predicted i c (suc j) k)

-- The pairs of the spots from i on, k of them: by spot, then prediction.
unfoldable pub pairs_from : Float → List Float → List Float → ℕ → ℕ → List Pair
unfolding pairs_of point_at
pairs_from r2 points predicted i zero = []
pairs_from r2 points predicted i (suc k) =
    pairs_of r2 predicted i (point_at points i) 0 (length predicted / 2) ++ pairs_from r2 points predicted (suc i) k

-- `points.len().min(max_points)`: only the first `limit` spots are looked at.
abbrev pub spots_within : List Float → ℕ → ℕ
spots_within points limit = min (length points / 2) limit

-- All candidates of a round, in the order in which the Rust pushes them. 01's refusal 13 counts these: "in-radius pairs".
unfoldable pub pairs : List Float → ℕ → List Float → Float → List Pair
unfolding pairs_from
pairs points limit predicted r2 = pairs_from r2 points predicted 0 (spots_within points limit)
