-- The points of spots, as the matcher reads them. 02, CR 8: "residuals, clip and matching stay unweighted". Definitions only. Assumes nothing.
use Rattle.std.specs.Prelude.{ℕ, zero, suc, ◌/◌, min, List, [], ◌∷◌, length, Float}
use Rattle.panel.specs.Spots.{spot_numbers, spot_at}

-- x then y of each spot from i on, k of them.
unfoldable pub coordinates : List Float → ℕ → ℕ → List Float
unfolding spot_at
coordinates spots i zero = []
coordinates spots i (suc k) = (spot_at spots i).px ∷ (spot_at spots i).py ∷ coordinates spots (suc i) k

-- How many spots lie within the matching limit, `max_match_centroids`.
abbrev pub within_limit : List Float → ℕ → ℕ
within_limit spots limit = min (length spots / spot_numbers) limit

-- What the matcher is given of the spots: the coordinates of those within the limit, and no weight.
unfoldable pub points_of : List Float → ℕ → List Float
unfolding coordinates
points_of spots limit = coordinates spots 0 (within_limit spots limit)
