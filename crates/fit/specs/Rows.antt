-- What one match brings to the fit, and what a pass computes once (wcs_refine.rs, the heads of `ls_fit_once`, `normal_matrix` and
-- `compute_residuals`). Definitions only.
-- Look up first, then compute: fit, residuals and normal matrix see spots and directions through these rows alone. Assumes nothing.
use Rattle.std.specs.Prelude.{ℕ, zero, suc, ◌+◌, ◌*◌, ◌/◌, List, [], ◌∷◌, get_or, length, Float}
use Rattle.std.specs.Float.{nan}
use Rattle.fit.specs.declared.Pose.{Pose}
use Rattle.panel.specs.Spots.{spot_at}
use Rattle.panel.specs.declared.Spot.{Spot}
use Rattle.fit.specs.declared.View.{View}
use Rattle.project.specs.Camera.{tan_basis}
use Rattle.angles.specs.SinCos.{sin, cos}

-- What a match (cent_idx, cat_idx) looks up: `centroids_px[cent_idx]`, with its weight, and `star_vectors.get(cat_idx)`, by value. 01: "`get` gives the base vector".
pub record Row : Type 0 where
  pub spot : Spot
  pub direction : List Float

-- The code's side: a row of a spot and a direction.
abbrev pub row_of : Spot → List Float → Row
row_of c d = record { spot = c; direction = d }

-- `star_vectors.get(i)`: directions lie flat, three components each. Past the list's end each reads as NaN.
unfoldable pub direction_at : List Float → ℕ → List Float
direction_at directions i =
    get_or directions (3 * i) nan
    ∷ get_or directions (3 * i + 1) nan
    ∷ get_or directions (3 * i + 2) nan
    ∷ []

-- The row of match k, `matches[k]`. 01: "spot then direction", so the list lies flat.
unfoldable pub row_at : List Float → List Float → List ℕ → ℕ → Row
unfolding spot_at direction_at
row_at spots directions matches k = record {
  spot = spot_at spots (get_or matches (2 * k) 0);
  direction = direction_at directions (get_or matches (2 * k + 1) 0);
}

-- The rows of the matches from k on, n of them.
unfoldable pub rows_from : List Float → List Float → List ℕ → ℕ → ℕ → List Row
unfolding row_at
rows_from spots directions matches k zero = []
rows_from spots directions matches k (suc n) =
    row_at spots directions matches k ∷ rows_from spots directions matches (suc k) n

-- `for &(cent_idx, cat_idx) in matches`: the rows of all matches, in their order.
unfoldable pub rows : List Float → List Float → List ℕ → List Row
unfolding rows_from
rows spots directions matches = rows_from spots directions matches 0 (length matches / 2)

-- The view at a pose, what `ls_fit_once`, `normal_matrix` and `compute_residuals` compute once: `theta.cos()`, `theta.sin()` and
-- `tan_basis(crval_ra, crval_dec)` at the head of those functions, and the scale. Beside them the plane cut, which `tan_project_vec` has as a number.
unfoldable pub view_of : Pose → Float → View
unfolding tan_basis sin cos
view_of p cut = record {
  basis = tan_basis p.ra p.dec;
  roll = record { cos_t = cos p.theta; sin_t = sin p.theta; ps = p.scale };
  cut = cut;
}
