-- The projections of wcs_refine.rs on angles: `tan_project`, `inverse_tan_project`, `cd_from_theta`, `predict_tanplane`. Definitions only. Assumes nothing.
use Rattle.std.specs.Prelude.{Bool, true, false, cond, Option, Some, None, List, [], ◌∷◌, Float}
use Rattle.std.specs.Float.{binary64}
use Rattle.std.specs.Float.Ieee.{neg, lt, le}
use Rattle.rounding.specs.Arith.{◌⊕◌, ◌⊖◌, ◌⊗◌, ◌⊘◌, one64}
use Rattle.rounding.specs.Root.{root}
use Rattle.rounding.specs.Methods.{clamp_f}
use Rattle.angles.specs.SinCos.{sin, cos}
use Rattle.angles.specs.Inverse.{atan, asin, atan2}
use Rattle.solve.specs.Constants.{plane_cut, tiny, minus_one}
use Rattle.project.specs.declared.Sky.{Sky}
use Rattle.project.specs.declared.Plane.{Plane}

-- What a numerator pair and a denominator project to; on or behind the plane, nothing. A NaN denominator is not at most the cut.
unfoldable pub divided : Float → Float → Float → Float → Option Plane
divided cut xi eta denom = cond (le denom cut) None (Some (record { xi = xi ⊘ denom; eta = eta ⊘ denom }))

-- tan_project: of (ra, dec) onto the tangent plane at (ra0, dec0)
unfoldable pub tan_project : Float → Float → Float → Float → Option Plane
unfolding divided sin cos
tan_project ra dec ra0 dec0 =
    let da = ra ⊖ ra0 in
    divided plane_cut
    (cos dec ⊗ sin da)
    (sin dec ⊗ cos dec0 ⊖ cos dec ⊗ sin dec0 ⊗ cos da)
    (sin dec ⊗ sin dec0 ⊕ cos dec ⊗ cos dec0 ⊗ cos da)

-- inverse_tan_project, off the reference point: c is the angle from it, rho the tangent of c
unfoldable pub away_from : Float → Float → Float → Float → Float → Float → Sky
unfolding sin cos asin atan2 clamp_f
away_from xi eta ra0 dec0 rho c = record {
  ra = ra0 ⊕ atan2 (xi ⊗ sin c) (rho ⊗ cos dec0 ⊗ cos c ⊖ eta ⊗ sin dec0 ⊗ sin c);
  dec = asin (clamp_f (cos c ⊗ sin dec0 ⊕ eta ⊗ sin c ⊗ cos dec0 ⊘ rho) minus_one one64);
}

-- inverse_tan_project: the point of the sky at (xi, eta) of the plane at (ra0, dec0)
unfoldable pub inverse_tan_project : Float → Float → Float → Float → Sky
unfolding away_from atan root
inverse_tan_project xi eta ra0 dec0 =
    let rho_sq = xi ⊗ xi ⊕ eta ⊗ eta in
    let rho = root binary64 rho_sq in
    cond (lt rho_sq tiny) (record { ra = ra0; dec = dec0 }) (away_from xi eta ra0 dec0 rho (atan rho))

-- cd_from_theta: from pixels to the plane; with the mirror (parity_flip) the first column is negated
unfoldable pub cd_from_theta : Float → Float → Bool → List (List Float)
unfolding sin cos
cd_from_theta theta ps true =
    (neg ps ⊗ cos theta ∷ neg ps ⊗ sin theta ∷ []) ∷ (neg ps ⊗ sin theta ∷ ps ⊗ cos theta ∷ []) ∷ []
cd_from_theta theta ps false =
    (ps ⊗ cos theta ∷ neg ps ⊗ sin theta ∷ []) ∷ (ps ⊗ sin theta ∷ ps ⊗ cos theta ∷ []) ∷ []

-- predict_tanplane: the plane point of a spot at (px, py)
unfoldable pub predict_tanplane : Float → Float → Float → Float → Float → Plane
predict_tanplane px py cos_t sin_t ps = record {
  xi = ps ⊗ (cos_t ⊗ px ⊖ sin_t ⊗ py);
  eta = ps ⊗ (sin_t ⊗ px ⊕ cos_t ⊗ py);
}
