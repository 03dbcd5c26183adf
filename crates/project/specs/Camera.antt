-- The axes of the camera: `camera_rows_f64`, `tan_basis`, `tan_project_vec`, `rotation_from_theta_crval`, `wcs_to_rotation` (wcs_refine.rs). Definitions only.
-- Assumes nothing.
use Rattle.std.specs.Prelude.{ℕ, Bool, cond, Option, List, [], ◌∷◌, pos, Float}
use Rattle.std.specs.Float.{binary64}
use Rattle.std.specs.Float.Ieee.{neg, lt, of_int}
use Rattle.rounding.specs.Arith.{◌⊖◌, ◌⊗◌, ◌⊘◌, zero64}
use Rattle.rounding.specs.Narrow.{narrowed}
use Rattle.angles.specs.SinCos.{sin, cos}
use Rattle.angles.specs.Inverse.{atan}
use Rattle.solve.specs.Constants.{two}
use Rattle.solve.specs.Vector.{at, row, entry, dot, norm, normalised, combined, negated}
use Rattle.project.specs.Project.{divided}
use Rattle.project.specs.declared.Plane.{Plane}
use Rattle.project.specs.declared.WcsRotation.{WcsRotation}

-- The basis of the tangent plane at (ra, dec): east, the Rust's `e_xi`,
unfoldable pub east : Float → List Float
unfolding sin cos
east ra = neg (sin ra) ∷ cos ra ∷ zero64 ∷ []

-- north, its `e_eta`,
unfoldable pub north : Float → Float → List Float
unfolding sin cos
north ra dec = neg (sin dec) ⊗ cos ra ∷ neg (sin dec) ⊗ sin ra ∷ cos dec ∷ []

-- and the boresight.
unfoldable pub boresight : Float → Float → List Float
unfolding sin cos
boresight ra dec = cos dec ⊗ cos ra ∷ cos dec ⊗ sin ra ∷ sin dec ∷ []

-- camera_rows_f64: the rows [cam_x, cam_y, boresight]
unfoldable pub camera_rows : Float → Float → Float → List (List Float)
unfolding east north boresight combined normalised
camera_rows theta ra dec =
    normalised (combined (east ra) (cos theta) (north ra dec) (sin theta))
    ∷ normalised (combined (east ra) (neg (sin theta)) (north ra dec) (cos theta))
    ∷ boresight ra dec
    ∷ []

-- tan_basis: the camera rows at theta 0
unfoldable pub tan_basis : Float → Float → List (List Float)
unfolding camera_rows
tan_basis ra dec = camera_rows zero64 ra dec

-- tan_project_vec: a direction v by its dot products with the basis; widening its f32 components changes no value
unfoldable pub tan_project_vec : Float → List Float → List (List Float) → Option Plane
unfolding dot divided
tan_project_vec cut v basis = divided cut (dot (row basis 0) v) (dot (row basis 1) v) (dot (row basis 2) v)

-- A row in f32: `as f32` of each component.
unfoldable pub narrowed_row : List Float → List Float
unfolding narrowed
narrowed_row v = narrowed (at v 0) ∷ narrowed (at v 1) ∷ narrowed (at v 2) ∷ []

-- rotation_from_theta_crval: the camera rows in f32
unfoldable pub rotation_from_theta_crval : Float → Float → Float → List (List Float)
unfolding camera_rows narrowed_row
rotation_from_theta_crval theta ra dec =
    let m = camera_rows theta ra dec in
    narrowed_row (row m 0) ∷ narrowed_row (row m 1) ∷ narrowed_row (row m 2) ∷ []

-- wcs_to_rotation: the mirror is a negative determinant of cd
unfoldable pub mirrored : List (List Float) → Bool
mirrored cd = lt (entry cd 0 0 ⊗ entry cd 1 1 ⊖ entry cd 0 1 ⊗ entry cd 1 0) zero64

-- Its `cam_x_icrs_raw`: the camera's x axis before normalising, negated for a mirrored image,
unfoldable pub raw_x : List (List Float) → Float → Float → List Float
unfolding mirrored combined negated east north
raw_x cd ra dec =
    let v = combined (east ra) (entry cd 0 0) (north ra dec) (entry cd 1 0) in
    cond (mirrored cd) (negated v) v

-- and its `cam_y_icrs_raw`.
unfoldable pub raw_y : List (List Float) → Float → Float → List Float
unfolding combined east north
raw_y cd ra dec = combined (east ra) (entry cd 0 1) (north ra dec) (entry cd 1 1)

-- Its `fov`: the field of view, 2 atan(ps_x * W / 2), in f32.
unfoldable pub field_of_view : Float → ℕ → Float
unfolding atan narrowed
field_of_view ps_x width = narrowed (two ⊗ atan (ps_x ⊗ of_int binary64 (pos width) ⊘ two))

-- `wcs_to_rotation` whole: the rotation by its rows, the field of view, and the mirror.
unfoldable pub wcs_to_rotation : List (List Float) → Float → Float → ℕ → WcsRotation
unfolding raw_x raw_y boresight normalised narrowed_row field_of_view mirrored norm
wcs_to_rotation cd ra dec width = record {
  rotation =
      narrowed_row (normalised (raw_x cd ra dec))
      ∷ narrowed_row (normalised (raw_y cd ra dec))
      ∷ narrowed_row (boresight ra dec)
      ∷ [];
  fov = field_of_view (norm (raw_x cd ra dec)) width;
  parity_flip = mirrored cd;
}
