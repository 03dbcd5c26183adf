-- The normal equations: `accumulate_normal_equations`, `normal_matrix`, `ls_fit_once` (wcs_refine.rs). Definitions only. Assumes nothing.
use Rattle.std.specs.Prelude.{◌≡◌, ◌+◌, Bool, true, false, cond, Option, Some, None, List, [], ◌∷◌, ltb, Float}
use Rattle.std.specs.Float.Ieee.{neg}
use Rattle.rounding.specs.Arith.{◌⊕◌, ◌⊖◌, ◌⊗◌, zero64, one64}
use Rattle.solve.specs.Vector.{at, row}
use Rattle.project.specs.Project.{predict_tanplane}
use Rattle.project.specs.Camera.{tan_project_vec}
use Rattle.solve.specs.Solve.{solve3x3}
use Rattle.fit.specs.Rows.{Row}
use Rattle.fit.specs.declared.View.{View}
use Rattle.panel.specs.declared.Spot.{Spot}
use Rattle.project.specs.declared.Plane.{Plane}
use Rattle.fit.specs.declared.Sums.{Sums}
use Rattle.fit.specs.declared.Counted.{Counted}
use Rattle.solve.specs.declared.Solution.{Solution}
use Rattle.solve.specs.declared.Solution.TheVariants.{Failed}

-- `j_xi_theta` of accumulate_normal_equations: the derivative by theta of a spot's xi.
unfoldable pub xi_theta : Float → Float → Float → Float → Float → Float
xi_theta px py cos_t sin_t ps = ps ⊗ (neg sin_t ⊗ px ⊖ cos_t ⊗ py)

-- `j_eta_theta` there: the derivative by theta of its eta.
unfoldable pub eta_theta : Float → Float → Float → Float → Float → Float
eta_theta px py cos_t sin_t ps = ps ⊗ (cos_t ⊗ px ⊖ sin_t ⊗ py)

-- `ata[i][j] += jxi[i] * jxi[j] + jeta[i] * jeta[j]`, and likewise for atb: what a match adds to one entry is one sum. 02, CR 8: "Each sum it adds to
-- an entry of the normal matrix, the covariance's included, or right side is first multiplied by the weight".
abbrev pub added : Float → Float → Float → Float → Float → Float → Float
added old weight a b c d = old ⊕ weight ⊗ (a ⊗ b ⊕ c ⊗ d)

-- Row i of the matrix, `for j in 0..3`, with a for jxi[i] and c for jeta[i].
unfoldable pub added_row : List Float → Float → Float → List Float → Float → List Float → List Float
added_row old weight a jxi c jeta =
    added (at old 0) weight a (at jxi 0) c (at jeta 0)
    ∷ added (at old 1) weight a (at jxi 1) c (at jeta 1)
    ∷ added (at old 2) weight a (at jxi 2) c (at jeta 2)
    ∷ []

-- The two loops of accumulate_normal_equations, with the weight and the Jacobian's rows given.
unfoldable pub accumulated_by : Sums → Float → List Float → List Float → Float → Float → Sums
unfolding added_row
accumulated_by s weight jxi jeta r_xi r_eta = record {
  ata =
      added_row (row s.ata 0) weight (at jxi 0) jxi (at jeta 0) jeta
      ∷ added_row (row s.ata 1) weight (at jxi 1) jxi (at jeta 1) jeta
      ∷ added_row (row s.ata 2) weight (at jxi 2) jxi (at jeta 2) jeta
      ∷ [];
  atb =
      added (at s.atb 0) weight (at jxi 0) r_xi (at jeta 0) r_eta
      ∷ added (at s.atb 1) weight (at jxi 1) r_xi (at jeta 1) r_eta
      ∷ added (at s.atb 2) weight (at jxi 2) r_xi (at jeta 2) r_eta
      ∷ [];
}

-- accumulate_normal_equations: "Jacobian rows are ξ: [∂ξ/∂θ, 1, 0] and η: [∂η/∂θ, 0, 1]".
unfoldable pub accumulate_normal_equations :
    Sums → Float → Float → Float → Float → Float → Float → Float → Float → Sums
unfolding accumulated_by xi_theta eta_theta
accumulate_normal_equations s px py weight cos_t sin_t ps r_xi r_eta =
    accumulated_by s weight
    (xi_theta px py cos_t sin_t ps ∷ one64 ∷ zero64 ∷ [])
    (eta_theta px py cos_t sin_t ps ∷ zero64 ∷ one64 ∷ [])
    r_xi r_eta

-- `ata = [[0.0f64; 3]; 3]` and `atb = [0.0f64; 3]` at the head of ls_fit_once and normal_matrix.
unfoldable pub no_sums : Sums
no_sums =
    let z = zero64 ∷ zero64 ∷ zero64 ∷ [] in
    record { ata = z ∷ z ∷ z ∷ []; atb = z }

-- The same with the count of matches in front of the plane, `n_valid` or `n`, at 0.
unfoldable pub no_matches : Counted
unfolding no_sums
no_matches = record { sums = no_sums; n = 0 }

-- The right side that a match in front of the plane brings: in ls_fit_once `xi_cat - xi_pred` and `eta_cat - eta_pred`, in normal_matrix zeros.
unfoldable pub right_side : Bool → View → Spot → Float → Float → Plane
unfolding predict_tanplane
right_side false w c xi eta = record { xi = zero64; eta = zero64 }
right_side true w c xi eta =
    let p = predict_tanplane c.px c.py w.roll.cos_t w.roll.sin_t w.roll.ps in
    record { xi = xi ⊖ p.xi; eta = eta ⊖ p.eta }

-- The code's side: what `gives` brings, by the spot of a match and its direction's plane point, is the right side of a fit or of a normal matrix.
abbrev pub Brings : (Spot → Plane → Plane → Type 0) → Bool → View → Type 0
Brings gives fitting w = (c : Spot) (p r : Plane) → gives c p r → r ≡ right_side fitting w c p.xi p.eta

-- The body of the loop over the matches, with the direction's projection given: a match in front of the plane adds to the sums and is counted,
-- one on or behind it is passed over (`continue`).
unfoldable pub with_match : Bool → View → Counted → Spot → Option Plane → Counted
unfolding accumulate_normal_equations right_side
with_match fitting w t c None = t
with_match fitting w t c (Some p) =
    let r = right_side fitting w c p.xi p.eta in
    record {
      sums =
          accumulate_normal_equations t.sums c.px c.py c.weight w.roll.cos_t w.roll.sin_t w.roll.ps r.xi r.eta;
      n = t.n + 1;
    }

-- The same with the projection made: `tan_project_vec(&star_vectors.get(cat_idx), &basis)`.
unfoldable pub with_row : Bool → View → Counted → Row → Counted
unfolding with_match tan_project_vec
with_row fitting w t r = with_match fitting w t r.spot (tan_project_vec w.cut r.direction w.basis)

-- The loop over the matches of both functions. 01: "Sums run left to right."
unfoldable pub with_rows : Bool → View → Counted → List Row → Counted
unfolding with_row
with_rows fitting w t [] = t
with_rows fitting w t (r ∷ rs) = with_rows fitting w (with_row fitting w t r) rs

-- normal_matrix: JᵀJ over the matches in front of the plane, and their number.
unfoldable pub normal_matrix : View → List Row → Counted
unfolding with_rows no_matches
normal_matrix w rs = with_rows false w no_matches rs

-- The end of ls_fit_once. 01: "The fit stops below 3 valid matches."
unfoldable pub solved_sums : Counted → Solution
unfolding solve3x3
solved_sums t = cond (ltb t.n 3) Failed (solve3x3 t.sums.ata t.sums.atb)

-- ls_fit_once. 01: "`Option` of a solution becomes an enum whose solved case carries the three corrections as floats".
unfoldable pub ls_fit_once : View → List Row → Solution
unfolding solved_sums with_rows no_matches
ls_fit_once w rs = solved_sums (with_rows true w no_matches rs)
