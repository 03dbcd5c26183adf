-- Phase A of a round of `wcs_refine` (wcs_refine.rs): the passes of the fit, with 01's refusal 12. Definitions only. Assumes nothing.
use Rattle.std.specs.Prelude.{ℕ, zero, suc, Result, Ok, Err, Bool, true, false, cond, ◌&&◌, List, ltb, length, Float}
use Rattle.std.specs.Float.Ieee.{lt, le}
use Rattle.rounding.specs.Arith.{◌⊕◌, f64}
use Rattle.rounding.specs.Methods.{abs_f}
use Rattle.project.specs.Project.{inverse_tan_project}
use Rattle.fit.specs.Rows.{Row, view_of}
use Rattle.fit.specs.Normal.{ls_fit_once}
use Rattle.fit.specs.declared.Pose.{Pose}
use Rattle.solve.specs.declared.Solution.{Solution}
use Rattle.solve.specs.declared.Solution.TheVariants.{Solved, Failed}
use Rattle.passes.specs.declared.Passed.{Passed}
use Rattle.passes.specs.declared.Unsound.{Unsound}

-- "Update theta and CRVAL" in phase A: theta and the boresight moved by a solution of `ls_fit_once`. The scale stays.
unfoldable pub moved : Pose → Float → Float → Float → Pose
unfolding inverse_tan_project
moved p d_theta d_xi d_eta =
    let s = inverse_tan_project d_xi d_eta p.ra p.dec in
    record { theta = p.theta ⊕ d_theta; ra = s.ra; dec = s.dec; scale = p.scale }

-- 1,024, the bound of refusal 12
abbrev pub most_angle : Float
most_angle = f64 0x4090000000000000

-- The opposite of 01's refusal 12: "After an update of theta, RA or Dec, one is not finite or exceeds 1,024 in absolute value."
unfoldable pub sound : Pose → Bool
unfolding abs_f
sound p = le (abs_f p.theta) most_angle && le (abs_f p.ra) most_angle && le (abs_f p.dec) most_angle

-- 1e-10, the least move of theta after which the passes go on
abbrev pub still_theta : Float
still_theta = f64 0x3DDB7CDFD9D7BDBB

-- 1e-12, CONVERGENCE_RAD: the same for the boresight's two offsets together
abbrev pub convergence_rad : Float
convergence_rad = f64 0x3D719799812DEA11

-- "Check convergence" in phase A: `d_theta.abs() < 1e-10 && dxi_0.abs() + deta_0.abs() < CONVERGENCE_RAD`.
unfoldable pub still : Float → Float → Float → Bool
unfolding abs_f
still d_theta d_xi d_eta = lt (abs_f d_theta) still_theta && lt (abs_f d_xi ⊕ abs_f d_eta) convergence_rad

-- The pose after the passes, how many there were (01: "fit passes .. as the Rust counts .. WCS_INNER"), and whether refusal 12 was not met.
pub record Passes : Type 0 where
  pub pose : Pose
  pub passes : ℕ
  pub fine : Bool

-- After an update to the pose q, which is sound or not, and still or not: `after` is what follows where the passes go on.
unfoldable pub goes_on : Bool → Bool → Pose → (Pose → Passes) → Passes
goes_on false t q after = record { pose = q; passes = 1; fine = false }
goes_on true true q after = record { pose = q; passes = 1; fine = true }
goes_on true false q after = let r = after q in record { pose = r.pose; passes = suc r.passes; fine = r.fine }

-- One turn of phase A's loop, after its fit: a solved pass moves the pose; a failed one is counted, and ends the passes.
unfoldable pub passed : Pose → Solution → (Pose → Passes) → Passes
unfolding moved sound still goes_on
passed p Failed after = record { pose = p; passes = 1; fine = true }
passed p (Solved d_theta d_xi d_eta) after =
    let q = moved p d_theta d_xi d_eta in
    goes_on (sound q) (still d_theta d_xi d_eta) q after

-- Phase A's loop, `for inner_iter in 0..10` with k to go: at most k passes over the rows; a list shorter than 3 has none.
unfoldable pub fit_passes : ℕ → Float → List Row → Pose → Passes
unfolding passed ls_fit_once view_of
fit_passes zero cut rs p = record { pose = p; passes = 0; fine = true }
fit_passes (suc k) cut rs p =
    cond (ltb (length rs) 3) (record { pose = p; passes = 0; fine = true })
    (passed p (ls_fit_once (view_of p cut) rs) (λ q. fit_passes k cut rs q))

-- The code's side: n passes that end at a pose within the bounds, or at the one that left them, as the record above.
abbrev pub passes_at : ℕ → Result Pose Unsound → Passes
passes_at n (Ok p) = record { pose = p; passes = n; fine = true }
passes_at n (Err u) = record { pose = u.pose; passes = n; fine = false }

-- What the code's passes answer, as that record.
abbrev pub passes_of : Passed → Passes
passes_of r = passes_at r.passes r.end
