-- The closing of `wcs_refine`: three clips with refits, then the statistics, the covariance and the matrix. Definitions only. Assumes nothing.
use Rattle.std.specs.Prelude.{ℕ, zero, suc, ◌/◌, Bool, true, false, cond, List, [], ◌∷◌, length, pos, nat_lt, Float, Option, Some, None}
use Rattle.std.specs.Float.{binary64}
use Rattle.std.specs.Float.Ieee.{of_int}
use Rattle.rounding.specs.Arith.{◌⊕◌, ◌⊗◌, ◌⊘◌, zero64}
use Rattle.rounding.specs.Root.{root}
use Rattle.project.specs.Project.{cd_from_theta}
use Rattle.fit.specs.Rows.{Row, rows, view_of}
use Rattle.fit.specs.Normal.{ls_fit_once, normal_matrix}
use Rattle.residuals.specs.Residual.{residuals, in_front, mad_clip_matches}
use Rattle.solve.specs.Covariance.{covariance_from_normal}
use Rattle.fit.specs.declared.Pose.{Pose}
use Rattle.solve.specs.declared.Solution.{Solution}
use Rattle.solve.specs.declared.Solution.TheVariants.{Solved, Failed}
use Rattle.stats.specs.declared.MedianSigma.{MedianSigma}
use Rattle.entry.specs.Fixed.{Fixed}
use Rattle.passes.specs.Fit.{moved, sound}
use Rattle.wcs_refine.specs.Clip.{statistics, taken}

-- The closing clips meet refusal 12, or leave a pose and matches.
pub data Closed : Type 0 where
  unsound : Closed
  fine : Pose → List ℕ → Closed

-- 12: "After an update of theta, RA or Dec, one is not finite or exceeds 1,024 in absolute value"; else what follows at the updated pose.
unfoldable pub if_sound : Bool → Pose → (Pose → Closed) → Closed
if_sound false q after = unsound
if_sound true q after = after q

-- "Re-fit theta + CRVAL on the cleaned set (one LS pass)", by the solution of that pass; a failed one leaves the pose. `after` is what follows.
unfoldable pub refitted : Pose → Solution → (Pose → Closed) → Closed
unfolding moved sound if_sound
refitted p Failed after = after p
refitted p (Solved d_theta d_xi d_eta) after = let q = moved p d_theta d_xi d_eta in if_sound (sound q) q after

-- By what a clip answers: nothing clipped ends the clips; else the matches that it keeps are fitted once, and `after` is what follows.
unfoldable pub recleaned : Fixed → List Float → List Float → Pose → List ℕ → Option ℕ → List ℕ → (Pose → List ℕ → Closed)
    → Closed
unfolding refitted ls_fit_once view_of rows taken
recleaned k spots directions p ms None new after = fine p ms
recleaned k spots directions p ms (Some n) new after =
    let kept = taken (Some n) ms new in
    refitted p (ls_fit_once (view_of p k.cut) (rows spots directions kept)) (λ q. after q kept)

-- One turn of the "final MAD clip passes", by the statistics of the residuals rs: fewer than 6 residuals, which have none, end the clips.
unfoldable pub cleaned_by : Fixed → List Float → List Float → Pose → List ℕ → List Float → Option MedianSigma
    → (Pose → List ℕ → Closed) → Closed
unfolding recleaned mad_clip_matches
cleaned_by k spots directions p ms rs None after = fine p ms
cleaned_by k spots directions p ms rs (Some t) after =
    let c = mad_clip_matches rs ms t.median t.sigma in
    recleaned k spots directions p ms c.answer c.matches after

-- `for clip_pass in 0..3`
abbrev pub most_clips : ℕ
most_clips = 3

-- `if current_matches.len() < 6 { break; }`
abbrev pub fewest_matches : ℕ
fewest_matches = 6

-- "Final MAD clip passes (clip-only, no re-association)": at most n of them.
unfoldable pub cleaned : Fixed → List Float → List Float → ℕ → Pose → List ℕ → Closed
unfolding cleaned_by residuals view_of rows statistics
cleaned k spots directions zero p ms = fine p ms
cleaned k spots directions (suc n) p ms =
    let rs = residuals (view_of p k.cut) (rows spots directions ms) in
    cond (nat_lt (length ms / 2) fewest_matches) (fine p ms)
    (cleaned_by k spots directions p ms rs (statistics rs) (λ q kept. cleaned k spots directions n q kept))

-- ---- the statistics

-- sum_r2: the sum of the squares, from the left.
unfoldable pub sum_squares : List Float → Float → Float
sum_squares [] s = s
sum_squares (r ∷ rs) s = sum_squares rs (s ⊕ r ⊗ r)

-- rmse: the root of the mean of the squares, or 0 where there is no residual.
unfoldable pub root_mean : Float → List Float → Float
unfolding root
root_mean sum rs = cond (nat_lt (length rs) 1) zero64 (root binary64 (sum ⊘ of_int binary64 (pos (length rs))))

-- What an accepted call reports beside its counts.
pub record Report : Type 0 where
  pub pose : Pose
  pub cd : List (List Float)
  pub rms : Float
  pub covariance : List (List Float)
  pub matches : List ℕ

-- "Compute final residual statistics", and what follows it: of the final pose and matches, whose rows are rs, the root mean square of the residuals,
-- `covariance_from_normal` and `cd_from_theta`.
unfoldable pub reported : Fixed → Pose → List ℕ → List Row → Report
unfolding residuals in_front view_of normal_matrix covariance_from_normal cd_from_theta sum_squares root_mean
reported k p ms rs =
    let w = view_of p k.cut in
    let vs = in_front (residuals w rs) in
    let sum = sum_squares vs zero64 in
    let m = normal_matrix w rs in
    record {
      pose = p;
      cd = cd_from_theta p.theta k.scale k.mirror;
      rms = root_mean sum vs;
      covariance = covariance_from_normal m.sums.ata sum m.n;
      matches = ms;
    }
