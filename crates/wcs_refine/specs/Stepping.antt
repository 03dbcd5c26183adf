-- What the parts of a round answer. Definitions only. Assumes nothing.
use Rattle.std.specs.Prelude.{◌≡◌, ℕ, ◌*◌, ◌/◌, ◌≤◌, List, length, take, Float}
use Rattle.fit.specs.Rows.{rows, view_of}
use Rattle.residuals.specs.Residual.{residuals}
use Rattle.fit.specs.declared.Pose.{Pose}
use Rattle.entry.specs.declared.Settings.{Settings}
use Rattle.entry.specs.Entry.{fixed_of}
use Rattle.wcs_refine.specs.Clip.{statistics, clipped}
use Rattle.wcs_refine.specs.Associate.{adaptive_px}
use Rattle.wcs_refine.specs.Round.{State, Found, searched, rest, Round, round, Run, loop}
use Rattle.wcs_refine.specs.declared.course.Course.{Course}
use Rattle.wcs_refine.specs.declared.rounds.Trimmed.{Trimmed}

-- The residuals of matches at a pose.
abbrev pub residuals_at : Settings → List Float → List Float → Pose → List ℕ → List Float
residuals_at k spots directions p ms = residuals (view_of p k.cut) (rows spots directions ms)

-- So many matches the clip leaves, at the front of their list, and the matcher's radius after it.
pub record TrimmedTo (k : Settings) (spots directions : List Float) (p : Pose) (before after : List ℕ)
    (r : Trimmed) : Type 0 where
  pub fewer : r.used ≤ length before / 2
  pub front : take (2 * r.used) after
      ≡ clipped (residuals_at k spots directions p before) (statistics (residuals_at k spots directions p before)) before
  pub radius : r.radius ≡ adaptive_px (fixed_of k) (statistics (residuals_at k spots directions p before))

-- What the definition makes of a state on a course: its search with the matcher's radius r, its phases B to D, its round, and its loop of at most so
-- many rounds.
abbrev pub searched_of : Course → Float → State → Found
searched_of c r s = searched (fixed_of c.k) c.spots.now c.directions.now s.pose s.matches r s.cache

abbrev pub rest_of : Course → State → Found
rest_of c s =
    rest (fixed_of c.k) c.spots.now c.directions.now s.pose s.matches s.cache
    (residuals_at c.k c.spots.now c.directions.now s.pose s.matches)

abbrev pub round_of : Course → State → Round
round_of c s = round (fixed_of c.k) c.spots.now c.directions.now s

abbrev pub loop_of : Course → ℕ → State → Run
loop_of c most s = loop (fixed_of c.k) c.spots.now c.directions.now most s
