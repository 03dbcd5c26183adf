-- What the matches of a round mean: the one list of crate `matching`'s `Meaning.antt`, in every round. Definitions only; the proof is
-- `proofs/RoundMeaning.antt`. Assumes nothing.
use Rattle.stats.specs.declared.MedianSigma.{MedianSigma}
use Rattle.std.specs.Prelude.{◌≡◌, ℕ, ◌/◌, ◌<◌, ◌≤◌, true, cond, ◌⊎◌, List, length, slice_index_or, Float, Option}
use Rattle.rounding.specs.Arith.{◌⊗◌}
use Rattle.pairs.specs.Pairs.{point_at, pairs, spots_within}
use Rattle.pairs.specs.Candidates.{point}
use Rattle.matching.specs.Greedy.{Match}
use Rattle.matching.specs.Meaning.{Frame, TheMatches}
use Rattle.project.specs.Camera.{camera_rows}
use Rattle.panel.specs.Spots.{spot_at}
use Rattle.panel.specs.Points.{within_limit, points_of}
use Rattle.fit.specs.Rows.{rows, view_of}
use Rattle.residuals.specs.Residual.{residuals}
use Rattle.entry.specs.Fixed.{Fixed}
use Rattle.entry.specs.declared.Matcher.TheVariants.{Listing, Scanning}
use Rattle.passes.specs.Fit.{Passes, fit_passes}
use Rattle.query.specs.Query.{Cache, empty, full, query, drifted, Prediction, predictions}
use Rattle.wcs_refine.specs.Clip.{statistics, clipped}
use Rattle.wcs_refine.specs.Associate.{adaptive_px, laid, direction_of, renamed}
use Rattle.wcs_refine.specs.Round.{State, Next, refuse, settled, most_passes, round}

-- A round: what is fixed for its call, the spots and directions lent, and the state that it starts from, whatever that is.
module _ (k : Fixed) (spots directions : List Float) (s : State) where
  -- Phase A: the fit passes, with the pose that they leave;
  abbrev pub fit : Passes
  fit = fit_passes most_passes k.cut (rows spots directions s.matches) s.pose

  -- then the residuals of its matches at that pose, with their statistics, by which the radius goes.
  abbrev pub measured : List Float
  measured = residuals (view_of fit.pose k.cut) (rows spots directions s.matches)

  abbrev pub spread : Option MedianSigma
  spread = statistics measured

  abbrev pub radius : Float
  radius = adaptive_px k spread

  -- The directions that are listed: the cached ones, unless nothing is cached or the pose has drifted from where they were queried; else those of a query
  -- at the pose.
  abbrev pub listed_by : Cache → List ℕ
  listed_by empty = query k directions fit.pose
  listed_by (full b theta listed) = cond (drifted k fit.pose b theta) (query k directions fit.pose) listed

  -- Where they fall on the panel.
  abbrev pub predicted : List Prediction
  predicted = predictions k directions (camera_rows fit.pose.theta fit.pose.ra fit.pose.dec) (listed_by s.cache)

  -- What the matcher is given in the round.
  abbrev pub frame : Frame
  frame = record {
    points = points_of spots k.limit;
    limit = k.limit;
    predicted = laid predicted;
    radius_sq = radius ⊗ radius;
  }

  -- Its places: a spot's is its number among those lent, and a prediction's its place in `predicted`; j is named by `direction_of predicted j`.
  pub record Places : Type 0 where
    pub spots_many : spots_within frame.points frame.limit ≡ within_limit spots k.limit
    pub spot : (i : ℕ) → i < within_limit spots k.limit → point_at frame.points i ≡ point (spot_at spots i).px (spot_at spots i).py
    pub predictions_many : length frame.predicted / 2 ≡ length predicted
    pub prediction : (j : ℕ) (past : Prediction) → j < length predicted →
        let q = slice_index_or predicted j past in
        (point_at frame.predicted j ≡ point q.x q.y) × (direction_of predicted j ≡ q.direction)

  -- How many pairs lie within the radius, which the listed matcher's refusal 13 goes by.
  abbrev pub found : ℕ
  found = length (pairs frame.points frame.limit frame.predicted frame.radius_sq)

  -- The matches of the round are the one list, with either matcher. The round is refused with 13, which the listed one alone gives, or goes on by that list
  -- alone, each prediction named by its direction, and with some query cached for the next.
  pub record Searched (next : Next) : Type 0 where
    pub places : Places
    pub list : List Match
    pub the : TheMatches frame list
    pub cache : Cache
    pub follows : ((k.matcher ≡ Listing) × (k.capacity < found) × (next ≡ refuse 13))
        ⊎ (((k.matcher ≡ Scanning) ⊎ (found ≤ k.capacity))
        × (next ≡ settled fit.pose (clipped measured spread s.matches) cache (renamed predicted list)))

-- 02, CR 9: "Prove of the matcher's list in each round .. save where 13 is given"; nor is there a list where a pass met 12. So goes every round, from any
-- state. A run makes its rounds by `round` alone (`loop`).
abbrev pub RoundMeant : Type 0
RoundMeant = (k : Fixed) (spots directions : List Float) (s : State)
    → (fit k spots directions s).fine ≡ true → Searched k spots directions s (round k spots directions s).found.next
