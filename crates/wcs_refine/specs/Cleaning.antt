-- What the answers of the statistics, of the clips and of the report stand for. Definitions only. Assumes nothing.
use Rattle.std.specs.Prelude.{◌≡◌, ℕ, ◌*◌, ◌/◌, ◌≤◌, cond, List, length, take, nat_lt, Float, Option, Some, None, Result, Ok, Err, IfOk, IfErr}
use Rattle.fit.specs.Rows.{rows, view_of}
use Rattle.residuals.specs.Residual.{residuals, Clipped, mad_clip_matches}
use Rattle.solve.specs.Covariance.{covariance_from_normal}
use Rattle.fit.specs.declared.Counted.{Counted}
use Rattle.fit.specs.declared.Pose.{Pose}
use Rattle.stats.specs.declared.MedianSigma.{MedianSigma}
use Rattle.refusal.specs.declared.Refusal.{Refusal}
use Rattle.refusal.specs.declared.Refusal.TheVariants.{Unsound}
use Rattle.entry.specs.Fixed.{Fixed}
use Rattle.wcs_refine.specs.Closing.{Closed, unsound, fine, most_clips, fewest_matches, cleaned, Report}
use Rattle.wcs_refine.specs.Clip.{statistics, clipped}
use Rattle.wcs_refine.specs.declared.cleaning.Cleaned.{Cleaned}
use Rattle.wcs_refine.specs.declared.reporting.Numbers.{Numbers}

-- The statistics of the first n numbers, which stay as they are; the places after them are scratch.
pub record Statted (before after : List Float) (n : ℕ) (r : Option MedianSigma) : Type 0 where
  pub result : r ≡ statistics (take n before)
  pub front : take n after ≡ take n before

-- So many matches a clip leaves, at the front of their list.
pub record ClippedTo (rs : List Float) (s : Option MedianSigma) (before after : List ℕ) (r : ℕ) : Type 0 where
  pub fewer : r ≤ length before / 2
  pub front : take (2 * r) after ≡ clipped rs s before

-- ---- the closing clips

-- What a closing clip answers, and the matches after it: fewer than 6 matches, or no statistics, leave them.
unfoldable pub clip_by : List Float → List ℕ → Option MedianSigma → Clipped
unfolding mad_clip_matches
clip_by rs ms None = record { answer = None; matches = ms }
clip_by rs ms (Some t) = mad_clip_matches rs ms t.median t.sigma

-- One closing clip at a pose, as the code makes it.
unfoldable pub closing_clip : Float → List Float → List Float → Pose → List ℕ → Clipped
unfolding clip_by residuals view_of rows statistics
closing_clip cut spots directions p ms =
    let rs = residuals (view_of p cut) (rows spots directions ms) in
    cond (nat_lt (length ms / 2) fewest_matches) (record { answer = None; matches = ms })
    (clip_by rs ms (statistics rs))

-- What follows a refit: `after` at its pose, or refusal 12.
abbrev pub follows : Result Pose Refusal → (Pose → Closed) → Closed
follows (Ok p) after = after p
follows (Err e) after = unsound

-- What the closing clips leave: a pose and the matches at the front of their list, or refusal 12.
abbrev pub closed_of : Result Cleaned Refusal → List ℕ → Closed
closed_of (Ok r) ms = fine r.pose (take (2 * r.used) ms)
closed_of (Err e) ms = unsound

-- The code's closing clips are those of the definition, and leave no more matches than there were.
pub record CleanedTo (cut : Float) (spots directions : List Float) (p : Pose) (used : ℕ) (before after : List ℕ)
    (r : Result Cleaned Refusal) : Type 0 where
  pub fewer : IfOk r (λ c. c.used ≤ used)
  pub refusal : IfErr r (λ e. e ≡ Unsound)
  pub closed : (k : Fixed) → k.cut ≡ cut
      → closed_of r after ≡ cleaned k spots directions most_clips p (take (2 * used) before)

-- ---- the report

-- The covariance from a normal matrix and the sum of the squares.
unfoldable pub covariance_of : Counted → Float → List (List Float)
unfolding covariance_from_normal
covariance_of m sum = covariance_from_normal m.sums.ata sum m.n

-- What the code's numbers mean, with a pose and its matches: a report.
abbrev pub report_of : Numbers → Pose → List ℕ → Report
report_of r p ms = record {
  pose = p;
  cd = r.cd;
  rms = r.rms;
  covariance = r.cov;
  matches = ms;
}
