-- Phases B and C of a round: the residuals' statistics and the clip. Definitions only. Assumes nothing.
use Rattle.std.specs.Prelude.{ℕ, ◌+◌, cond, List, length, take, nat_lt, Float, Option, Some, None}
use Rattle.stats.specs.Median.{median_mad_sigma}
use Rattle.stats.specs.declared.MedianSigma.{MedianSigma}
use Rattle.residuals.specs.Residual.{in_front, mad_clip_matches}

-- 01: "Statistics need 6 residuals."
abbrev pub fewest_residuals : ℕ
fewest_residuals = 6

-- `mad_stats`, phase B: None, or the median and the standard deviation of the residuals, those of matches behind the plane left out.
unfoldable pub statistics : List Float → Option MedianSigma
unfolding in_front median_mad_sigma
statistics rs = cond (nat_lt (length (in_front rs)) fewest_residuals) None (Some (median_mad_sigma (in_front rs)))

-- `if let Some(keep) = mad_clip_matches(..)`: the matches after a clip's answer, n of the new ones or else the old ones. All lists are flat.
unfoldable pub taken : Option ℕ → List ℕ → List ℕ → List ℕ
taken None old new = old
taken (Some n) old new = take (n + n) new

-- Phase C, "MAD-based outlier rejection": the matches that it leaves; without statistics it leaves all.
unfoldable pub clipped : List Float → Option MedianSigma → List ℕ → List ℕ
unfolding mad_clip_matches taken
clipped rs None ms = ms
clipped rs (Some t) ms = let c = mad_clip_matches rs ms t.median t.sigma in taken c.answer ms c.matches
