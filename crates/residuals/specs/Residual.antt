-- `compute_residuals`, `residual_median_sigma` and `mad_clip_matches` (wcs_refine.rs). Definitions only.
-- The Rust keeps a residual with the number of its match. Here the residuals stand along the matches, and a match on or behind the plane
-- has the mark -1 in its place: a residual is a square root, so it is never below zero. Assumes nothing.
use Rattle.std.specs.Prelude.{◌≡◌, ℕ, zero, suc, ◌+◌, ◌*◌, ◌/◌, min, Bool, cond, Option, Some, None, not, ◌&&◌, List, [], ◌∷◌, ◌++◌, map, ltb, leb, get_or, length, take, drop, replicate, Float}
use Rattle.std.specs.Float.{nan, binary64}
use Rattle.std.specs.Float.Ieee.{eq, le}
use Rattle.rounding.specs.Arith.{◌⊕◌, ◌⊖◌, ◌⊗◌, zero64}
use Rattle.rounding.specs.Root.{root}
use Rattle.stats.specs.Median.{median_mad_sigma}
use Rattle.stats.specs.declared.MedianSigma.{MedianSigma}
use Rattle.solve.specs.Constants.{clip_nsigma, minus_one}
use Rattle.project.specs.Project.{predict_tanplane}
use Rattle.project.specs.Camera.{tan_project_vec}
use Rattle.fit.specs.Rows.{Row}
use Rattle.fit.specs.declared.View.{View}
use Rattle.panel.specs.declared.Spot.{Spot}
use Rattle.project.specs.declared.Plane.{Plane}

-- The body of compute_residuals' loop, with the direction's projection given: the distance of its plane point from that of the spot; the mark
-- where there is none.
unfoldable pub apart : View → Spot → Option Plane → Float
unfolding predict_tanplane root
apart w c None = minus_one
apart w c (Some p) =
    let q = predict_tanplane c.px c.py w.roll.cos_t w.roll.sin_t w.roll.ps in
    let dxi = q.xi ⊖ p.xi in
    let deta = q.eta ⊖ p.eta in
    root binary64 (dxi ⊗ dxi ⊕ deta ⊗ deta)

-- The same with the projection made by `tan_project_vec`.
unfoldable pub residual_of : View → Row → Float
unfolding apart tan_project_vec
residual_of w r = apart w r.spot (tan_project_vec w.cut r.direction w.basis)

-- compute_residuals: one number for each match.
unfoldable pub residuals : View → List Row → List Float
unfolding residual_of
residuals w rs = map (residual_of w) rs

-- The code's side: a list written over the front of another, as far as that reaches.
unfoldable pub over : List Float → List Float → List Float
over [] l = l
over (x ∷ xs) [] = []
over (x ∷ xs) (y ∷ ys) = x ∷ over xs ys

-- What the Rust's list of residuals holds: those of the matches in front of the plane, without the marks.
unfoldable pub in_front : List Float → List Float
in_front [] = []
in_front (x ∷ xs) = cond (eq x minus_one) (in_front xs) (x ∷ in_front xs)

-- The code's side, what its pass over the matches leaves: the list afterwards is the residuals rs over the front of the lent one, and the answer is how many
-- of rs are in front of the plane. What does not fit into the list is not written, and counts all the same.
pub record Computed (rs before after : List Float) (r : ℕ) : Type 0 where
  pub written : after ≡ over rs before
  pub counted : r ≡ length (in_front rs)

-- The code's side: the first n numbers of a list are the residuals, n at most half its length; the places after them are scratch.
abbrev pub leading : List Float → ℕ → ℕ
leading l n = min n (length l / 2)

-- residual_median_sigma, of the residuals in front of the plane.
unfoldable pub residual_median_sigma : List Float → ℕ → MedianSigma
unfolding in_front median_mad_sigma
residual_median_sigma l n = median_mad_sigma (in_front (take (leading l n) l))

-- The code's side: what it answers, and the list afterwards: the residuals as they were, then zeros where they were gathered, then what stood there.
pub record Measured (l after : List Float) (n : ℕ) (r : MedianSigma) : Type 0 where
  pub result : r ≡ residual_median_sigma l n
  pub lists : after ≡
      take (leading l n) l
      ++ replicate (length (in_front (take (leading l n) l))) zero64
      ++ drop (leading l n + length (in_front (take (leading l n) l))) l

-- ---- the clip

-- 01: "The clip keeps residuals at or below median + 3 sigma .. A match behind the plane has no residual, so it counts as dropped."
unfoldable pub keeps : Float → Float → Bool
keeps threshold r = not (eq r minus_one) && le r threshold

-- mad_clip_matches' loop, from match k on with n to go: the matches that are kept, flat. A match past the end of the residuals has none.
unfoldable pub kept_from : Float → List Float → List ℕ → ℕ → ℕ → List ℕ
unfolding keeps
kept_from threshold rs ms k zero = []
kept_from threshold rs ms k (suc n) =
    cond (keeps threshold (get_or rs k nan))
    (get_or ms (2 * k) 0 ∷ get_or ms (2 * k + 1) 0 ∷ kept_from threshold rs ms (suc k) n)
    (kept_from threshold rs ms (suc k) n)

-- `clip_threshold = median + CLIP_NSIGMA * sigma_est`.
unfoldable pub threshold_of : Float → Float → Float
threshold_of median sigma = median ⊕ clip_nsigma ⊗ sigma

-- `keep` of mad_clip_matches: all matches that are kept.
unfoldable pub kept : Float → Float → List Float → List ℕ → List ℕ
unfolding kept_from threshold_of
kept median sigma rs ms = kept_from (threshold_of median sigma) rs ms 0 (length ms / 2)

-- What the clip answers, how many matches it kept or that it had no effect, and the matches afterwards: those kept, and after them what stood
-- there.
pub record Clipped : Type 0 where
  pub answer : Option ℕ
  pub matches : List ℕ

-- The code's side: its answer and the list afterwards, as that record.
abbrev pub clipped : Option ℕ → List ℕ → Clipped
clipped a ms = record { answer = a; matches = ms }

-- mad_clip_matches. 01: "it takes effect only if fewer than all matches remain and at least 4".
unfoldable pub mad_clip_matches : List Float → List ℕ → Float → Float → Clipped
unfolding kept
mad_clip_matches rs ms median sigma =
    let ks = kept median sigma rs ms in
    cond (ltb (length ks / 2) (length ms / 2) && leb 4 (length ks / 2))
    (record { answer = Some (length ks / 2); matches = ks ++ drop (length ks) ms })
    (record { answer = None; matches = ms })
