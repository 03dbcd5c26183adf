-- The refinement call as numbers and lists, for callers in C. Definitions only. Assumes nothing.
use Rattle.std.specs.Prelude.{◌≡◌, ℕ, suc, Bool, true, false, List, [], ◌∷◌, set, get_or, Float}
use Rattle.std.specs.Float.{nan}
use Rattle.solve.specs.Vector.{entry}
use Rattle.entry.specs.Arguments.{Call, Lent}
use Rattle.entry.specs.declared.Matcher.{Matcher}
use Rattle.entry.specs.declared.Matcher.TheVariants.{Listing, Scanning}
use Rattle.wcs_refine.specs.Call.{outcome}
use Rattle.wcs_refine.specs.Returned.{Values, returned}

-- Nine entries by rows; a place that the list lacks is no number.
abbrev pub rows_of : List Float → List (List Float)
rows_of l =
    (get_or l 0 nan ∷ get_or l 1 nan ∷ get_or l 2 nan ∷ [])
    ∷ (get_or l 3 nan ∷ get_or l 4 nan ∷ get_or l 5 nan ∷ [])
    ∷ (get_or l 6 nan ∷ get_or l 7 nan ∷ get_or l 8 nan ∷ [])
    ∷ []

-- 02, CR 7: "The caller chooses the matcher": true for the one that scans.
unfoldable pub matcher_of : Bool → Matcher
matcher_of true = Scanning
matcher_of false = Listing

-- Matches, rounds, passes, queries, and the most comparisons of a round.
abbrev pub counts : Values → List ℕ
counts r = r.matches ∷ r.rounds ∷ r.passes ∷ r.queries ∷ r.comparisons ∷ []

-- Theta, RA, Dec, scale; the matrix by rows; the error; the covariance by rows.
abbrev pub values : Values → List Float
values r =
    r.pose.theta ∷ r.pose.ra ∷ r.pose.dec ∷ r.pose.scale
    ∷ entry r.cd 0 0 ∷ entry r.cd 0 1 ∷ entry r.cd 1 0 ∷ entry r.cd 1 1
    ∷ r.rmse_rad
    ∷ entry r.cov 0 0 ∷ entry r.cov 0 1 ∷ entry r.cov 0 2
    ∷ entry r.cov 1 0 ∷ entry r.cov 1 1 ∷ entry r.cov 1 2
    ∷ entry r.cov 2 0 ∷ entry r.cov 2 1 ∷ entry r.cov 2 2
    ∷ []

-- Written from place i on, one after another, as far as the list has the places.
abbrev pub set_from : {A : Type 0} → ℕ → List A → List A → List A
set_from i [] l = l
set_from i (x ∷ xs) l = set_from (suc i) xs (set l i x)

-- The number handed back, the lists of the call, and the two lists of values.
pub record RefinedTo
    (c : Call) (r : ℕ) (lent : Lent) (counts_before counts_after : List ℕ) (values_before values_after : List Float)
    : Type 0 where
  pub refusal : r ≡ (returned (outcome c)).result.refusal
  pub lists : lent ≡ (returned (outcome c)).lent
  pub counted : counts_after ≡ set_from 0 (counts (returned (outcome c)).result) counts_before
  pub valued : values_after ≡ set_from 0 (values (returned (outcome c)).result) values_before
