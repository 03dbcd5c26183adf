-- The new matches of a round, and whether they are the present ones, by a table with a place for each spot: what the code's parts promise.
-- Definitions only. Assumes nothing.
use Rattle.std.specs.Prelude.{◌≡◌, ℕ, ◌+◌, ◌-◌, ◌*◌, ◌<◌, ◌≤◌, Bool, false, not, ◌&&◌, ◌||◌, List, [], ◌∷◌, length, take, drop, ◌==◌, nat_lt, slice_index, Float, Result, is_err, IfOk, IfErr}
use Rattle.std.proofs.Math.Seq.{slice}
use Rattle.rounding.specs.Arith.{◌⊗◌}
use Rattle.pairs.specs.Pairs.{pairs, spots_within}
use Rattle.matching.specs.Greedy.{flat, matches_of}
use Rattle.pairs.specs.Candidates.{capacity}
use Rattle.entry.specs.declared.Matcher.{Matcher}
use Rattle.wcs_refine.specs.Associate.{Link, links, same_matches}
use Rattle.wcs_refine.specs.Listing.{renamed_by}
use Rattle.wcs_refine.specs.Round.{too_many, ordering}
use Rattle.refusal.specs.declared.Refusal.{Refusal}
use Rattle.refusal.specs.declared.Refusal.TheVariants.{ManyPairs}
use Rattle.wcs_refine.specs.declared.associating.Tally.{Tally}

-- A match of a spot and a direction, and whether two are the same.
abbrev pub link_of : ℕ → ℕ → Link
link_of s d = record { spot = s; direction = d }

abbrev pub same_link : Link → Link → Bool
same_link a b = a.spot == b.spot && a.direction == b.direction

-- Whether a link is one of them, and whether one of them has a spot.
unfoldable pub among : Link → List Link → Bool
among x [] = false
among x (a ∷ l) = same_link x a || among x l

unfoldable pub names : ℕ → List Link → Bool
names s [] = false
names s (a ∷ l) = s == a.spot || names s l

-- Each spot is below n, and has one link.
abbrev pub Lone : ℕ → List Link → Type 0
Lone n [] = Unit {0}
Lone n (a ∷ l) = (a.spot < n) × (names a.spot l ≡ false) × Lone n l

-- The direction of the k-th match, counted from 1, of those that stand from a place on.
abbrev pub numbered_direction : ℕ → List ℕ → ℕ → ℕ
numbered_direction start l k = slice_index l (start + 2 * (k - 1) + 1)

-- Whether the table of n places, from `base` on in the list m, tells of a link: where its spot has a number, that match has its direction.
-- The matches stand in the list l.
unfoldable pub tells : ℕ → ℕ → ℕ → List ℕ → List ℕ → Link → Bool
tells base n start m l x =
    nat_lt x.spot n
    && (not (slice_index m (base + x.spot) == 0)
    && x.direction == numbered_direction start l (slice_index m (base + x.spot)))

-- All but the table is as it was.
pub record Kept (base n : ℕ) (now was : List ℕ) : Type 0 where
  pub long : length now ≡ length was
  pub front : take base now ≡ take base was
  pub back : drop (base + n) now ≡ drop (base + n) was

-- No number in the table is above t.
pub record Few (base n t : ℕ) (l : List ℕ) : Type 0 where
  pub few : (s : ℕ) → s < n → slice_index l (base + s) ≤ t

-- The table stands behind the present matches, and t new ones stand behind the table.
pub record Laid (base n start t used : ℕ) (l : List ℕ) : Type 0 where
  pub present : 2 * used ≤ base
  pub table : base + n ≤ start
  pub fits : start + 2 * t ≤ length l

-- The table is zero, and the new matches name each spot once, one of the table.
pub record Comparable (base n start t used : ℕ) (l : List ℕ) : Type 0 where
  pub places : Laid base n start t used l
  pub zeros : (s : ℕ) → s < n → slice_index l (base + s) ≡ 0
  pub lone : Lone n (links (slice start (start + 2 * t) l))

-- The table tells of the new matches.
pub record Marked (base n start t : ℕ) (now was : List ℕ) : Type 0 where
  pub kept : Kept base n now was
  pub few : Few base n t now
  pub told : (x : Link) → tells base n start now was x ≡ among x (links (slice start (start + 2 * t) was))

-- Whether the t new matches are the present ones; all but the table is as it was.
pub record Compared (base n start t used : ℕ) (now was : List ℕ) (r : Bool) : Type 0 where
  pub answer : r ≡ same_matches (slice start (start + 2 * t) was) (take (2 * used) was)
  pub kept : Kept base n now was

-- ---- the new matches of a round

-- t new matches stand from place 8 n on. The table, from place 4 n on with a place for each of `within` spots, is zero, and what stands in front
-- of it is as it was.
pub record NewAt (n within t : ℕ) (new before after : List ℕ) : Type 0 where
  pub room : t ≤ n
  pub long : length after ≡ length before
  pub front : take (4 * n) after ≡ take (4 * n) before
  pub zeros : (s : ℕ) → s < within → slice_index after (4 * n + s) ≡ 0
  pub list : slice (8 * n) (8 * n + 2 * t) after ≡ new

-- So many spots were looked at, so many matches are there, in their region, and so many comparisons put their pairs in order.
pub record Tallied (matcher : Matcher) (n q : ℕ) (points : List Float) (limit : ℕ) (r : Float) (floats : List Float) (before after : List ℕ)
    (t : Tally) : Type 0 where
  pub within : t.within ≡ spots_within points limit
  pub comparisons : t.comparisons
      ≡ ordering matcher (pairs points limit (slice (2 * n) (2 * n + 2 * q) floats) (r ⊗ r))
  pub count : t.count ≡ length (matches_of points limit (slice (2 * n) (2 * n + 2 * q) floats) (r ⊗ r))
  pub there : NewAt n t.within t.count
      (renamed_by (slice (3 * n) (3 * n + q) before)
      (flat (matches_of points limit (slice (2 * n) (2 * n + 2 * q) floats) (r ⊗ r)))) before after

-- The matches of the spots' points with the q predictions, unless the matcher lists more pairs than the candidate lists hold.
pub record FoundTo (matcher : Matcher) (n q : ℕ) (points : List Float) (limit : ℕ) (r : Float) (floats distances : List Float)
    (indices before after : List ℕ) (f : Result Tally Refusal) : Type 0 where
  pub full : is_err f
      ≡ too_many matcher (capacity distances indices) (length (pairs points limit (slice (2 * n) (2 * n + 2 * q) floats) (r ⊗ r)))
  pub refusal : IfErr f (λ e. e ≡ ManyPairs)
  pub found : IfOk f (Tallied matcher n q points limit r floats before after)
