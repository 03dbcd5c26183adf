-- The second half of Phase D: the matcher on the predictions, and whether its matches are new. Definitions only. Assumes nothing.
use Rattle.std.specs.Prelude.{ℕ, zero, suc, Bool, true, false, cond, ◌&&◌, ◌||◌, List, [], ◌∷◌, ◌==◌, nat_le, nat_lt, Float, Option, Some, None}
use Rattle.rounding.specs.Arith.{◌⊗◌, ◌⊘◌, f64}
use Rattle.rounding.specs.Methods.{max_f, min_f}
use Rattle.matching.specs.Greedy.{Match}
use Rattle.entry.specs.Fixed.{Fixed, radius_px}
use Rattle.stats.specs.declared.MedianSigma.{MedianSigma}
use Rattle.query.specs.Query.{Prediction}

-- 5.0, how many standard deviations the matcher's radius is, and 2.5, the pixels that it is at least
abbrev pub radius_sigmas : Float
radius_sigmas = f64 0x4014000000000000

abbrev pub least_radius_px : Float
least_radius_px = f64 0x4004000000000000

-- adaptive_radius_px: (5.0 * sigma_est / ps).max(2.5).min(radius_px), or radius_px without statistics
unfoldable pub adaptive_px : Fixed → Option MedianSigma → Float
unfolding max_f min_f radius_px
adaptive_px k None = radius_px k
adaptive_px k (Some t) = min_f (max_f (radius_sigmas ⊗ t.sigma ⊘ k.scale) least_radius_px) (radius_px k)

-- `predicted` as `greedy_unique_matches` reads it: x then y of each.
unfoldable pub laid : List Prediction → List Float
laid [] = []
laid (q ∷ qs) = q.x ∷ q.y ∷ laid qs

-- The direction of the prediction at a place; 0 past the end.
unfoldable pub direction_of : List Prediction → ℕ → ℕ
direction_of [] n = 0
direction_of (q ∷ qs) zero = q.direction
direction_of (q ∷ qs) (suc n) = direction_of qs n

-- `new_matches`, laid flat: of each match its spot, then the direction of its prediction.
unfoldable pub renamed : List Prediction → List Match → List ℕ
unfolding direction_of
renamed qs [] = []
renamed qs (m ∷ ms) = m.spot ∷ direction_of qs m.prediction ∷ renamed qs ms

-- ---- `sorted_new != sorted_cur`

-- A match as the Rust has it: a spot and a direction.
pub record Link : Type 0 where
  pub spot : ℕ
  pub direction : ℕ

-- The matches of a flat list.
unfoldable pub links : List ℕ → List Link
links [] = []
links (s ∷ []) = []
links (s ∷ d ∷ ms) = record { spot = s; direction = d } ∷ links ms

-- The order of pairs in Rust: by spot, then by direction.
unfoldable pub link_le : Link → Link → Bool
link_le a b = nat_lt a.spot b.spot || (a.spot == b.spot && nat_le a.direction b.direction)

-- `sort()` in that order, by insertion: one match into those that are sorted, and all of them.
unfoldable pub insert_link : Link → List Link → List Link
unfolding link_le
insert_link a [] = a ∷ []
insert_link a (b ∷ l) = cond (link_le a b) (a ∷ b ∷ l) (b ∷ insert_link a l)

unfoldable pub sorted_links : List Link → List Link
unfolding insert_link
sorted_links [] = []
sorted_links (a ∷ l) = insert_link a (sorted_links l)

-- `==` of two lists of matches.
unfoldable pub same_links : List Link → List Link → Bool
same_links [] [] = true
same_links [] (b ∷ l) = false
same_links (a ∷ k) [] = false
same_links (a ∷ k) (b ∷ l) = a.spot == b.spot && a.direction == b.direction && same_links k l

-- `sorted_new == sorted_cur`: whether the new matches, flat, are the old ones in whatever order.
unfoldable pub same_matches : List ℕ → List ℕ → Bool
unfolding links sorted_links same_links
same_matches new old = same_links (sorted_links (links new)) (sorted_links (links old))
