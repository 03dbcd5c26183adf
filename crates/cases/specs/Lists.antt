-- Match lists of a small grid with ties, each held to the four properties and the order of crate `matching`'s `Meaning.antt`. docs/MATCHES.md shows the
-- grid. The check computes every row. Assumes nothing.
use Rattle.std.specs.Prelude.{◌≡◌, refl, true, false, List, [], ◌∷◌, ℕ, Bool, Float}
use Rattle.rounding.specs.Computed.{arithmetic}
use Rattle.matching.specs.Greedy.{Match, matches_of}
use Rattle.matching.specs.Meaning.{Frame}
use Rattle.cases.specs.Cases.{f1, f2, f3, f4, f5}
use Rattle.cases.specs.Deciding.{Verdict, verdict}

-- Three spots, (1, 1), (3, 1) and (2, 3), and three predictions, (2, 1), (1, 2) and (3, 3).
abbrev points : List Float
points = f1 ∷ f1 ∷ f3 ∷ f1 ∷ f2 ∷ f3 ∷ []

abbrev predicted : List Float
predicted = f2 ∷ f1 ∷ f1 ∷ f2 ∷ f3 ∷ f3 ∷ []

-- With the squared radius 4; with 5; and with 4 and a matching limit of 2 spots.
abbrev pub grid : Frame
grid = record { points = points; limit = 3; predicted = predicted; radius_sq = f4 }

abbrev pub wide : Frame
wide = record { points = points; limit = 3; predicted = predicted; radius_sq = f5 }

abbrev pub limited : Frame
limited = record { points = points; limit = 2; predicted = predicted; radius_sq = f4 }

-- A pair, and a verdict: once, near, rising, explained; in order.
abbrev pair : ℕ → ℕ → Match
pair s p = record { spot = s; prediction = p }

abbrev says : Bool → Bool → Bool → Bool → Bool → Verdict
says o n r e i = record { once = o; near = n; rising = r; explained = e; ordered = i }

abbrev matches : Frame → List Match
matches f = matches_of f.points f.limit f.predicted f.radius_sq

pub record MatchLists : Type 0 where
  -- the matcher's list: spot 0 ties with both predictions 0 and 1, and prediction 0 with both spots 0 and 1
  pub taken : matches grid ≡ pair 0 0 ∷ pair 2 2 ∷ []
  pub taken_meant : verdict grid (pair 0 0 ∷ pair 2 2 ∷ []) ≡ says true true true true true
  -- spot 0 is used twice
  pub twice : verdict grid (pair 0 0 ∷ pair 0 1 ∷ pair 2 2 ∷ []) ≡ says false true true true true
  -- the last pair lies beyond the radius
  pub far : verdict grid (pair 0 0 ∷ pair 2 2 ∷ pair 1 1 ∷ []) ≡ says true false true true true
  -- three matches instead of two, but nothing earlier explains why spot 0 was not matched with prediction 0
  pub unexplained : verdict grid (pair 0 1 ∷ pair 1 0 ∷ pair 2 2 ∷ []) ≡ says true true true false true
  -- the four properties alone do not order equal distances
  pub swapped : verdict grid (pair 2 2 ∷ pair 0 0 ∷ []) ≡ says true true true true false
  -- with the wider radius all spots are matched, and a distance can fall
  pub wide_taken : matches wide ≡ pair 0 0 ∷ pair 2 2 ∷ pair 1 1 ∷ []
  pub wide_meant : verdict wide (pair 0 0 ∷ pair 2 2 ∷ pair 1 1 ∷ []) ≡ says true true true true true
  pub falling : verdict wide (pair 0 0 ∷ pair 1 1 ∷ pair 2 2 ∷ []) ≡ says true true false true false
  -- spot 2 is beyond the limit: its pair is not near, and prediction 2 goes to spot 1; without that pair nothing explains why not
  pub limited_taken : matches limited ≡ pair 0 0 ∷ pair 1 2 ∷ []
  pub limited_meant : verdict limited (pair 0 0 ∷ pair 1 2 ∷ []) ≡ says true true true true true
  pub beyond : verdict limited (pair 0 0 ∷ pair 2 2 ∷ []) ≡ says true false true true true
  pub left_out : verdict limited (pair 0 0 ∷ []) ≡ says true true true false true

pub match_lists : MatchLists
unfolding arithmetic matches_of verdict
match_lists = record {
  taken = refl;
  taken_meant = refl;
  twice = refl;
  far = refl;
  unexplained = refl;
  swapped = refl;
  wide_taken = refl;
  wide_meant = refl;
  falling = refl;
  limited_taken = refl;
  limited_meant = refl;
  beyond = refl;
  left_out = refl;
}
