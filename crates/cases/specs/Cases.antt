-- 01, "Cases, the starred ones proved": a record for each starred line, and one theorem, `cases`, that all of them hold. The check computes every
-- row from the written meanings. Assumes nothing.
use Rattle.std.specs.Prelude.{◌≡◌, refl, true, false, Some, None, Err, List, [], ◌∷◌, ℕ, pos, negsuc, Float}
use Rattle.std.specs.Float.{nan, fin, binary64}
use Rattle.std.specs.Float.Ieee.{to_bits}
use Rattle.rounding.specs.Arith.{f64, zero64, one64, ◌⊗◌}
use Rattle.rounding.specs.Root.{root}
use Rattle.rounding.specs.Narrow.{narrowed}
use Rattle.rounding.specs.Computed.{arithmetic}
use Rattle.stats.specs.Median.{median_mad_sigma, middle, sorted, insert, deviations, mad_scale}
use Rattle.pairs.specs.Pairs.{pairs, pairs_from, pairs_of, within, squared, point_at}
use Rattle.matching.specs.Merge.{merged, merge_runs, merge_neighbours, merge, into, singles, not_after}
use Rattle.matching.specs.Greedy.{matches_of, assigned, clashes}
use Rattle.solve.specs.Solve.{solve3x3, solved_from, substituted, divides, if_finite, solution_x, solution_y, solution_z, eliminated, reduced, minus_from, swapped, usable, pivot_of, best_from, better, beside}
use Rattle.residuals.specs.Residual.{mad_clip_matches, kept, kept_from, keeps, threshold_of, Clipped}
use Rattle.solve.specs.declared.Solution.TheVariants.{Solved, Failed}
use Rattle.refusal.specs.declared.Refusal.TheVariants.{WrongNumber}
use Rattle.record.specs.Number.{written, number, numbered}

-- Whole numbers as floats.
abbrev pub f1 : Float
f1 = one64

abbrev pub f2 : Float
f2 = f64 0x4000000000000000

abbrev pub f3 : Float
f3 = f64 0x4008000000000000

abbrev pub f4 : Float
f4 = f64 0x4010000000000000

abbrev pub f5 : Float
f5 = f64 0x4014000000000000

abbrev f6 : Float
f6 = f64 0x4018000000000000

abbrev f10 : Float
f10 = f64 0x4024000000000000

-- "127 is 7F; 128 is 80 01; 80 00 is refused (3)."
pub record Numbers : Type 0 where
  pub one_byte : written 127 ≡ 0x7F ∷ []
  pub one_byte_read : number 32 (0x7F ∷ []) ≡ numbered 127 1
  pub two_bytes : written 128 ≡ 0x80 ∷ 0x01 ∷ []
  pub two_bytes_read : number 32 (0x80 ∷ 0x01 ∷ []) ≡ numbered 128 2
  pub not_shortest : number 32 (0x80 ∷ 0x00 ∷ []) ≡ Err WrongNumber

-- "Root of 2 is 3FF6A09E667F3BCD, of −0 is −0, of 2^-1074 is 2^-537; of −1, NaN."
pub record Roots : Type 0 where
  pub of_2 : to_bits binary64 (root binary64 f2) ≡ 0x3FF6A09E667F3BCD
  pub of_minus_0 : root binary64 (fin true 0 (pos 0)) ≡ fin true 0 (pos 0)
  pub of_least : root binary64 (fin false 1 (negsuc 1073)) ≡ fin false 1 (negsuc 536)
  pub of_minus_1 : root binary64 (fin true 1 (pos 0)) ≡ nan

-- "1 + 2^-24 narrows to 1; 1 + 3 × 2^-24 to 1 + 2^-22."
pub record Narrowings : Type 0 where
  pub down : narrowed (fin false 16777217 (negsuc 23)) ≡ fin false 1 (pos 0)
  pub up : narrowed (fin false 16777219 (negsuc 23)) ≡ fin false 4194305 (negsuc 21)

-- 1e-30, 9.9e-31, and 1 divided by the first, rounded.
abbrev least : Float
least = f64 0x39B4484BFEEBC2A0

abbrev below : Float
below = f64 0x39B4145FB7407151

abbrev great : Float
great = f64 0x46293E5939A08CE9

-- The identity matrix with d for its first diagonal entry, and the right side.
abbrev diagonal : Float → List (List Float)
diagonal d = (d ∷ zero64 ∷ zero64 ∷ []) ∷ (zero64 ∷ f1 ∷ zero64 ∷ []) ∷ (zero64 ∷ zero64 ∷ f1 ∷ []) ∷ []

abbrev side : List Float
side = f1 ∷ f2 ∷ f3 ∷ []

-- "Identity system, right side 1, 2, 3: solution 1, 2, 3. First diagonal 1e-30 passes, 9.9e-31 fails."
pub record Systems : Type 0 where
  pub identity : solve3x3 (diagonal f1) side ≡ Solved f1 f2 f3
  pub least_pivot : solve3x3 (diagonal least) side ≡ Solved great f2 f3
  pub below_least : solve3x3 (diagonal below) side ≡ Failed

-- Six residuals with the outlier last, with the outlier first, and without one; and six matches.
abbrev outlier : List Float
outlier = f1 ∷ f1 ∷ f1 ∷ f1 ∷ f1 ∷ f10 ∷ []

abbrev outlier_first : List Float
outlier_first = f10 ∷ f1 ∷ f1 ∷ f1 ∷ f1 ∷ f1 ∷ []

abbrev rising : List Float
rising = f1 ∷ f2 ∷ f3 ∷ f4 ∷ f5 ∷ f6 ∷ []

abbrev six : List ℕ
six = 0 ∷ 10 ∷ 1 ∷ 11 ∷ 2 ∷ 12 ∷ 3 ∷ 13 ∷ 4 ∷ 14 ∷ 5 ∷ 15 ∷ []

abbrev clipped : List Float → Clipped
clipped rs = mad_clip_matches rs six (median_mad_sigma rs).median (median_mad_sigma rs).sigma

-- "Residuals 1,1,1,1,1,10: median 1, sigma 0, five kept. 1 to 6: median 4, sigma 1.4826 × 2, no clip."
-- With the outlier first the five that are kept move to the front, and what stood last stays there.
pub record Clips : Type 0 where
  pub outlier_statistics : median_mad_sigma outlier ≡ record { median = f1; sigma = zero64 }
  pub outlier_clipped : clipped outlier ≡ record { answer = Some 5; matches = six }
  pub first_clipped : clipped outlier_first ≡ record {
    answer = Some 5;
    matches = 1 ∷ 11 ∷ 2 ∷ 12 ∷ 3 ∷ 13 ∷ 4 ∷ 14 ∷ 5 ∷ 15 ∷ 5 ∷ 15 ∷ [];
  }
  pub rising_statistics : median_mad_sigma rising ≡ record { median = f4; sigma = mad_scale ⊗ f2 }
  pub rising_kept : clipped rising ≡ record { answer = None; matches = six }

-- Two spots, a prediction, and 0.5.
abbrev spots : List Float
spots = zero64 ∷ zero64 ∷ f3 ∷ zero64 ∷ []

abbrev predictions : List Float
predictions = f2 ∷ zero64 ∷ []

abbrev half : Float
half = f64 0x3FE0000000000000

-- "Spots (0,0), (3,0), prediction (2,0), squared radius 4: spot 1 wins; with squared radius 0.5, nothing."
pub record Matchings : Type 0 where
  pub nearer_spot : matches_of spots 2 predictions f4 ≡ record { spot = 1; prediction = 0 } ∷ []
  pub too_far : matches_of spots 2 predictions half ≡ []

-- The starred lines, in 01's order.
abbrev pub lines : List (Type 0)
lines = Numbers ∷ Roots ∷ Narrowings ∷ Systems ∷ Clips ∷ Matchings ∷ []

-- Every line of a list holds.
abbrev pub All : List (Type 0) → Type 0
All [] = Unit
All (l ∷ ls) = l × All ls

numbers : Numbers
unfolding written number
numbers = record { one_byte = refl; one_byte_read = refl; two_bytes = refl; two_bytes_read = refl; not_shortest = refl }

roots : Roots
unfolding arithmetic
roots = record { of_2 = refl; of_minus_0 = refl; of_least = refl; of_minus_1 = refl }

narrowings : Narrowings
unfolding arithmetic
narrowings = record { down = refl; up = refl }

systems : Systems
unfolding arithmetic solve3x3 solved_from substituted divides if_finite solution_x solution_y solution_z eliminated reduced minus_from swapped usable
    pivot_of best_from better beside
systems = record { identity = refl; least_pivot = refl; below_least = refl }

clips : Clips
unfolding arithmetic median_mad_sigma middle sorted insert deviations mad_clip_matches kept kept_from keeps threshold_of
clips = record {
  outlier_statistics = refl;
  outlier_clipped = refl;
  first_clipped = refl;
  rising_statistics = refl;
  rising_kept = refl;
}

matchings : Matchings
unfolding arithmetic pairs pairs_from pairs_of within squared point_at merged merge_runs merge_neighbours merge into singles not_after matches_of assigned
    clashes
matchings = record { nearer_spot = refl; too_far = refl }

-- The starred lines hold.
pub cases : All lines
cases = (numbers, (roots, (narrowings, (systems, (clips, (matchings, tt))))))
