-- `solve_3x3` (wcs_refine.rs): Gaussian elimination with partial pivoting. Definitions only.
-- The matrix is worked on with its right side as a fourth column, so a row is four numbers. Assumes nothing.
use Rattle.std.specs.Prelude.{ℕ, zero, suc, ◌-◌, Bool, cond, not, ◌&&◌, List, [], ◌∷◌, ◌++◌, map, take, drop, slice_set, Float}
use Rattle.std.specs.Float.Ieee.{lt}
use Rattle.rounding.specs.Arith.{◌⊖◌, ◌⊗◌, ◌⊘◌}
use Rattle.rounding.specs.Methods.{abs_f, is_finite}
use Rattle.solve.specs.Constants.{tiny}
use Rattle.solve.specs.Vector.{at, row, entry}
use Rattle.solve.specs.declared.Pivot.{Pivot}
use Rattle.solve.specs.declared.Solution.{Solution}
use Rattle.solve.specs.declared.Solution.TheVariants.{Solved, Failed}

-- The Rust's `m` and `rhs` in one: the right side beside the matrix.
unfoldable pub beside : List (List Float) → List Float → List (List Float)
beside a b =
    (entry a 0 0 ∷ entry a 0 1 ∷ entry a 0 2 ∷ at b 0 ∷ [])
    ∷ (entry a 1 0 ∷ entry a 1 1 ∷ entry a 1 2 ∷ at b 1 ∷ [])
    ∷ (entry a 2 0 ∷ entry a 2 1 ∷ entry a 2 2 ∷ at b 2 ∷ [])
    ∷ []

-- A row whose magnitude in the column is larger takes the place of the best so far; a NaN is never larger.
unfoldable pub better : Pivot → ℕ → Float → Pivot
unfolding abs_f
better p i v = cond (lt p.size (abs_f v)) (record { row = i; size = abs_f v }) p

-- The best of the rows from i on, k of them, in the column col.
unfoldable pub best_from : List (List Float) → ℕ → Pivot → ℕ → ℕ → Pivot
unfolding better
best_from m col p i zero = p
best_from m col p i (suc k) = best_from m col (better p i (entry m i col)) (suc i) k

-- The pivot of a column: the largest magnitude from the diagonal down.
unfoldable pub pivot_of : List (List Float) → ℕ → Pivot
unfolding best_from abs_f
pivot_of m col = best_from m col (record { row = col; size = abs_f (entry m col col) }) (suc col) (2 - col)

-- "fails when a column's largest magnitude is below 1e-30 or not finite"
unfoldable pub usable : Float → Bool
unfolding is_finite
usable size = not (lt size tiny) && is_finite size

-- `m.swap(col, max_row)`, and `rhs` with it.
unfoldable pub swapped : List (List Float) → ℕ → ℕ → List (List Float)
swapped m i j = slice_set (slice_set m i (row m j)) j (row m i)

-- `m[row][j] -= factor * m[col][j]` from the column col on, the right side included.
unfoldable pub minus_from : ℕ → Float → List Float → List Float → List Float
minus_from col f [] ps = []
minus_from col f (x ∷ xs) [] = x ∷ xs
minus_from zero f (x ∷ xs) (p ∷ ps) = x ⊖ f ⊗ p ∷ minus_from zero f xs ps
minus_from (suc col) f (x ∷ xs) (p ∷ ps) = x ∷ minus_from col f xs ps

-- One row below the diagonal, with `factor = m[row][col] / pivot`.
unfoldable pub reduced : ℕ → List Float → List Float → List Float
unfolding minus_from
reduced col pivot r = minus_from col (at r col ⊘ at pivot col) r pivot

-- "Eliminate below": every row below the diagonal.
unfoldable pub eliminated : List (List Float) → ℕ → List (List Float)
unfolding reduced
eliminated m col = take (suc col) m ++ map (reduced col (row m col)) (drop (suc col) m)

-- Back substitution, from the last row up: x[2],
unfoldable pub solution_z : List (List Float) → Float
solution_z m = entry m 2 3 ⊘ entry m 2 2

-- then x[1],
unfoldable pub solution_y : List (List Float) → Float → Float
solution_y m z = (entry m 1 3 ⊖ entry m 1 2 ⊗ z) ⊘ entry m 1 1

-- then x[0].
unfoldable pub solution_x : List (List Float) → Float → Float → Float
solution_x m y z = (entry m 0 3 ⊖ entry m 0 1 ⊗ y ⊖ entry m 0 2 ⊗ z) ⊘ entry m 0 0

-- "when a solution entry is not finite"
unfoldable pub if_finite : Float → Float → Float → Solution
unfolding is_finite
if_finite x y z = cond (is_finite x && is_finite y && is_finite z) (Solved x y z) Failed

-- "when a diagonal is below 1e-30 in back substitution": its magnitude
unfoldable pub divides : Float → Bool
unfolding abs_f
divides d = not (lt (abs_f d) tiny)

-- Back substitution with its two ways to fail.
unfoldable pub substituted : List (List Float) → Solution
unfolding solution_z solution_y solution_x if_finite divides
substituted m =
    let z = solution_z m in
    let y = solution_y m z in
    cond (divides (entry m 2 2) && divides (entry m 1 1) && divides (entry m 0 0))
    (if_finite (solution_x m y z) y z) Failed

-- The columns from col on, k of them, and then back substitution.
unfoldable pub solved_from : ℕ → ℕ → List (List Float) → Solution
unfolding pivot_of usable swapped eliminated substituted
solved_from col zero m = substituted m
solved_from col (suc k) m =
    cond (usable (pivot_of m col).size)
    (solved_from (suc col) k (eliminated (swapped m col (pivot_of m col).row) col)) Failed

-- `solve_3x3`: x with a x = b, or `Failed`, under 01's three conditions quoted above and no other.
unfoldable pub solve3x3 : List (List Float) → List Float → Solution
unfolding beside solved_from
solve3x3 a b = solved_from 0 3 (beside a b)
