-- The rows of the matches one by one. Assumes nothing.
use mathlib.Core.Path.{◌≡◌, refl, sym, ap, ◌∙◌}
use mathlib.Core.List.{List, [], ◌∷◌}
use Prim.Native.Nat.{ℕ, zero, suc, ◌+◌, ◌-◌, ◌*◌, ◌≤◌, ◌<◌}
use native.Mathlib.Numerals.{add-one}
use native.Mathlib.Omega.{arith}
use lib.Ieee.{Float}
use lib.ListN.{get_or, take, drop}
use lib.Seq.{get_or-drop, get_or-take, drop-drop}
use Rattle.std.specs.Simd.{first_chunks}
use Rattle.fit.specs.Rows.{row_at, rows_from}

-- ---- a match is a pair of the flat list

chunk_at : (ms : List ℕ) (n k : ℕ) (d : List ℕ) → k < n → get_or (first_chunks 2 n ms) k d ≡ take 2 (drop (2 * k) ms)
chunk_at ms zero k d h = absurd (omega arith)
chunk_at ms (suc n) zero d h = refl
chunk_at ms (suc n) (suc k) d h =
    let e : 2 * suc k ≡ 2 + 2 * k = omega arith in
    rw (chunk_at (drop 2 ms) n k d (omega arith), drop-drop, e)

pub pair_spot : (ms : List ℕ) (n k : ℕ) (d : List ℕ) {ps : List (List ℕ)} → ps ≡ first_chunks 2 n ms → k < n → get_or (get_or ps k d) 0 0 ≡ get_or ms (2 * k) 0
pair_spot ms n k d e h =
    let z : 2 * k + 0 ≡ 2 * k = omega arith in
    rw (e, chunk_at ms n k d h, get_or-take 2 (drop (2 * k) ms) 0 0 (omega arith), get_or-drop, z)

pub pair_direction : (ms : List ℕ) (n k : ℕ) (d : List ℕ) {ps : List (List ℕ)} → ps ≡ first_chunks 2 n ms → k < n → get_or (get_or ps k d) 1 0 ≡ get_or ms (2 * k + 1) 0
pair_direction ms n k d e h = rw (e, chunk_at ms n k d h, get_or-take 2 (drop (2 * k) ms) 1 0 (omega arith), get_or-drop)

-- The rows from the match i on: its own, and those from the next on; none from the end on.
module _ (ss ds : List Float) (ms : List ℕ) (n i : ℕ) where
  pub rows_next : i < n → rows_from ss ds ms i (n - i) ≡ row_at ss ds ms i ∷ rows_from ss ds ms (i + 1) (n - (i + 1))
  unfolding rows_from
  rows_next h =
      let e : n - i ≡ suc (n - (i + 1)) = omega arith in
      ap (rows_from ss ds ms i) e ∙ ap (λ (j : ℕ). row_at ss ds ms i ∷ rows_from ss ds ms j (n - (i + 1))) (sym (add-one i))

  pub rows_none : n ≤ i → rows_from ss ds ms i (n - i) ≡ []
  unfolding rows_from
  rows_none h =
      let e : n - i ≡ 0 = omega arith in
      ap (rows_from ss ds ms i) e
