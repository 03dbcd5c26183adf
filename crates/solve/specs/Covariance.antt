-- `covariance_from_normal` (wcs_refine.rs). Definitions only. Assumes nothing.
use Rattle.std.specs.Prelude.{ℕ, ◌-◌, ◌*◌, ◌^◌, cond, ◌||◌, List, [], ◌∷◌, pos, nat_le, nat_lt, Float}
use Rattle.std.specs.Float.{binary64}
use Rattle.std.specs.Float.Ieee.{of_int}
use Rattle.rounding.specs.Arith.{◌⊕◌, ◌⊗◌, ◌⊘◌, zero64, one64}
use Rattle.solve.specs.Constants.{half, infinity}
use Rattle.solve.specs.Solve.{solve3x3}
use Rattle.solve.specs.declared.Solution.{Solution}
use Rattle.solve.specs.declared.Solution.TheVariants.{Solved, Failed}

-- 01: "infinity on the diagonal, zero elsewhere"
unfoldable pub unconstrained : List (List Float)
unconstrained =
    (infinity ∷ zero64 ∷ zero64 ∷ [])
    ∷ (zero64 ∷ infinity ∷ zero64 ∷ [])
    ∷ (zero64 ∷ zero64 ∷ infinity ∷ [])
    ∷ []

-- sigma2 * 0.5 * (inv[i][j] + inv[j][i])
abbrev pub evened : Float → Float → Float → Float
evened sigma2 a b = sigma2 ⊗ half ⊗ (a ⊕ b)

-- The covariance from the three columns a, b, c of the inverse: sigma2 times the inverse, made symmetric.
unfoldable pub symmetric : Float → Float → Float → Float → Float → Float → Float → Float → Float → Float
    → List (List Float)
symmetric s a0 a1 a2 b0 b1 b2 c0 c1 c2 =
    (evened s a0 a0 ∷ evened s b0 a1 ∷ evened s c0 a2 ∷ [])
    ∷ (evened s a1 b0 ∷ evened s b1 b1 ∷ evened s c1 b2 ∷ [])
    ∷ (evened s a2 c0 ∷ evened s b2 c1 ∷ evened s c2 c2 ∷ [])
    ∷ []

-- 01: "or with a failed inverse column: infinity on the diagonal, zero elsewhere"
unfoldable pub from_columns : Float → Solution → Solution → Solution → List (List Float)
unfolding symmetric unconstrained
from_columns s (Solved a0 a1 a2) (Solved b0 b1 b2) (Solved c0 c1 c2) = symmetric s a0 a1 a2 b0 b1 b2 c0 c1 c2
from_columns s (Solved a0 a1 a2) (Solved b0 b1 b2) Failed = unconstrained
from_columns s (Solved a0 a1 a2) Failed z = unconstrained
from_columns s Failed y z = unconstrained

-- `covariance_from_normal`. "Covariance with 2n − 3 below 1": that is n below 2. From 2 ^ 62 on, which no list has, 2n is past the Rust's i64; here
-- that is unconstrained too.
unfoldable pub covariance_from_normal : List (List Float) → Float → ℕ → List (List Float)
unfolding from_columns unconstrained solve3x3
covariance_from_normal ata sum_r2 n =
    cond (nat_lt n 2 || nat_le (2 ^ 62) n) unconstrained
    (from_columns (sum_r2 ⊘ of_int binary64 (pos (2 * n - 3)))
    (solve3x3 ata (one64 ∷ zero64 ∷ zero64 ∷ []))
    (solve3x3 ata (zero64 ∷ one64 ∷ zero64 ∷ []))
    (solve3x3 ata (zero64 ∷ zero64 ∷ one64 ∷ [])))
