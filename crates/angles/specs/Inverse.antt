-- 01, "atan: ..", "asin(v): ..", "atan2(y, x): ..", the last with 02, CR 6, for its zeros. Definitions only. Assumes nothing.
use Rattle.std.specs.Prelude.{ℕ, cond, ◌||◌, List, [], ◌∷◌, is_nan, Float}
use Rattle.std.specs.Float.{nan, binary64}
use Rattle.std.specs.Float.Ieee.{neg, lt, eq}
use Rattle.rounding.specs.Arith.{◌⊕◌, ◌⊖◌, ◌⊗◌, ◌⊘◌, zero64, one64}
use Rattle.rounding.specs.Root.{root}
use Rattle.rounding.specs.Methods.{abs_f, negative}
use Rattle.angles.specs.Constants.{half_pi, pi, eight}
use Rattle.angles.specs.SinCos.{whole}

-- t becomes t / (1 + sqrt(1 + t × t)): half the angle
unfoldable pub halved : Float → Float
unfolding root
halved t = t ⊘ (one64 ⊕ root binary64 (one64 ⊕ t ⊗ t))

-- 1/n, rounded
abbrev pub part : ℕ → Float
part n = one64 ⊘ whole n

-- 1/n − w × (1/n' − w × ..), the innermost 1 over the last
unfoldable pub alternating : Float → ℕ → List ℕ → Float
alternating w n [] = part n
alternating w n (m ∷ ms) = part n ⊖ w ⊗ alternating w m ms

-- With w = t × t: 8 × (t × (1 − w × (1/3 − w × (1/5 − .. w × (1/15)))))
unfoldable pub series : Float → Float
unfolding alternating
series t = eight ⊗ (t ⊗ alternating (t ⊗ t) 1 (3 ∷ 5 ∷ 7 ∷ 9 ∷ 11 ∷ 13 ∷ 15 ∷ []))

-- The angle of a magnitude t of at most 1: three times halved, then the series.
unfoldable pub atan_small : Float → Float
unfolding halved series
atan_small t = series (halved (halved (halved t)))

-- Of any magnitude: above 1, of 1/t, taken from 1.5707963267948966.
unfoldable pub atan_magnitude : Float → Float
unfolding atan_small
atan_magnitude t = cond (lt one64 t) (half_pi ⊖ atan_small (one64 ⊘ t)) (atan_small t)

-- Last, the argument's sign bit. A NaN stays.
unfoldable pub atan : Float → Float
unfolding atan_magnitude abs_f negative
atan x = cond (negative x) (neg (atan_magnitude (abs_f x))) (atan_magnitude (abs_f x))

-- NaN beyond ±1, else atan(v / sqrt((1 − v) × (1 + v)))
unfoldable pub asin : Float → Float
unfolding atan root
asin v = cond (lt one64 (abs_f v)) nan (atan (v ⊘ root binary64 ((one64 ⊖ v) ⊗ (one64 ⊕ v))))

-- 02, CR 6, of a zero y with x not above 0: "y minus zero with x negative or minus zero gives minus 3.141592653589793; y plus zero with x minus
-- zero gives plus that; a zero y with x plus zero comes back itself." With x negative a plus zero gives plus that too, as 01 has it.
abbrev pub zero_angle : Float → Float → Float
zero_angle y x = cond (negative x) (cond (negative y) (neg pi) pi) y

-- x above 0, atan(y/x). Else a zero y, as above. Else x below 0, atan(y/x) plus 3.141592653589793, or minus it where y is below 0; x zero,
-- ±1.5707963267948966 by y. NaN where either is NaN.
unfoldable pub atan2 : Float → Float → Float
unfolding atan
atan2 y x =
    cond (is_nan y || is_nan x) nan
    (cond (lt zero64 x) (atan (y ⊘ x))
    (cond (eq y zero64) (zero_angle y x)
    (cond (lt x zero64) (cond (lt y zero64) (atan (y ⊘ x) ⊖ pi) (atan (y ⊘ x) ⊕ pi))
    (cond (lt zero64 y) half_pi (neg half_pi)))))
