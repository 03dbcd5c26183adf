-- 01, "sin and cos of a value not finite or beyond 1,024: NaN. Else ..". Definitions only. Assumes nothing.
use Rattle.std.specs.Prelude.{ℕ, zero, suc, ◌-◌, ◌%◌, cond, List, [], ◌∷◌, pos, Float}
use Rattle.std.specs.Float.{nan, binary64}
use Rattle.std.specs.Float.Ieee.{neg, le, lt, of_int, to_unsigned}
use Rattle.rounding.specs.Arith.{◌⊕◌, ◌⊖◌, ◌⊗◌, ◌⊘◌, zero64, one64}
use Rattle.rounding.specs.Methods.{abs_f}
use Rattle.rounding.specs.Narrow.{narrowed}
use Rattle.angles.specs.declared.direct.SinCos.{SinCos}
use Rattle.angles.specs.Constants.{two_over_pi, shift, P1, P2, reach}

-- k = (a × 0.6366197723675814 + 6755399441055744) − 6755399441055744: the nearest whole number of quarter turns
unfoldable pub quarter_turns : Float → Float
quarter_turns a = a ⊗ two_over_pi ⊕ shift ⊖ shift

-- r = (a − k × P1) − k × P2: what is left of the angle
unfoldable pub reduced : Float → Float → Float
reduced a k = a ⊖ k ⊗ P1 ⊖ k ⊗ P2

-- A whole number as a float.
abbrev pub whole : ℕ → Float
whole n = of_int binary64 (pos n)

-- 1 − z/d × (1 − z/d' × ..), divisors in order; the innermost bracket is 1 − z over the last.
unfoldable pub bracket : Float → ℕ → List ℕ → Float
bracket z d [] = one64 ⊖ z ⊘ whole d
bracket z d (e ∷ ds) = one64 ⊖ z ⊘ whole d ⊗ bracket z e ds

-- s = r × (1 − z/6 × (1 − z/20 × ..))
unfoldable pub sine : Float → Float
unfolding bracket
sine r = r ⊗ bracket (r ⊗ r) 6 (20 ∷ 42 ∷ 72 ∷ 110 ∷ 156 ∷ 210 ∷ [])

-- c = 1 − z/2 × (1 − z/12 × ..)
unfoldable pub cosine : Float → Float
unfolding bracket
cosine r = bracket (r ⊗ r) 2 (12 ∷ 30 ∷ 56 ∷ 90 ∷ 132 ∷ 182 ∷ 240 ∷ [])

-- k mod 4 of a float that is a whole number: of its magnitude, and from 4 down where it is negative.
unfoldable pub mod4 : Float → ℕ
mod4 k = cond (lt k zero64) ((4 - to_unsigned 64 (neg k) % 4) % 4) (to_unsigned 64 k % 4)

-- By k mod 4 from 0 to 3, (sin, cos) is (s, c), (c, −s), (−s, −c), (−c, s).
unfoldable pub by_quarter : ℕ → Float → Float → SinCos
by_quarter zero s c = record { sin = s; cos = c }
by_quarter (suc zero) s c = record { sin = c; cos = neg s }
by_quarter (suc (suc zero)) s c = record { sin = neg s; cos = neg c }
by_quarter (suc (suc (suc n))) s c = record { sin = neg c; cos = s }

-- "Else k = .. and r = ..": both functions of a value within ±1,024.
unfoldable pub in_reach : Float → SinCos
unfolding quarter_turns reduced sine cosine mod4 by_quarter
in_reach a = let k = quarter_turns a in let r = reduced a k in by_quarter (mod4 k) (sine r) (cosine r)

-- "sin and cos of a value not finite or beyond 1,024: NaN."
unfoldable pub sin_cos : Float → SinCos
unfolding in_reach abs_f
sin_cos a = cond (le (abs_f a) reach) (in_reach a) (record { sin = nan; cos = nan })

-- The sine, Rust's f64::sin in the oracle,
unfoldable pub sin : Float → Float
unfolding sin_cos
sin a = (sin_cos a).sin

-- and the cosine, its f64::cos.
unfoldable pub cos : Float → Float
unfolding sin_cos
cos a = (sin_cos a).cos

-- "f32 cosine: widen, cosine, narrow." Widening is the identity on values.
unfoldable pub cos32 : Float → Float
unfolding cos narrowed
cos32 a = narrowed (cos a)
