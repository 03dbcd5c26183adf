-- The special values of atan2 that IEEE 754-2019 lists (9.2.1). With 02, CR 6, in force every line of the list holds but those for two
-- infinities, which the last line here has in their place. π and π/2 are 01's 3.141592653589793 and 1.5707963267948966. Definitions only;
-- `proofs/Theorems.antt` proves the statement as `atan2_special_values`. Assumes nothing.
use Rattle.std.specs.Prelude.{◌≡◌, Bool, true, false, cond, Float}
use Rattle.std.specs.Float.{nan, inf}
use Rattle.std.specs.Float.Ieee.{neg, lt}
use Rattle.rounding.specs.Arith.{zero64}
use Rattle.rounding.specs.Methods.{is_finite}
use Rattle.angles.specs.Constants.{half_pi, pi}
use Rattle.angles.specs.Inverse.{atan2}

-- The ± of the list: minus x where s is true. Minus zero is `signed true zero64`.
abbrev pub signed : Bool → Float → Float
signed s x = cond s (neg x) x

-- A line of the list each.
pub record Atan2SpecialValues : Type 0 where
  -- atan2(±0, -0) is ±π;
  pub zero_minus_zero : (s : Bool) → atan2 (signed s zero64) (neg zero64) ≡ signed s pi
  -- atan2(±0, +0) is ±0;
  pub zero_plus_zero : (s : Bool) → atan2 (signed s zero64) zero64 ≡ signed s zero64
  -- atan2(±0, x) is ±π for x below zero, minus infinity and the least subnormal among them;
  pub zero_below : (s : Bool) (x : Float) → lt x zero64 ≡ true → atan2 (signed s zero64) x ≡ signed s pi
  -- atan2(±0, x) is ±0 for x above zero;
  pub zero_above : (s : Bool) (x : Float) → lt zero64 x ≡ true → atan2 (signed s zero64) x ≡ signed s zero64
  -- atan2(y, ±0) is -π/2 for y below zero,
  pub below_zero : (s : Bool) (y : Float) → lt y zero64 ≡ true → atan2 y (signed s zero64) ≡ neg half_pi
  -- and +π/2 for y above zero;
  pub above_zero : (s : Bool) (y : Float) → lt zero64 y ≡ true → atan2 y (signed s zero64) ≡ half_pi
  -- atan2(±y, -∞) is ±π for a finite y above zero;
  pub minus_infinity : (s : Bool) (y : Float) → is_finite y ≡ true → lt zero64 y ≡ true →
      atan2 (signed s y) (inf true) ≡ signed s pi
  -- atan2(±y, +∞) is ±0 for a finite y above zero;
  pub plus_infinity : (s : Bool) (y : Float) → is_finite y ≡ true → lt zero64 y ≡ true →
      atan2 (signed s y) (inf false) ≡ signed s zero64
  -- atan2(±∞, x) is ±π/2 for a finite x.
  pub infinity : (s : Bool) (x : Float) → is_finite x ≡ true → atan2 (inf s) x ≡ signed s half_pi
  -- For two infinities the list has ±3π/4 and ±π/4. 02 changes zeros alone, so 01's quotient stands: NaN.
  pub two_infinities : (s t : Bool) → atan2 (inf s) (inf t) ≡ nan
