-- A bit pattern taken apart, as the code does it. Definitions only. Assumes nothing.
use Rattle.std.specs.Prelude.{◌≡◌, ℕ, zero, suc, ◌+◌, ◌*◌, ◌<◌}
use Rattle.std.specs.Float.{Format}
use Rattle.std.specs.Float.Ieee.{prec, low, hid, ones}

-- The significand, from the exponent's field and the digits' field of a pattern. h is the weight of the leading digit, which a field of 0 lacks.
abbrev pub digits_of : ℕ → ℕ → ℕ → ℕ
digits_of h zero t = t
digits_of h (suc x) t = h + t

-- b is the pattern of a finite number above zero in the format f, which has h + 1 digits and the smallest value 2 ^ -l.
pub record Positive (f : Format) (b h l : ℕ) : Type 0 where
  pub digits : prec f ≡ h + 1
  pub least : low f ≡ l
  pub above : 0 < b
  pub under : b < ones f * hid f
