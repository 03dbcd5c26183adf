-- The special values of atan2: specs/Special.antt has the statement. Each line goes by the kinds of float that its condition leaves. Assumes nothing.
use Rattle.std.proofs.Common.{◌≡◌, ℕ, zero, suc, ◌+◌, ◌*◌, ◌^◌, ◌<◌, Bool, true, false, ℤ, pos, sym, refl, ap, ◌∙◌, zero-mul, arith, pow_pos, ltb-true, le-ltb, lt-ltb, ne_eqb}
use mathlib.Core.Bool.{false≢true}
use lib.Dec.{eqb-suc-zero}
use lib.Ieee.{Float, nan, inf, fin, binary64, up, down, unlike, round, fits, neg, lt, eq, is_nan, div, of_bits}
use lib.Ieee.Fits.{round-fits}
use Rattle.rounding.specs.Arith.{zero64, ◌⊘◌, ◌⊕◌, ◌⊖◌}
use Rattle.rounding.specs.Computed.{arithmetic}
use Rattle.rounding.specs.Methods.{negative, is_finite}
use Rattle.rounding.proofs.Values.{same_value, rounded_exact}
use Rattle.angles.specs.Constants.{half_pi, pi}
use Rattle.angles.specs.Inverse.{atan, atan2}
use Rattle.angles.specs.Special.{signed, Atan2SpecialValues}

-- ---- what the arc tangent of a zero and of an infinity is, computed

atan_zero : (s : Bool) → atan (fin s 0 (pos 0)) ≡ fin s 0 (pos 0)
unfolding arithmetic atan
atan_zero false = refl
atan_zero true = refl

atan_infinity : (s : Bool) → atan (inf s) ≡ signed s half_pi
unfolding arithmetic atan
atan_infinity false = refl
atan_infinity true = refl

-- from these, half a turn away: with y above zero, and below it
zero_plus_half : (s : Bool) → fin s 0 (pos 0) ⊕ pi ≡ pi
unfolding arithmetic
zero_plus_half false = refl
zero_plus_half true = refl

zero_minus_half : fin false 0 (pos 0) ⊖ pi ≡ neg pi
unfolding arithmetic
zero_minus_half = refl

quarter_plus_half : neg half_pi ⊕ pi ≡ half_pi
unfolding arithmetic
quarter_plus_half = refl

quarter_minus_half : half_pi ⊖ pi ≡ neg half_pi
unfolding arithmetic
quarter_minus_half = refl

-- ---- how a finite number m * 2 ^ e compares with zero, which stands beside it as 0 * 1 * down e
none : (e : ℤ) → 0 * 1 * down e ≡ 0
none e = zero-mul (down e)

above_none : (m : ℕ) (e : ℤ) → lt zero64 (fin false m e) ≡ true → 0 < m * up e * 1
unfolding lt of_bits
above_none m e h = omega (arith, ltb-true (0 * 1 * down e) (m * up e * 1) h)

-- a number above zero: neither it nor its opposite is a zero, and its opposite is below zero
positive_no_zero : (s : Bool) (m : ℕ) (e : ℤ) → lt zero64 (fin false m e) ≡ true → eq (fin s m e) zero64 ≡ false
unfolding eq of_bits
positive_no_zero s m e h = rw (ne_eqb (m * up e * 1) (0 * 1 * down e) (λ q. omega (arith, q, none e, above_none m e h)))

negative_below : (m : ℕ) (e : ℤ) → lt zero64 (fin false m e) ≡ true → lt (fin true m e) zero64 ≡ true
unfolding lt of_bits
negative_below m e h = lt-ltb 0 (m * up e * 1 + 0 * 1 * down e) (omega (arith, above_none m e h))

-- a number below zero is no zero, and what has no sign is not below zero
negative_no_zero : (m : ℕ) (e : ℤ) → lt (fin true m e) zero64 ≡ true → eq (fin true m e) zero64 ≡ false
unfolding lt eq of_bits
negative_no_zero m e h =
    let w = ltb-true 0 (m * up e * 1 + 0 * 1 * down e) h in
    rw (ne_eqb (m * up e * 1) (0 * 1 * down e) (λ q. omega (arith, q, none e, w)))

no_negative : (m : ℕ) (e : ℤ) → lt (fin false m e) zero64 ≡ false
unfolding lt of_bits
no_negative m e = le-ltb (m * up e * 1) (0 * 1 * down e) (omega (arith, none e))

-- ---- a zero y

zero_minus_zero : (s : Bool) → atan2 (signed s zero64) (neg zero64) ≡ signed s pi
unfolding atan2 lt eq is_nan negative neg of_bits
zero_minus_zero false = refl
zero_minus_zero true = refl

zero_plus_zero : (s : Bool) → atan2 (signed s zero64) zero64 ≡ signed s zero64
unfolding atan2 lt eq is_nan negative neg of_bits
zero_plus_zero false = refl
zero_plus_zero true = refl

zero_below : (s : Bool) (x : Float) → lt x zero64 ≡ true → atan2 (signed s zero64) x ≡ signed s pi
unfolding atan2 lt eq is_nan negative neg of_bits
zero_below s nan h = absurd (false≢true h)
zero_below s (inf false) h = absurd (false≢true h)
zero_below false (inf true) h = refl
zero_below true (inf true) h = refl
zero_below s (fin false m e) h = absurd (false≢true (sym (no_negative m e) ∙ h))
zero_below false (fin true m e) h = refl
zero_below true (fin true m e) h = refl

-- nothing, rounded, is a zero
round_nothing : (s : Bool) (N D : ℕ) → N ≡ 0 → 0 < D → round binary64 s N D ≡ fin s 0 (pos 0)
unfolding fits
round_nothing s N D n p =
    same_value binary64 s 0 (round binary64 s N D) (fin s 0 (pos 0)) (round-fits binary64 s N D) tt
    (rounded_exact binary64 s N D 0 p (record { q = 0; k = 0; few = pow_pos 53; is = refl }) (pow_pos 2098)
    (ap (λ (k : ℕ). k * 2 ^ 1074) n ∙ sym (zero-mul D)))
    (refl, refl)

unlike_plus : (s : Bool) → unlike s false ≡ s
unlike_plus false = refl
unlike_plus true = refl

-- a zero divided by a number above zero is that zero
zero_over : (s : Bool) (m : ℕ) (e : ℤ) → lt zero64 (fin false m e) ≡ true →
    fin s 0 (pos 0) ⊘ fin false m e ≡ fin s 0 (pos 0)
unfolding div
zero_over s zero e h = absurd (omega (arith, above_none zero e h, zero-mul (up e)))
zero_over s (suc m) e h =
    rw (eqb-suc-zero m)
    (round_nothing (unlike s false) (0 * 1 * down e) (suc m * up e * 1) (none e) (above_none (suc m) e h)
    ∙ ap (λ (t : Bool). fin t 0 (pos 0)) (unlike_plus s))

zero_above : (s : Bool) (x : Float) → lt zero64 x ≡ true → atan2 (signed s zero64) x ≡ signed s zero64
unfolding atan2 lt is_nan neg div of_bits
zero_above s nan h = absurd (false≢true h)
zero_above s (inf true) h = absurd (false≢true h)
zero_above false (inf false) h = atan_zero false
zero_above true (inf false) h = atan_zero true
zero_above s (fin true m e) h = absurd (false≢true h)
zero_above false (fin false m e) h = rw h (ap atan (zero_over false m e h) ∙ atan_zero false)
zero_above true (fin false m e) h = rw h (ap atan (zero_over true m e h) ∙ atan_zero true)

-- ---- a zero x

below_zero : (s : Bool) (y : Float) → lt y zero64 ≡ true → atan2 y (signed s zero64) ≡ neg half_pi
unfolding atan2 lt eq is_nan neg of_bits
below_zero s nan h = absurd (false≢true h)
below_zero s (inf false) h = absurd (false≢true h)
below_zero false (inf true) h = refl
below_zero true (inf true) h = refl
below_zero s (fin false m e) h = absurd (false≢true (sym (no_negative m e) ∙ h))
below_zero false (fin true m e) h = rw (negative_no_zero m e h)
below_zero true (fin true m e) h = rw (negative_no_zero m e h)

above_zero : (s : Bool) (y : Float) → lt zero64 y ≡ true → atan2 y (signed s zero64) ≡ half_pi
unfolding atan2 lt eq is_nan neg of_bits
above_zero s nan h = absurd (false≢true h)
above_zero s (inf true) h = absurd (false≢true h)
above_zero false (inf false) h = refl
above_zero true (inf false) h = refl
above_zero s (fin true m e) h = absurd (false≢true h)
above_zero false (fin false m e) h = rw (positive_no_zero false m e h, h)
above_zero true (fin false m e) h = rw (positive_no_zero false m e h, h)

-- ---- an infinite x

minus_infinity : (s : Bool) (y : Float) → is_finite y ≡ true → lt zero64 y ≡ true →
    atan2 (signed s y) (inf true) ≡ signed s pi
unfolding atan2 lt eq is_nan is_finite neg div of_bits
minus_infinity s nan f h = absurd (false≢true f)
minus_infinity s (inf t) f h = absurd (false≢true f)
minus_infinity s (fin true m e) f h = absurd (false≢true h)
minus_infinity false (fin false m e) f h =
    rw (positive_no_zero false m e h, no_negative m e) (ap (λ (a : Float). a ⊕ pi) (atan_zero true) ∙ zero_plus_half true)
minus_infinity true (fin false m e) f h =
    rw (positive_no_zero true m e h, negative_below m e h) (ap (λ (a : Float). a ⊖ pi) (atan_zero false) ∙ zero_minus_half)

plus_infinity : (s : Bool) (y : Float) → is_finite y ≡ true → lt zero64 y ≡ true →
    atan2 (signed s y) (inf false) ≡ signed s zero64
unfolding atan2 lt is_nan is_finite neg div of_bits
plus_infinity s nan f h = absurd (false≢true f)
plus_infinity s (inf t) f h = absurd (false≢true f)
plus_infinity s (fin true m e) f h = absurd (false≢true h)
plus_infinity false (fin false m e) f h = atan_zero false
plus_infinity true (fin false m e) f h = atan_zero true

-- ---- an infinite y

-- by x: above zero, zero, below zero
infinite_over_positive : (s : Bool) (m : ℕ) (e : ℤ) (b : Bool) → lt zero64 (fin false m e) ≡ b →
    atan2 (inf s) (fin false m e) ≡ signed s half_pi
unfolding atan2 lt eq is_nan neg div of_bits
infinite_over_positive false m e true h = rw h (atan_infinity false)
infinite_over_positive true m e true h = rw h (atan_infinity true)
infinite_over_positive false m e false h = rw (h, no_negative m e)
infinite_over_positive true m e false h = rw (h, no_negative m e)

infinite_over_negative : (s : Bool) (m : ℕ) (e : ℤ) (b : Bool) → lt (fin true m e) zero64 ≡ b →
    atan2 (inf s) (fin true m e) ≡ signed s half_pi
unfolding atan2 lt eq is_nan neg div of_bits
infinite_over_negative false m e true h = rw h (ap (λ (a : Float). a ⊕ pi) (atan_infinity true) ∙ quarter_plus_half)
infinite_over_negative true m e true h = rw h (ap (λ (a : Float). a ⊖ pi) (atan_infinity false) ∙ quarter_minus_half)
infinite_over_negative false m e false h = rw h
infinite_over_negative true m e false h = rw h

infinity : (s : Bool) (x : Float) → is_finite x ≡ true → atan2 (inf s) x ≡ signed s half_pi
unfolding is_finite
infinity s nan f = absurd (false≢true f)
infinity s (inf t) f = absurd (false≢true f)
infinity s (fin false m e) f = infinite_over_positive s m e (lt zero64 (fin false m e)) refl
infinity s (fin true m e) f = infinite_over_negative s m e (lt (fin true m e) zero64) refl

two_infinities : (s t : Bool) → atan2 (inf s) (inf t) ≡ nan
unfolding arithmetic atan2 eq
two_infinities false false = refl
two_infinities false true = refl
two_infinities true false = refl
two_infinities true true = refl

pub atan2_special_values : Atan2SpecialValues
atan2_special_values = record {
  zero_minus_zero = zero_minus_zero;
  zero_plus_zero = zero_plus_zero;
  zero_below = zero_below;
  zero_above = zero_above;
  below_zero = below_zero;
  above_zero = above_zero;
  minus_infinity = minus_infinity;
  plus_infinity = plus_infinity;
  infinity = infinity;
  two_infinities = two_infinities;
}
