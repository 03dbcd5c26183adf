-- Where an infinity begins: a number y rounds to 2 ^ (emax + 1) units or more exactly where it is at least 2 ^ emax * (2 - 2 ^ -prec), the middle of
-- the largest finite value and 2 ^ (emax + 1). Assumes nothing.
use Rattle.std.proofs.Common.{◌≡◌, ℕ, suc, ◌+◌, ◌-◌, ◌*◌, ◌/◌, ◌%◌, ◌^◌, ◌<◌, ◌≤◌, Bool, true, false, not, T, ltb, sym, ap, ◌∙◌, subst, inr, le_of_eq, lt_of_lt_of_le, lt_of_le_of_lt, le_of_lt, lt-suc_self, suc-mul, add_comm, mul-lt-mul_of_pos_right, mul-div_cancel, arith, ltb→lt, nltb→le, pow_pos, pow-add}
use lib.Pow.{suc_ones, ones_lt}
use lib.Ieee.{Format, prec, emax, low, size, ones}
use lib.Ieee.Fits.{two}
use lib.Ieee.Scale.{overflow}
use Rattle.rounding.specs.Rounded.{Holds, last_digit, Nearest, largest}
use Rattle.rounding.proofs.Place.{Full, dropped}
use Rattle.rounding.proofs.RootBits.{sizes}
use Rattle.rounding.proofs.Rounding.{gap_down, holds}
use Rattle.rounding.proofs.Half.{half_pow}

-- ---- the largest finite value: all digits set, at the highest place
abbrev most : Format → ℕ
most f = (2 ^ prec f - 1) * 2 ^ (ones f - 2)

next_is : (f : Format) → suc (2 ^ prec f - 1) * 2 ^ (ones f - 2) ≡ overflow f
next_is f = ap (λ (x : ℕ). x * 2 ^ (ones f - 2)) (suc_ones (prec f)) ∙ sym (pow-add 2 (prec f) (ones f - 2)) ∙ ap (λ (x : ℕ). 2 ^ x) (omega (arith, sizes f))

step : (f : Format) → overflow f ≡ most f + 2 ^ (ones f - 2)
step f = sym (next_is f) ∙ suc-mul (2 ^ prec f - 1) (2 ^ (ones f - 2))

most_is : (f : Format) → largest f ≡ most f
most_is f = ap (λ (x : ℕ). overflow f - 2 ^ x) (place f) ∙ omega (arith, step f)
  where
    place : (f : Format) → low f + suc (emax f) - prec f ≡ ones f - 2
    place f = omega (arith, sizes f)

-- ---- an infinity, exactly from the middle of it and 2 ^ (emax + 1) on
module _ (f : Format) (Under Over : ℕ → Type 0) (less : (s t : ℕ) → s ≤ t → Under t → Under s) (apart : (s t : ℕ) → Under t → Over s → t ≤ s) (g : ℕ) (N : Nearest (prec f) Under Over g) where
  l_lt : 2 ^ prec f - 1 < 2 ^ prec f
  l_lt = ones_lt (prec f)

  past : overflow f ≤ g → Under (most f + overflow f)
  past h = less (most f + overflow f) (most f + g) (omega arith) (N.smaller (most f) (holds (prec f) (2 ^ prec f - 1) (ones f - 2) (two f) (le_of_lt l_lt)) (omega (arith, step f, pow_pos (ones f - 2))))

  full : Full (prec f) (2 ^ prec f - 1) (ones f - 2)
  full = inr (omega (arith, half_pow (prec f) (two f), pow_pos (prec f - 1)))

  top : Holds (prec f) (overflow f)
  top = subst (λ (x : ℕ). Holds (prec f) x) (next_is f) (holds (prec f) (suc (2 ^ prec f - 1)) (ones f - 2) (two f) l_lt)

  there : Under (most f + overflow f) → overflow f ≤ g
  there u = go (ltb g (overflow f)) (ltb→lt g (overflow f)) (nltb→le g (overflow f))
    where
      no : g < overflow f → ⊥
      no l =
          let p = prec f in
          let k = ones f - 2 in
          let q = 2 ^ p - 1 in
          let a : g ≤ most f = gap_down p g q k (two f) N.held full (lt_of_lt_of_le l (le_of_eq (sym (next_is f)))) in
          let o : Over (g + overflow f) = N.larger (overflow f) top l in
          let b : most f + overflow f ≤ g + overflow f = apart (g + overflow f) (most f + overflow f) u o in
          let e : g ≡ most f = omega arith in
          let z : last_digit p g ≡ 0 = N.even (overflow f) top (λ i. omega arith) (subst Under (add_comm (most f) (overflow f) ∙ ap (λ (x : ℕ). overflow f + x) (sym e)) u) (subst Over (add_comm g (overflow f)) o) in
          let d : size g - p ≡ k = dropped p g q k (two f) (le_of_eq (sym e)) (lt_of_le_of_lt (le_of_eq e) (mul-lt-mul_of_pos_right (lt-suc_self q) (pow_pos k))) l_lt full in
          let v : last_digit p g ≡ q % 2 = ap (λ (x : ℕ). g / 2 ^ x % 2) d ∙ ap (λ (x : ℕ). x % 2) (ap (λ (x : ℕ). x / 2 ^ k) e ∙ mul-div_cancel q (pow_pos k)) in
          odd p (two f) (sym v ∙ z)
        where
          odd : (p : ℕ) → 2 ≤ p → (2 ^ p - 1) % 2 ≡ 0 → ⊥
          odd p P z = omega (arith, half_pow p P, pow_pos (p - 1))

      go : (b : Bool) → (T b → g < overflow f) → (T (not b) → overflow f ≤ g) → overflow f ≤ g
      go true l h = absurd (no (l tt))
      go false l h = h tt

  pub past_largest : overflow f ≤ g → Under (largest f + overflow f)
  past_largest h = subst (λ (x : ℕ). Under (x + overflow f)) (sym (most_is f)) (past h)

  pub from_there : Under (largest f + overflow f) → overflow f ≤ g
  from_there u = there (subst (λ (x : ℕ). Under (x + overflow f)) (most_is f) u)
