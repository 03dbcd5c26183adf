-- The first digits of a root by a cubic: a test at each of the values of the 9 leading digits, 511 - y. Assumes nothing.
use Rattle.std.proofs.Common.{ℕ, zero, suc, ◌+◌, ◌-◌, ◌*◌, ◌/◌, ◌^◌, ◌<◌, ◌≤◌, Bool, true, ◌&&◌, T, ltb, leb, sym, ◌∙◌, subst, le_trans, le_of_suc-le-suc, not-suc-le-zero, lt_of_le_of_lt, add-zero, add-suc, suc-add, zero-add, arith, ltb→lt, leb→le}
use lib.Ieee.Fits.{and_l, and_r}
use Rattle.rounding.specs.Root.{whole_root}
use Rattle.rounding.proofs.Place.{root_ge, root_lt}

-- the test f passes at i and the n - 1 numbers after it
every : (ℕ → Bool) → ℕ → ℕ → Bool
every f i zero = true
every f i (suc n) = f i && every f (suc i) n

each : (f : ℕ → Bool) (n i : ℕ) → T (every f i n) → (k : ℕ) → k < n → T (f (i + k))
unfolding every
each f zero i t k h = absurd (not-suc-le-zero h)
each f (suc n) i t zero h = subst (λ (m : ℕ). T (f m)) (sym (add-zero i)) (and_l (f i) (every f (suc i) n) t)
each f (suc n) i t (suc k) h =
    subst (λ (m : ℕ). T (f m)) (suc-add i k ∙ sym (add-suc i k)) (each f n (suc i) (and_r (f i) (every f (suc i) n) t) k (le_of_suc-le-suc h))

module _ (f : ℕ → Bool) (t : T (every f 0 384)) (y : ℕ) (h : y < 384) where
  at : T (f y)
  at = subst (λ (m : ℕ). T (f m)) (zero-add y) (each f 384 0 t y h)

abbrev taken : ℕ → ℕ
taken y = y * (y * y + 0x87000)

abbrev cubic : ℕ → ℕ
cubic y = (0x20180000 - taken y) / 2 ^ 21

fit : ℕ → Bool
fit y = leb (taken y) 0x20180000

-- at most one above the root of the least number with these digits
over : ℕ → Bool
over y = leb ((cubic y - 1) * (cubic y - 1)) (128 * (511 - y))

-- not below the root of the greatest
under : ℕ → Bool
under y = ltb (128 * (511 - y) + 127) ((cubic y + 1) * (cubic y + 1))

module _ (y : ℕ) (h : y < 384) where
  pub fits : taken y ≤ 0x20180000
  unfolding every fit
  fits = leb→le (taken y) 0x20180000 (at fit tt y h)

  low : (cubic y - 1) * (cubic y - 1) ≤ 128 * (511 - y)
  unfolding every over
  low = leb→le ((cubic y - 1) * (cubic y - 1)) (128 * (511 - y)) (at over tt y h)

  high : 128 * (511 - y) + 127 < (cubic y + 1) * (cubic y + 1)
  unfolding every under
  high = ltb→lt (128 * (511 - y) + 127) ((cubic y + 1) * (cubic y + 1)) (at under tt y h)

  pub close : (N : ℕ) → 128 * (511 - y) ≤ N → N ≤ 128 * (511 - y) + 127 → (whole_root N ≤ cubic y) × (cubic y ≤ whole_root N + 1)
  close N lo hi =
      let a : whole_root N < cubic y + 1 = root_lt N (cubic y + 1) (lt_of_le_of_lt hi high) in
      let b : cubic y - 1 ≤ whole_root N = root_ge N (cubic y - 1) (le_trans low lo) in
      (omega arith, omega arith)
