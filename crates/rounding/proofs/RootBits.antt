-- The pattern that `root_bits` makes is that of the root, over every format. Assumes nothing.
use Rattle.std.proofs.Common.{◌≡◌, ℕ, zero, suc, ◌+◌, ◌-◌, ◌*◌, ◌/◌, ◌%◌, ◌^◌, ◌<◌, ◌≤◌, min, true, false, sym, refl, ap, ◌∙◌, subst, inr, true≢false, le_trans, le_of_eq, lt_of_lt_of_le, lt_of_le_of_lt, lt_irrefl, mul-le-mul_right, mod-lt, mod-eq_of_lt, mul_assoc, div-lt_iff_lt-mul, mul-lt-mul_of_pos_right, mul-pos, div-add-mod', zero-add, zero-mul, mul_right_comm, add-one, arith, lit≤, pow_pos, pow_mono, pow-add, shl_lt}
use Prim.Native.Nat.{compare}
use native.Mathlib.Nat.{pow-succ'}
use lib.Pow.{pow-lt}
use lib.Count.{count_leading_zeros, leading_top}
use lib.Bits.{bit_and, and_mask}
use lib.Ieee.{Float, nan, inf, fin, Format, binary32, binary64, prec, emax, low, up, down, units, hid, ones, to_bits, of_bits}
use lib.Ieee.Fits.{down_pos, nearest-le}
use lib.Ieee.Exact.{HasValue}
use lib.Ieee.Scale.{overflow}
use lib.Ieee.Nearest.{closest, nearest-ge}
use Rattle.rounding.specs.Root.{whole_root, place, root}
use Rattle.rounding.specs.Pattern.{digits_of, Positive}
use Rattle.rounding.proofs.Place.{four, root_exact}
use Rattle.rounding.proofs.Rooting.{rooted}
use Rattle.rounding.proofs.Align as align
use Rattle.rounding.proofs.Encoding.{positive_value, encoded}

-- ---- of a format: its digits, its smallest value and its exponents' range
pub sizes : (f : Format) → (24 ≤ prec f) × (prec f ≤ 53) × (149 ≤ low f) × (low f ≤ 1074) × (ones f ≤ 2047) × (low f ≡ emax f + prec f - 2)
sizes binary32 = (lit≤ tt, lit≤ tt, lit≤ tt, lit≤ tt, lit≤ tt, refl)
sizes binary64 = (lit≤ tt, lit≤ tt, lit≤ tt, lit≤ tt, lit≤ tt, refl)

-- ---- the root of a value by its size in units
pub root_value : (f : Format) (x : Float) (a : ℕ) → HasValue x false a (2 ^ low f) → 0 < a → root f x ≡ place f false (whole_root (a * 2 ^ low f)) (λ t. compare (4 * (a * 2 ^ low f)) (t * t))
unfolding root
root_value f nan a v h = absurd v
root_value f (inf s) a v h = absurd v
root_value f (fin true m e) a v h = absurd (true≢false v.0)
root_value f (fin false zero e) a v h = absurd (lt_irrefl 0 (lt_of_lt_of_le (mul-pos h (down_pos e)) (le_of_eq (sym v.1 ∙ ap (λ (x : ℕ). x * 2 ^ low f) (zero-mul (up e)) ∙ zero-mul (2 ^ low f)))))
root_value f (fin false (suc m) e) a v h =
    root_exact f (suc m * up e) (down e) (a * 2 ^ low f) (down_pos e)
    (ap (λ (x : ℕ). suc m * up e * x) (four (low f))
    ∙ sym (mul_assoc (suc m * up e) (2 ^ low f) (2 ^ low f))
    ∙ ap (λ (x : ℕ). x * 2 ^ low f) v.1
    ∙ mul_right_comm a (down e) (2 ^ low f))

-- ---- the significand and its place
digits_pos : (H x t : ℕ) → 0 < H → 0 < x * H + t → 0 < digits_of H x t
digits_pos H zero t h k = lt_of_lt_of_le k (le_of_eq (ap (λ (y : ℕ). y + t) (zero-mul H) ∙ zero-add t))
digits_pos H (suc x) t h k = omega arith

pub digits_lt : (H x t : ℕ) → t < H → digits_of H x t < 2 * H
digits_lt H zero t h = omega arith
digits_lt H (suc x) t h = omega arith

module _ (f : Format) (b h l : ℕ) (P : Positive f b h l) where
  abbrev q : ℕ
  q = digits_of (2 ^ h) (b / 2 ^ h) (b % 2 ^ h)

  abbrev k : ℕ
  k = b / 2 ^ h - 1

  abbrev z : ℕ
  z = count_leading_zeros 64 q

  abbrev E : ℕ
  E = k + l - z

  hid_is : hid f ≡ 2 ^ h
  hid_is = ap (λ (x : ℕ). 2 ^ x) (less (prec f) h P.digits)
    where
      less : (p h : ℕ) → p ≡ h + 1 → p - 1 ≡ h
      less p h e = omega arith

  pub h_lt : h < 53
  h_lt = omega (arith, sizes f)

  pub l_ge : 149 ≤ l
  l_ge = omega (arith, sizes f)

  pub l_le : l ≤ 1074
  l_le = omega (arith, sizes f)

  under : b < ones f * 2 ^ h
  under = subst (λ (x : ℕ). b < ones f * x) hid_is P.under

  field_lt : b / 2 ^ h < ones f
  field_lt = (div-lt_iff_lt-mul (pow_pos h)).1 under

  pub k_le : k ≤ 2046
  k_le = omega (arith, field_lt, sizes f)

  q_pos : 0 < q
  q_pos = digits_pos (2 ^ h) (b / 2 ^ h) (b % 2 ^ h) (pow_pos h) (lt_of_lt_of_le P.above (le_of_eq (sym (div-add-mod' b (2 ^ h)))))

  q_lt : q < 2 ^ (h + 1)
  q_lt = lt_of_lt_of_le (digits_lt (2 ^ h) (b / 2 ^ h) (b % 2 ^ h) (mod-lt b (pow_pos h))) (le_of_eq (sym (ap (λ (x : ℕ). 2 ^ x) (add-one h) ∙ pow-succ' 2 h)))

  q_fits : q < 2 ^ 64
  q_fits = let w : h + 1 ≤ 64 = omega (arith, h_lt) in lt_of_lt_of_le q_lt (pow_mono w)

  topped : (j : ℕ) → z + suc j ≡ 64 → 2 ^ j ≤ q → q < 2 ^ suc j → (2 ^ 63 ≤ q * 2 ^ z) × (q * 2 ^ z < 2 ^ 64)
  topped j e lo hi = (
    le_trans (le_of_eq (ap (λ (x : ℕ). 2 ^ x) (at j z e) ∙ pow-add 2 j z)) (mul-le-mul_right (2 ^ z) lo),
    lt_of_lt_of_le (mul-lt-mul_of_pos_right hi (pow_pos z)) (le_of_eq (sym (pow-add 2 (suc j) z) ∙ ap (λ (x : ℕ). 2 ^ x) (past j z e))),
  )
    where
      at : (j z : ℕ) → z + suc j ≡ 64 → 63 ≡ j + z
      at j z e = omega arith

      past : (j z : ℕ) → z + suc j ≡ 64 → suc j + z ≡ 64
      past j z e = omega arith

  top_is : (2 ^ 63 ≤ q * 2 ^ z) × (q * 2 ^ z < 2 ^ 64)
  top_is = let t = leading_top 64 q q_pos q_fits in topped t.0 t.1 t.2 t.3

  pub z_lt : z < 64
  z_lt = align.few (h + 1) q k l z (omega (arith, h_lt)) q_lt top_is.0 top_is.1 l_ge

  -- as the machine has it
  pub start_is : q * 2 ^ z % 2 ^ 64 / 2 ^ bit_and E 1 ≡ q * 2 ^ z / 2 ^ (E % 2)
  start_is = ap (λ (x : ℕ). x / 2 ^ bit_and E 1) (mod-eq_of_lt top_is.1) ∙ ap (λ (x : ℕ). q * 2 ^ z / 2 ^ x) (and_mask E 1)

  pub start_ge : 2 ^ 62 ≤ q * 2 ^ z % 2 ^ 64 / 2 ^ bit_and E 1
  start_ge = subst (λ (x : ℕ). 2 ^ 62 ≤ x) (sym start_is) (align.a_ge (h + 1) q k l z (omega (arith, h_lt)) q_lt top_is.0 top_is.1 l_ge)

  module _ (R rest : ℕ) (e : R * R + rest ≡ q * 2 ^ z / 2 ^ (E % 2) * 4 ^ (h + 1 + 1) / 2 ^ 64) (le : rest ≤ 2 * R) where
    abbrev m : ℕ
    m = closest (2 * R + min rest 1) 4

    abbrev J : ℕ
    J = (E + 1) / 2 + 31 - (h + 1)

    full : 2 ^ (h + 1) ≤ R
    full = align.root_full (h + 1) q k l z (omega (arith, h_lt)) q_lt top_is.0 top_is.1 l_ge R rest e le

    pub short : R < 2 ^ suc (h + 1)
    short = align.root_short (h + 1) q k l z (omega (arith, h_lt)) q_lt top_is.0 top_is.1 l_ge R rest e

    is_units : root f (of_bits f b) ≡ units f false m (suc J)
    is_units =
        root_value f (of_bits f b) (q * 2 ^ k) v (mul-pos q_pos (pow_pos k))
        ∙ ap (λ (A : ℕ). place f false (whole_root A) (λ t. compare (4 * A) (t * t))) (ap (λ (x : ℕ). q * 2 ^ k * 2 ^ x) P.least ∙ align.aligned (h + 1) q k l z (omega (arith, h_lt)) q_lt top_is.0 top_is.1 l_ge)
        ∙ rooted (q * 2 ^ z / 2 ^ (E % 2) * 4 ^ (h + 1 + 1) / 2 ^ 64) R rest e le f J (subst (λ (x : ℕ). 2 ^ x ≤ R) (sym P.digits) full) (subst (λ (x : ℕ). R < 2 ^ suc x) (sym P.digits) short)
      where
        v : HasValue (of_bits f b) false (q * 2 ^ k) (2 ^ low f)
        v = subst (λ (x : ℕ). HasValue (of_bits f b) false (digits_of x (b / x) (b % x) * 2 ^ (b / x - 1)) (2 ^ low f)) hid_is (positive_value f b P.under)

    -- the rounded significand
    quarter_ge : 2 ^ h ≤ m
    quarter_ge = le_trans (half (2 ^ h) R (min rest 1) (lt_of_lt_of_le' full)) (nearest-ge ((2 * R + min rest 1) / 4) (compare ((2 * R + min rest 1) % 4 * 2) 4))
      where
        lt_of_lt_of_le' : 2 ^ (h + 1) ≤ R → 2 * 2 ^ h ≤ R
        lt_of_lt_of_le' u = le_trans (le_of_eq (sym (ap (λ (x : ℕ). 2 ^ x) (add-one h) ∙ pow-succ' 2 h))) u

        half : (H R s : ℕ) → 2 * H ≤ R → H ≤ (2 * R + s) / 4
        half H R s u = omega arith

    pub quarter_le : m ≤ 2 ^ (h + 1)
    quarter_le = le_trans (nearest-le ((2 * R + min rest 1) / 4) (compare ((2 * R + min rest 1) % 4 * 2) 4)) (half (2 ^ (h + 1)) R (min rest 1) (omega arith) (lt_of_lt_of_le short (le_of_eq (pow-succ' 2 (h + 1)))))
      where
        half : (H R s : ℕ) → s ≤ 1 → R < 2 * H → suc ((2 * R + s) / 4) ≤ H
        half H R s a u = omega arith

    pub J_is : suc J ≡ (E + 1) / 2 + 31 - h
    J_is = omega (arith, h_lt, l_ge, z_lt)

    fine : m * 2 ^ suc J < overflow f
    fine =
        let w : h + 1 + suc J < low f + suc (emax f) = omega (arith, h_lt, l_ge, z_lt, sizes f, field_lt) in
        lt_of_le_of_lt (mul-le-mul_right (2 ^ suc J) quarter_le) (lt_of_le_of_lt (le_of_eq (sym (pow-add 2 (h + 1) (suc J)))) (pow-lt w))

    pub pattern : ((E + 1) / 2 + 31 - h) * 2 ^ h + m ≡ to_bits f (root f (of_bits f b))
    pattern =
        sym
        (ap (to_bits f) is_units
        ∙ encoded f false m (suc J) (subst (λ (x : ℕ). m ≤ 2 ^ x) (sym P.digits) quarter_le) (inr (subst (λ (x : ℕ). x ≤ m) (sym hid_is) quarter_ge)) fine
        ∙ ap (λ (x : ℕ). 0 + suc J * x + m) hid_is
        ∙ ap (λ (x : ℕ). 0 + x * 2 ^ h + m) J_is
        ∙ ap (λ (x : ℕ). x + m) (zero-add (((E + 1) / 2 + 31 - h) * 2 ^ h)))

-- ---- what the proof of `root_bits` cites: d and j are the digits and the place that it took out of b
abbrev pub Claim : Format → ℕ → ℕ → ℕ → ℕ → ℕ → Type 0
Claim f b h l d j =
    (count_leading_zeros 64 d < 64)
    × (j ≤ 2046)
    × (2 ^ 62 ≤ d * 2 ^ count_leading_zeros 64 d % 2 ^ 64 / 2 ^ bit_and (j + l - count_leading_zeros 64 d) 1)
    × ((R rest s : ℕ) → R * R + rest ≡ d * 2 ^ count_leading_zeros 64 d % 2 ^ 64 / 2 ^ bit_and (j + l - count_leading_zeros 64 d) 1 * 4 ^ (h + 2) / 2 ^ 64 → rest ≤ 2 * R → s ≡ min rest 1
    → (R < 2 ^ 54)
    × (closest (2 * R + s) 4 ≤ 2 ^ 53)
    × (((j + l - count_leading_zeros 64 d + 1) / 2 + 31 - h) * 2 ^ h < 2 ^ 63)
    × (((j + l - count_leading_zeros 64 d + 1) / 2 + 31 - h) * 2 ^ h + closest (2 * R + s) 4 ≡ to_bits f (root f (of_bits f b))))

pub claim : (f : Format) (b h l : ℕ) → Positive f b h l → (d j : ℕ) → d ≡ digits_of (2 ^ h) (b / 2 ^ h) (b % 2 ^ h) → j ≡ b / 2 ^ h - 1 → Claim f b h l d j
claim f b h l P d j x y =
    subst (λ (d : ℕ). Claim f b h l d j) (sym x)
    (subst (λ (j : ℕ). Claim f b h l (q f b h l P) j) (sym y) (
      z_lt f b h l P,
      k_le f b h l P,
      start_ge f b h l P,
      λ R rest s e le u.
          let e' : R * R + rest ≡ q f b h l P * 2 ^ z f b h l P / 2 ^ (E f b h l P % 2) * 4 ^ (h + 1 + 1) / 2 ^ 64 =
          e ∙ ap (λ (x : ℕ). x * 4 ^ (h + 2) / 2 ^ 64) (start_is f b h l P) ∙ ap (λ (x : ℕ). q f b h l P * 2 ^ z f b h l P / 2 ^ (E f b h l P % 2) * 4 ^ x / 2 ^ 64) (two_more h) in
          let w : suc (h + 1) ≤ 54 = omega (arith, h_lt f b h l P) in
          let w' : h + 1 ≤ 53 = omega (arith, h_lt f b h l P) in
          subst (λ (s : ℕ). (R < 2 ^ 54) × (closest (2 * R + s) 4 ≤ 2 ^ 53) × (((E f b h l P + 1) / 2 + 31 - h) * 2 ^ h < 2 ^ 63) × (((E f b h l P + 1) / 2 + 31 - h) * 2 ^ h + closest (2 * R + s) 4 ≡ to_bits f (root f (of_bits f b)))) (sym u) (
            lt_of_lt_of_le (short f b h l P R rest e' le) (pow_mono w),
            le_trans (quarter_le f b h l P R rest e' le) (pow_mono w'),
            wide h ((E f b h l P + 1) / 2 + 31 - h) (h_lt f b h l P) (omega (arith, k_le f b h l P, l_le f b h l P)),
            pattern f b h l P R rest e' le,
          ),
    ))
  where
    two_more : (h : ℕ) → h + 2 ≡ h + 1 + 1
    two_more h = omega arith

    wide : (h x : ℕ) → h < 53 → x < 2048 → x * 2 ^ h < 2 ^ 63
    wide h x k u = let w : 11 + h ≤ 63 = omega arith in lt_of_lt_of_le (shl_lt 11 h u) (pow_mono w)
