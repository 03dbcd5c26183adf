-- The pattern that `narrow_bits` makes is that of the narrowed float: a float rounded to another format, from its digits and its place. Assumes nothing.
use Rattle.std.proofs.Common.{◌≡◌, ℕ, zero, suc, ◌+◌, ◌-◌, ◌*◌, ◌/◌, ◌%◌, ◌^◌, ◌<◌, ◌≤◌, min, Bool, true, false, cond, not, T, ltb, sym, refl, ap, ◌∙◌, subst, inl, inr, le_trans, le_of_eq, le_refl, lt_of_lt_of_le, le_of_suc-le-suc, le-add_right, lt_of_le_of_lt, add_assoc, lt_irrefl, mul-le-mul_right, mod-lt, mod-eq_of_lt, lt-suc_self, suc-mul, div-lt_iff_lt-mul, add-mul, mul-le-mul, mul-lt-mul_of_pos_right, mul-pos, lt_of_not-le, le-div_iff_mul-le, div-mul-le_self, le_of_mul-le-mul_right, arith, ltb→lt, nltb→le, pow_pos, pow_mono, pow-add, shr_lt, ltb-false}
use Prim.Native.Nat.{compare, Ordering}
use native.Mathlib.Nat.{le_of_mul-le-mul_left, min-eq_left, min-eq_right, div-eq_of_lt}
use lib.Arith.{le→nltb}
use lib.Pow.{pow-lt}
use lib.Ieee.{Float, nan, inf, fin, Format, binary32, binary64, prec, emax, low, up, down, size, nearest, units, odd, round, hid, ones, top, to_bits, of_bits, nan_bits, is_nan, fits, ne, div}
use lib.Ieee.Fits.{two, round_is, down_pos, nearest-le, inf-fits, round-fits}
use lib.Ieee.Exact.{HasValue}
use lib.Ieee.Scale.{overflow, round_same}
use lib.Ieee.Bits.{cond_no, is_false, of_bits-to_bits, to_bits-lt, nan_bits_is, nan_bits_above}
use lib.Ieee.Nearest.{closest, closest_same, nearest-ge}
use Rattle.rounding.specs.Narrow.{narrowed}
use Rattle.rounding.specs.Pattern.{digits_of}
use Rattle.rounding.proofs.Place.{Full, dropped, compare_is}
use Rattle.rounding.proofs.RootBits.{sizes, digits_lt}
use Rattle.rounding.proofs.Encoding.{encoded, signed_value}
use Rattle.rounding.proofs.Align.{joined}
use Rattle.rounding.proofs.Outer.{made_nan, units_plain}
use Rattle.rounding.proofs.Half.{half_pow}
use Rattle.rounding.proofs.NanTest.{at_nan}

-- ---- `round`, for the c and k that the fraction's whole part shows
pub round_at : (f : Format) (s : Bool) (num den c k : ℕ) → 0 < den → c * 2 ^ k * den ≤ num * 2 ^ low f → num * 2 ^ low f < suc c * 2 ^ k * den → c < 2 ^ prec f → Full (prec f) c k
    → round f s num den ≡ units f s (closest (num * 2 ^ low f) (den * 2 ^ k)) k
round_at f s num den c k D lo hi C F =
    let n = num * 2 ^ low f in
    round_is f s num den
    ∙ ap (λ (j : ℕ). units f s (closest n (den * 2 ^ j)) j) (dropped (prec f) (n / den) c k (two f) ((le-div_iff_mul-le D).1 lo) ((div-lt_iff_lt-mul D).1 hi) C F)

-- ---- the pattern, an infinity's from `overflow` on
over : (f : Format) (q k : ℕ) → q ≤ 2 ^ prec f → Full (prec f) q k → overflow f ≤ q * 2 ^ k → ones f * hid f ≤ k * hid f + q
over f q k Q F h = go (ltb (suc k) (ones f)) (ltb→lt (suc k) (ones f)) (nltb→le (suc k) (ones f))
  where
    -- k is ones - 1 at least, so that q is full
    at_top : ones f ≤ suc k → Full (prec f) q k → ones f * hid f ≤ k * hid f + q
    at_top u (inl z) = absurd (no (emax f) k u z (omega (arith, sizes f)))
      where
        no : (e k : ℕ) → 2 * e + 1 ≤ suc k → k ≡ 0 → 0 < e → ⊥
        no e k u z p = omega arith
    at_top u (inr g) = le_trans (mul-le-mul_right (hid f) u) (le_trans (le_of_eq (suc-mul k (hid f))) (omega arith))

    -- else q is 2 ^ prec and k is ones - 2
    under : suc k < ones f → ones f * hid f ≤ k * hid f + q
    under u =
        let p = prec f in
        let e : low f + suc (emax f) ≡ p + (ones f - 2) = omega (arith, sizes f) in
        let a : 2 ^ p * 2 ^ (ones f - 2) ≤ q * 2 ^ k = le_trans (le_of_eq (sym (pow-add 2 p (ones f - 2)) ∙ ap (λ (x : ℕ). 2 ^ x) (sym e))) h in
        let w : k ≤ ones f - 2 = omega arith in
        let b : 2 ^ p ≤ q = le_of_mul-le-mul_right (le_trans (mul-le-mul (le_refl (2 ^ p)) (pow_mono w)) a) (pow_pos k) in
        let d : 2 ^ (ones f - 2) ≤ 2 ^ k = le_of_mul-le-mul_left (le_trans a (mul-le-mul_right (2 ^ k) Q)) (pow_pos p) in
        let g : ones f - 2 ≤ k = pow_le_back (ones f - 2) k d in
        let m : ones f * hid f ≤ (k + 2) * hid f = mul-le-mul_right (hid f) (omega arith) in
        let n : (k + 2) * hid f ≡ k * hid f + 2 * hid f = add-mul k 2 (hid f) in
        let r : 2 ^ p ≡ 2 * hid f = half_pow p (two f) in
        omega arith
      where
        pow_le_back : (a l : ℕ) → 2 ^ a ≤ 2 ^ l → a ≤ l
        pow_le_back a l h = le_of_suc-le-suc (lt_of_not-le (λ (g : suc l ≤ a). lt_irrefl (2 ^ l) (lt_of_lt_of_le (pow-lt g) h)))

    go : (b : Bool) → (T b → suc k < ones f) → (T (not b) → ones f ≤ suc k) → ones f * hid f ≤ k * hid f + q
    go true x y = under (x tt)
    go false x y = at_top (y tt) F

within : (f : Format) (q k : ℕ) → q ≤ 2 ^ prec f → Full (prec f) q k → q * 2 ^ k < overflow f → k * hid f + q ≤ ones f * hid f
within f q k Q F h = go (ltb (suc k) (ones f)) (ltb→lt (suc k) (ones f)) (nltb→le (suc k) (ones f))
  where
    at_top : ones f ≤ suc k → Full (prec f) q k → ⊥
    at_top u (inl z) = no (emax f) k u z (omega (arith, sizes f))
      where
        no : (e k : ℕ) → 2 * e + 1 ≤ suc k → k ≡ 0 → 0 < e → ⊥
        no e k u z p = omega arith
    at_top u (inr g) =
        let w : low f + suc (emax f) ≤ prec f - 1 + k = omega (arith, sizes f) in
        lt_irrefl (overflow f) (lt_of_le_of_lt (le_trans (pow_mono w) (le_trans (le_of_eq (pow-add 2 (prec f - 1) k)) (mul-le-mul_right (2 ^ k) g))) h)

    under : suc k < ones f → k * hid f + q ≤ ones f * hid f
    under u =
        let m : (k + 2) * hid f ≤ ones f * hid f = mul-le-mul_right (hid f) (omega arith) in
        let n : (k + 2) * hid f ≡ k * hid f + 2 * hid f = add-mul k 2 (hid f) in
        let r : 2 ^ prec f ≡ 2 * hid f = half_pow (prec f) (two f) in
        omega arith

    go : (b : Bool) → (T b → suc k < ones f) → (T (not b) → ones f ≤ suc k) → k * hid f + q ≤ ones f * hid f
    go true x y = under (x tt)
    go false x y = absurd (at_top (y tt) F)

inf_bits : (f : Format) (s : Bool) → to_bits f (inf s) ≡ cond s (top f) 0 + ones f * hid f
unfolding to_bits
inf_bits f s = refl

pub over_is : (f : Format) (s : Bool) (q k : ℕ) → overflow f ≤ q * 2 ^ k → units f s q k ≡ inf s
unfolding units
over_is f s q k h = cond_no (ltb (q * 2 ^ k) (overflow f)) (odd (suc (prec f)) s q k (low f)) (inf s) (le→nltb (q * 2 ^ k) (overflow f) h)

pub capped : (f : Format) (s : Bool) (q k : ℕ) → q ≤ 2 ^ prec f → Full (prec f) q k → to_bits f (units f s q k) ≡ cond s (top f) 0 + min (k * hid f + q) (ones f * hid f)
capped f s q k Q F = go (ltb (q * 2 ^ k) (overflow f)) (ltb→lt (q * 2 ^ k) (overflow f)) (nltb→le (q * 2 ^ k) (overflow f))
  where
    go : (b : Bool) → (T b → q * 2 ^ k < overflow f) → (T (not b) → overflow f ≤ q * 2 ^ k) → to_bits f (units f s q k) ≡ cond s (top f) 0 + min (k * hid f + q) (ones f * hid f)
    go true x y = encoded f s q k Q F (x tt) ∙ add_assoc (cond s (top f) 0) (k * hid f) q ∙ ap (λ (z : ℕ). cond s (top f) 0 + z) (sym (min-eq_left (within f q k Q F (x tt))))
    go false x y = ap (to_bits f) (over_is f s q k (y tt)) ∙ inf_bits f s ∙ ap (λ (z : ℕ). cond s (top f) 0 + z) (sym (min-eq_right (over f q k Q F (y tt))))

-- ---- q * 2 ^ k over 2 ^ L, in a format that drops D of q's digits and puts the rest at the place K
module _ (f : Format) (s : Bool) (q k L D K : ℕ) (e : k + low f + D ≡ L + K) (Q : q < 2 ^ (prec f + D)) (F : Full (prec f) (q / 2 ^ D) K) where
  abbrev c : ℕ
  c = q / 2 ^ D

  c_lt : c < 2 ^ prec f
  c_lt = shr_lt (prec f) D Q

  n_is : q * 2 ^ k * 2 ^ low f ≡ q * 2 ^ (k + low f)
  n_is = joined q k (low f)

  at : (x : ℕ) → x * 2 ^ K * 2 ^ L ≡ x * 2 ^ D * 2 ^ (k + low f)
  at x = joined x K L ∙ ap (λ (y : ℕ). x * 2 ^ y) (order k (low f) L D K e) ∙ sym (joined x D (k + low f))
    where
      order : (k l L D K : ℕ) → k + l + D ≡ L + K → K + L ≡ D + (k + l)
      order k l L D K e = omega arith

  pub moved : round f s (q * 2 ^ k) (2 ^ L) ≡ units f s (closest q (2 ^ D)) K
  moved =
      round_at f s (q * 2 ^ k) (2 ^ L) c K (pow_pos L)
      (le_trans (le_of_eq (at c)) (le_trans (mul-le-mul_right (2 ^ (k + low f)) (div-mul-le_self q (2 ^ D))) (le_of_eq (sym n_is))))
      (lt_of_le_of_lt (le_of_eq n_is) (lt_of_lt_of_le (mul-lt-mul_of_pos_right ((div-lt_iff_lt-mul (pow_pos D)).0 (lt-suc_self c)) (pow_pos (k + low f))) (le_of_eq (sym (at (suc c))))))
      c_lt F
      ∙ ap (λ (x : ℕ). units f s x K)
      (closest_same (q * 2 ^ k * 2 ^ low f) (2 ^ L * 2 ^ K) q (2 ^ D) (mul-pos (pow_pos L) (pow_pos K)) (pow_pos D)
      (ap (λ (x : ℕ). x * 2 ^ D) n_is ∙ joined q (k + low f) D ∙ ap (λ (x : ℕ). q * 2 ^ x) e ∙ ap (λ (x : ℕ). q * x) (pow-add 2 L K)))

  pub moved_bits : to_bits f (round f s (q * 2 ^ k) (2 ^ L)) ≡ cond s (top f) 0 + min (K * hid f + closest q (2 ^ D)) (ones f * hid f)
  moved_bits = ap (to_bits f) moved ∙ capped f s (closest q (2 ^ D)) K (le_trans (nearest-le c (compare (q % 2 ^ D * 2) (2 ^ D))) c_lt) (full F)
    where
      full : Full (prec f) c K → Full (prec f) (closest q (2 ^ D)) K
      full (inl z) = inl z
      full (inr g) = inr (le_trans g (nearest-ge c (compare (q % 2 ^ D * 2) (2 ^ D))))

pub closest_none : (q b : ℕ) → q * 2 < b → closest q b ≡ 0
closest_none q b h =
    let l : q < b = omega arith in
    ap (λ (x : ℕ). nearest x (compare (q % b * 2) b)) (div-eq_of_lt l)
    ∙ ap (λ (x : ℕ). nearest 0 (compare (x * 2) b)) (mod-eq_of_lt l)
    ∙ ap (λ (o : Ordering). nearest 0 o) (compare_is Ordering.lt (q * 2) b h)

-- ---- `narrowed`
pub narrowed_value : (x : Float) (s : Bool) (a : ℕ) → HasValue x s a (2 ^ 1074) → narrowed x ≡ round binary32 s a (2 ^ 1074)
unfolding narrowed
narrowed_value nan s a v = absurd v
narrowed_value (inf t) s a v = absurd v
narrowed_value (fin t m e) s a v = ap (λ (y : Bool). round binary32 y (m * up e) (down e)) v.0 ∙ round_same binary32 s (m * up e) (down e) a (2 ^ 1074) (down_pos e) (pow_pos 1074) v.1

-- ---- what the proof of `narrow_bits` cites
pub inf_narrowed : (s : Bool) → cond s (2 ^ 31) 0 + 0x7f80_0000 ≡ to_bits binary32 (narrowed (of_bits binary64 (cond s (2 ^ 63) 0 + 0x7ff0_0000_0000_0000)))
unfolding of_bits to_bits narrowed
inf_narrowed true = refl
inf_narrowed false = refl

-- a is the pattern, without its sign, of a number, and d and j are the digits and the place that were taken out of it
module _ (a : ℕ) (A : a < 0x7ff0_0000_0000_0000) (d j : ℕ) (x : d ≡ digits_of (2 ^ 52) (a / 2 ^ 52) (a % 2 ^ 52)) (y : j ≡ a / 2 ^ 52 - 1) where
  abbrev Bits : ℕ → Type 0
  Bits r = (s : Bool) → cond s (2 ^ 31) 0 + r ≡ to_bits binary32 (narrowed (of_bits binary64 (cond s (2 ^ 63) 0 + a)))

  value : (s : Bool) → narrowed (of_bits binary64 (cond s (2 ^ 63) 0 + a)) ≡ round binary32 s (d * 2 ^ j) (2 ^ 1074)
  value s =
      narrowed_value (of_bits binary64 (cond s (2 ^ 63) 0 + a)) s (digits_of (2 ^ 52) (a / 2 ^ 52) (a % 2 ^ 52) * 2 ^ (a / 2 ^ 52 - 1)) (signed_value binary64 s a A)
      ∙ ap (λ (z : ℕ). round binary32 s (z * 2 ^ (a / 2 ^ 52 - 1)) (2 ^ 1074)) (sym x)
      ∙ ap (λ (z : ℕ). round binary32 s (d * 2 ^ z) (2 ^ 1074)) (sym y)

  pub d_lt : d < 2 ^ 53
  d_lt = subst (λ (z : ℕ). z < 2 ^ 53) (sym x) (digits_lt (2 ^ 52) (a / 2 ^ 52) (a % 2 ^ 52) (mod-lt a (pow_pos 52)))

  pub j_lt : j < 2046
  j_lt = omega arith

  pub low_bits : j < 896 → Bits (closest d (2 ^ (925 - j)))
  low_bits h s =
      let p : 53 ≤ 24 + (925 - j) = omega arith in
      let m = closest d (2 ^ (925 - j)) in
      let b : m ≤ 2 ^ 24 = le_trans (nearest-le (d / 2 ^ (925 - j)) (compare (d % 2 ^ (925 - j) * 2) (2 ^ (925 - j)))) (shr_lt 24 (925 - j) (lt_of_lt_of_le d_lt (pow_mono p))) in
      sym
      (ap (to_bits binary32) (value s)
      ∙ moved_bits binary32 s d j 1074 (925 - j) 0 (omega arith) (lt_of_lt_of_le d_lt (pow_mono p)) (inl refl)
      ∙ ap (λ (z : ℕ). cond s (2 ^ 31) 0 + z) (small m b))
    where
      small : (m : ℕ) → m ≤ 2 ^ 24 → min (0 * 2 ^ 23 + m) (255 * 2 ^ 23) ≡ m
      small m b = omega arith

  lead : (x t : ℕ) → 0 < x → 2 ^ 52 ≤ digits_of (2 ^ 52) x t
  lead zero t h = absurd (omega arith)
  lead (suc x) t h = le-add_right (2 ^ 52) t

  pub high_bits : 896 ≤ j → Bits (min ((j - 896) * 2 ^ 23 + closest d (2 ^ 29)) 0x7f80_0000)
  high_bits h s =
      let l : 2 ^ 52 ≤ d = subst (λ (z : ℕ). 2 ^ 52 ≤ z) (sym x) (lead (a / 2 ^ 52) (a % 2 ^ 52) (omega arith)) in
      sym
      (ap (to_bits binary32) (value s)
      ∙ moved_bits binary32 s d j 1074 29 (j - 896) (omega arith) d_lt (inr ((le-div_iff_mul-le (pow_pos 29)).1 l)))

  pub none_bits : j < 896 → 64 ≤ 925 - j → Bits 0
  none_bits h u s =
      let l : d * 2 < 2 ^ (925 - j) = lt_of_lt_of_le (omega (arith, d_lt)) (pow_mono u) in
      ap (λ (z : ℕ). cond s (2 ^ 31) 0 + z) (sym (closest_none d (2 ^ (925 - j)) l)) ∙ low_bits h s

  -- what is rounded has at most 25 digits
  pub kept_le : (D : ℕ) → 29 ≤ D → closest d (2 ^ D) ≤ 2 ^ 24
  kept_le D h =
      let p : 53 ≤ 24 + D = omega arith in
      le_trans (nearest-le (d / 2 ^ D) (compare (d % 2 ^ D * 2) (2 ^ D))) (shr_lt 24 D (lt_of_lt_of_le d_lt (pow_mono p)))

-- ---- what the proof of `narrow` cites
pub narrowed_nan : (x : Float) → ne x x ≡ true → div binary32 (of_bits binary32 0) (of_bits binary32 0) ≡ narrowed x
unfolding narrowed
narrowed_nan x h = made_nan binary32 ∙ sym (ap narrowed (at_nan x h))

round_plain : (f : Format) (s : Bool) (num den : ℕ) → T (not (is_nan (round f s num den)))
round_plain f s num den =
    let n = num * 2 ^ low f in
    let k = size (n / den) - prec f in
    subst (λ (v : Float). T (not (is_nan v))) (sym (round_is f s num den)) (units_plain f s (closest n (den * 2 ^ k)) k)

narrowed_fits : (x : Float) → T (not (is_nan x)) → T (fits binary32 (narrowed x)) × T (not (is_nan (narrowed x)))
unfolding narrowed is_nan
narrowed_fits nan n = absurd n
narrowed_fits (inf s) n = (inf-fits binary32 s, tt)
narrowed_fits (fin s m e) n = (round-fits binary32 s (m * up e) (down e), round_plain binary32 s (m * up e) (down e))

module _ (x : Float) (F : T (fits binary64 x)) (n : T (not (is_nan x))) where
  no_nan_bits : ltb 0x7ff0_0000_0000_0000 (to_bits binary64 x % 2 ^ 63) ≡ false
  no_nan_bits = sym (nan_bits_above binary64 (to_bits binary64 x)) ∙ nan_bits_is binary64 (to_bits binary64 x) ∙ ap is_nan (of_bits-to_bits binary64 x F) ∙ is_false (is_nan x) n

  pub plain_bits : to_bits binary64 x % 2 ^ 63 ≤ 0x7ff0_0000_0000_0000
  plain_bits = ltb-false 0x7ff0_0000_0000_0000 (to_bits binary64 x % 2 ^ 63) no_nan_bits

  pub wide_bits : to_bits binary64 x < 2 ^ 64
  wide_bits = to_bits-lt binary64 x F

  module _ (r : ℕ) (e : r ≡ to_bits binary32 (narrowed x)) where
    pub read : of_bits binary32 r ≡ narrowed x
    read = ap (of_bits binary32) e ∙ of_bits-to_bits binary32 (narrowed x) (narrowed_fits x n).0

    pub plain : T (not (nan_bits binary32 r))
    plain = subst (λ (y : Bool). T (not y)) (sym (nan_bits_is binary32 r ∙ ap is_nan read)) (narrowed_fits x n).1
