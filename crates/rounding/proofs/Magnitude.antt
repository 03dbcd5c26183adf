-- A float that is no NaN, by its sign and its size in units, an infinity counting as 2 ^ (emax + 1): its bit pattern and its comparisons follow from
-- these two, and a larger size has a larger pattern. Over every format. Assumes nothing.
use Rattle.std.proofs.Common.{◌≡◌, ℕ, suc, ◌+◌, ◌-◌, ◌*◌, ◌/◌, ◌^◌, ◌<◌, ◌≤◌, Bool, true, false, cond, not, ◌&&◌, ◌||◌, T, eqb, ltb, leb, ◌⊎◌, sym, refl, ap, ◌∙◌, subst, inl, inr, le_trans, le_of_eq, le_refl, lt_of_lt_of_le, le-add_right, lt_of_le_of_lt, le_of_lt, add_assoc, mul-le-mul_right, mul_assoc, lt-suc_self, suc-mul, mul_comm, add-mul, lt_of_mul-lt-mul_right, eq-or-lt_of_le, mul-lt-mul_of_pos_right, mul-pos, one-mul, zero-mul, mul_right_comm, arith, pow_pos, le-ltb, lt-ltb, eq-eqb, ne_eqb, le-leb, leb-false, leb-true}
use mathlib.Core.Bool.{beq}
use Prim.Native.Nat.{compare, Ordering}
use borrow.Author.Tests.{lt-leb}
use lib.Dec.{is_le, compare_is_eq}
use lib.Pow.{pow-lt}
use lib.Ieee.{Float, nan, inf, fin, Format, binary32, binary64, prec, emax, low, up, down, size, fits, is_nan, hid, ones, top, to_bits, lt, eq, below, level}
use lib.Ieee.Digits.{size-lt, size-le}
use lib.Ieee.Fits.{two, down_pos, kept-lt}
use lib.Ieee.Exact.{HasValue}
use lib.Ieee.Scale.{overflow}
use Rattle.rounding.specs.Methods.{negative}
use Rattle.rounding.specs.Rounded.{Holds}
use Rattle.rounding.proofs.Place.{Full, compare_scaled}
use Rattle.rounding.proofs.Encoding.{bits_of}
use Rattle.rounding.proofs.Rounding.{full_of}
use Rattle.rounding.proofs.Values.{value_held, leading}
use Rattle.rounding.proofs.Half.{half_pow}

-- ---- the size: x has the sign s and is a units
abbrev pub Sized : Format → Float → Bool → ℕ → Type 0
Sized f nan s a = ⊥
Sized f (inf t) s a = (t ≡ s) × (a ≡ overflow f)
Sized f (fin t m e) s a = HasValue (fin t m e) s a (2 ^ low f) × (a < overflow f)

overflow_held : (f : Format) → Holds (prec f) (overflow f)
overflow_held f = let p : 0 < prec f = omega (arith, two f) in record { q = 1; k = low f + suc (emax f); few = pow-lt p; is = sym (one-mul (overflow f)) }

pub sized : (f : Format) (x : Float) → T (fits f x) → T (not (is_nan x)) → (a : ℕ) × Holds (prec f) a × Sized f x (negative x) a
unfolding is_nan negative
sized f nan F n = absurd n
sized f (inf s) F n = (overflow f, overflow_held f, (refl, refl))
sized f (fin s m e) F n = let v = value_held f s m e F in (v.0, v.1, (v.3, v.2))

pub sized_le : (f : Format) (x : Float) (s : Bool) (a : ℕ) → Sized f x s a → a ≤ overflow f
sized_le f nan s a z = absurd z
sized_le f (inf t) s a z = le_of_eq z.1
sized_le f (fin t m e) s a z = le_of_lt z.1

-- ---- the pattern of a units, without the sign
abbrev pub pattern : ℕ → ℕ → ℕ
pattern p a = (size a - p) * 2 ^ (p - 1) + a / 2 ^ (size a - p)

pub pattern_lt : (p a b : ℕ) → 2 ≤ p → Holds p a → Holds p b → a < b → pattern p a < pattern p b
pattern_lt p a b P A B h = go (eq-or-lt_of_le fewer)
  where
    fewer : size a - p ≤ size b - p
    fewer = omega (arith, size-le a (size b) (lt_of_lt_of_le h (le_of_lt (size-lt b))))

    go : (size a - p ≡ size b - p) ⊎ (size a - p < size b - p) → pattern p a < pattern p b
    go (inl e) =
        let k = size b - p in
        let x : a / 2 ^ k * 2 ^ k ≡ a = subst (λ (j : ℕ). a / 2 ^ j * 2 ^ j ≡ a) e (leading p a P A) in
        let y : b / 2 ^ k * 2 ^ k ≡ b = leading p b P B in
        let l : a / 2 ^ k < b / 2 ^ k = lt_of_mul-lt-mul_right (2 ^ k) (lt_of_le_of_lt (le_of_eq x) (lt_of_lt_of_le h (le_of_eq (sym y)))) in
        subst (λ (j : ℕ). j * 2 ^ (p - 1) + a / 2 ^ j < k * 2 ^ (p - 1) + b / 2 ^ k) (sym e) (omega arith)
    go (inr l) = more (full_of p b P)
      where
        more : Full p (b / 2 ^ (size b - p)) (size b - p) → pattern p a < pattern p b
        more (inl z) = absurd (omega arith)
        more (inr g) =
            let u : suc (size a - p) * 2 ^ (p - 1) ≤ (size b - p) * 2 ^ (p - 1) = mul-le-mul_right (2 ^ (p - 1)) l in
            let v : suc (size a - p) * 2 ^ (p - 1) ≡ (size a - p) * 2 ^ (p - 1) + 2 ^ (p - 1) = suc-mul (size a - p) (2 ^ (p - 1)) in
            omega (arith, kept-lt p a, half_pow p P)

pattern_top : (f : Format) → pattern (prec f) (overflow f) ≡ ones f * hid f
unfolding size
pattern_top binary32 = refl
pattern_top binary64 = refl

pub sized_bits : (f : Format) (x : Float) (s : Bool) (a : ℕ) → Sized f x s a → to_bits f x ≡ cond s (top f) 0 + pattern (prec f) a
unfolding to_bits
sized_bits f nan s a z = absurd z
sized_bits f (inf t) s a z = ap (λ (y : Bool). cond y (top f) 0 + ones f * hid f) z.0 ∙ ap (λ (n : ℕ). cond s (top f) 0 + n) (sym (ap (pattern (prec f)) z.1 ∙ pattern_top f))
sized_bits f (fin t m e) s a z = bits_of f (fin t m e) s a z.0 ∙ add_assoc (cond s (top f) 0) ((size a - prec f) * hid f) (a / 2 ^ (size a - prec f))

-- an infinity's is the largest
pub pattern_le : (f : Format) (a : ℕ) → Holds (prec f) a → a ≤ overflow f → pattern (prec f) a ≤ ones f * hid f
pattern_le f a H h = go (eq-or-lt_of_le h)
  where
    go : (a ≡ overflow f) ⊎ (a < overflow f) → pattern (prec f) a ≤ ones f * hid f
    go (inl e) = le_of_eq (ap (pattern (prec f)) e ∙ pattern_top f)
    go (inr l) = le_trans (le_of_lt (pattern_lt (prec f) a (overflow f) (two f) H (overflow_held f) l)) (le_of_eq (pattern_top f))

-- ---- comparisons
ltb_is : (a b : ℕ) → ltb a b ≡ not (leb b a)
ltb_is a b = go (leb b a) refl
  where
    go : (t : Bool) → leb b a ≡ t → ltb a b ≡ not t
    go true e = le-ltb a b (leb-true b a e)
    go false e = lt-ltb a b (leb-false b a e)

-- numbers that are in a fixed ratio to others compare as those do
module _ (L K : ℕ) (l : 0 < L) (k : 0 < K) where
  same : (x y a b : ℕ) → x * L ≡ a * K → y * L ≡ b * K → compare x y ≡ compare a b
  same x y a b p q = sym (compare_scaled x y L l) ∙ ap (λ (n : ℕ). compare n (y * L)) p ∙ ap (λ (n : ℕ). compare (a * K) n) q ∙ compare_scaled a b K k

  none : 0 * L ≡ 0 * K
  none = zero-mul L ∙ sym (zero-mul K)

  ltb_same : (x y a b : ℕ) → x * L ≡ a * K → y * L ≡ b * K → ltb x y ≡ ltb a b
  ltb_same x y a b p q = ltb_is x y ∙ ap (λ (o : Ordering). not (is_le o)) (same y x b a q p) ∙ sym (ltb_is a b)

  below_same : (s t : Bool) (x y a b : ℕ) → x * L ≡ a * K → y * L ≡ b * K → below s x t y ≡ below s a t b
  below_same false false x y a b p q = ltb_same x y a b p q
  below_same false true x y a b p q = refl
  below_same true false x y a b p q = ltb_same 0 (x + y) 0 (a + b) none (add-mul x y L ∙ ap (λ (n : ℕ). n + y * L) p ∙ ap (λ (n : ℕ). a * K + n) q ∙ sym (add-mul a b K))
  below_same true true x y a b p q = ltb_same y x b a q p

  level_same : (s t : Bool) (x y a b : ℕ) → x * L ≡ a * K → y * L ≡ b * K → level s x t y ≡ level s a t b
  level_same s t x y a b p q = ap (λ (o : Ordering). compare_is_eq o && (beq s t || eqb x 0)) (same x y a b p q) ∙ ap (λ (o : Ordering). eqb a b && (beq s t || compare_is_eq o)) (same x 0 a 0 p none)

-- an infinity is past every size
module _ (O : ℕ) (P : 0 < O) where
  below_both : (s t : Bool) → s && not t ≡ below s O t O
  below_both false false = sym (le-ltb O O (le_refl O))
  below_both false true = refl
  below_both true false = sym (lt-ltb 0 (O + O) (omega arith))
  below_both true true = sym (le-ltb O O (le_refl O))

  below_first : (s t : Bool) (b : ℕ) → b < O → s ≡ below s O t b
  below_first false false b h = sym (le-ltb O b (le_of_lt h))
  below_first false true b h = refl
  below_first true false b h = sym (lt-ltb 0 (O + b) (omega arith))
  below_first true true b h = sym (lt-ltb b O h)

  below_second : (s t : Bool) (a : ℕ) → a < O → not t ≡ below s a t O
  below_second false false a h = sym (lt-ltb a O h)
  below_second false true a h = refl
  below_second true false a h = sym (lt-ltb 0 (a + O) (omega arith))
  below_second true true a h = sym (le-ltb O a (le_of_lt h))

  level_both : (s t : Bool) → beq s t ≡ level s O t O
  level_both s t = rw (eq-eqb O O refl, ne_eqb O 0 (λ e. omega arith)) (plain (beq s t))
    where
      plain : (u : Bool) → u ≡ true && (u || false)
      plain true = refl
      plain false = refl

  level_first : (s t : Bool) (b : ℕ) → b < O → false ≡ level s O t b
  level_first s t b h = rw (ne_eqb O b (λ e. omega arith))

  level_second : (s t : Bool) (a : ℕ) → a < O → false ≡ level s a t O
  level_second s t a h = rw (ne_eqb a O (λ e. omega arith))

-- two finite numbers, over the product of their denominators
cross : (x a L de dd : ℕ) → x * L ≡ a * de → x * dd * L ≡ a * (de * dd)
cross x a L de dd p = mul_right_comm x dd L ∙ ap (λ (n : ℕ). n * dd) p ∙ mul_assoc a de dd

pub sized_lt : (f : Format) (x y : Float) (s t : Bool) (a b : ℕ) → Sized f x s a → Sized f y t b → lt x y ≡ below s a t b
unfolding lt
sized_lt f nan y s t a b z w = absurd z
sized_lt f (inf i) nan s t a b z w = absurd w
sized_lt f (inf i) (inf j) s t a b z w = rw (z.0, w.0, z.1, w.1) (below_both (overflow f) (pow_pos (low f + suc (emax f))) s t)
sized_lt f (inf i) (fin j n d) s t a b z w = rw (z.0, z.1) (below_first (overflow f) (pow_pos (low f + suc (emax f))) s t b w.1)
sized_lt f (fin i m e) nan s t a b z w = absurd w
sized_lt f (fin i m e) (inf j) s t a b z w = rw (w.0, w.1) (below_second (overflow f) (pow_pos (low f + suc (emax f))) s t a z.1)
sized_lt f (fin i m e) (fin j n d) s t a b z w =
    rw (z.0.0, w.0.0)
    (below_same (2 ^ low f) (down e * down d) (pow_pos (low f)) (mul-pos (down_pos e) (down_pos d)) s t (m * up e * down d) (n * up d * down e) a b
    (cross (m * up e) a (2 ^ low f) (down e) (down d) z.0.1)
    (cross (n * up d) b (2 ^ low f) (down d) (down e) w.0.1 ∙ ap (λ (k : ℕ). b * k) (mul_comm (down d) (down e))))

pub sized_eq : (f : Format) (x y : Float) (s t : Bool) (a b : ℕ) → Sized f x s a → Sized f y t b → eq x y ≡ level s a t b
unfolding eq
sized_eq f nan y s t a b z w = absurd z
sized_eq f (inf i) nan s t a b z w = absurd w
sized_eq f (inf i) (inf j) s t a b z w = rw (z.0, w.0, z.1, w.1) (level_both (overflow f) (pow_pos (low f + suc (emax f))) s t)
sized_eq f (inf i) (fin j n d) s t a b z w = rw z.1 (level_first (overflow f) (pow_pos (low f + suc (emax f))) s t b w.1)
sized_eq f (fin i m e) nan s t a b z w = absurd w
sized_eq f (fin i m e) (inf j) s t a b z w = rw w.1 (level_second (overflow f) (pow_pos (low f + suc (emax f))) s t a z.1)
sized_eq f (fin i m e) (fin j n d) s t a b z w =
    rw (z.0.0, w.0.0)
    (level_same (2 ^ low f) (down e * down d) (pow_pos (low f)) (mul-pos (down_pos e) (down_pos d)) s t (m * up e * down d) (n * up d * down e) a b
    (cross (m * up e) a (2 ^ low f) (down e) (down d) z.0.1)
    (cross (n * up d) b (2 ^ low f) (down d) (down e) w.0.1 ∙ ap (λ (k : ℕ). b * k) (mul_comm (down d) (down e))))

-- ---- the sign is the top bit
pub sign_bit : (f : Format) (x : Float) → T (fits f x) → T (not (is_nan x)) → leb (top f) (to_bits f x) ≡ negative x
sign_bit f x F n =
    let z = sized f x F n in
    ap (leb (top f)) (sized_bits f x (negative x) z.0 z.2)
    ∙ go (negative x) (pattern (prec f) z.0) (lt_of_le_of_lt (pattern_le f z.0 z.1 (sized_le f x (negative x) z.0 z.2)) (under f))
  where
    go : (s : Bool) (n : ℕ) → n < top f → leb (top f) (cond s (top f) 0 + n) ≡ s
    go true n h = le-leb (top f) (top f + n) (le-add_right (top f) n)
    go false n h = lt-leb (top f) (0 + n) (omega arith)

    under : (f : Format) → ones f * hid f < top f
    under f = lt_of_lt_of_le (mul-lt-mul_of_pos_right (lt-suc_self (ones f)) (pow_pos (prec f - 1))) (le_of_eq (mul_comm (suc (ones f)) (hid f)))
