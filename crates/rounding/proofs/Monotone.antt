-- A larger number has no smaller root, over every format: the numbers of units that are nearest to the roots rise with them. Assumes nothing.
use Rattle.std.proofs.Common.{◌≡◌, ℕ, zero, suc, ◌+◌, ◌*◌, ◌^◌, ◌<◌, ◌≤◌, min, Bool, true, false, not, ◌&&◌, ◌||◌, T, eqb, ltb, ℤ, pos, sym, refl, ap, ◌∙◌, subst, ⊎_elim, true≢false, le_trans, le_of_eq, le_of_lt, mul-le-mul_right, zero-lt-suc, mul_assoc, eq-or-lt_of_le, mul-pos, zero-mul, mul-one, mul_right_comm, arith, ltb→lt, nltb→le, pow_pos, ltb-false, ltb-true, le-ltb, lt-ltb, eq-eqb, ne_eqb, eqb-true}
use mathlib.Core.Bool.{false≢true}
use native.Mathlib.Nat.{min-eq_left, min-eq_right}
use lib.Ieee.{Float, nan, inf, fin, Format, prec, emax, low, up, down, lt, eq, le, below, level, of_bits}
use lib.Ieee.Fits.{two, up_pos, down_pos}
use lib.Ieee.Exact.{HasValue}
use lib.Ieee.Positive.{through}
use lib.Ieee.Scale.{overflow}
use Rattle.rounding.specs.Root.{root, root_of}
use Rattle.rounding.specs.Rounded.{Rounded, RootUnder, RootOver}
use Rattle.rounding.proofs.Magnitude.{Sized, sized_le, sized_lt, sized_eq}
use Rattle.rounding.proofs.Outer.{zero_is}
use Rattle.rounding.proofs.Rounding.{root_of_rounded, squares_back}
use Rattle.rounding.proofs.Unique.{nearest_rises}

-- ---- `le` by sizes
value_sized : (f : Format) (x : Float) (s : Bool) (a : ℕ) → HasValue x s a (2 ^ low f) → a < overflow f → Sized f x s a
value_sized f nan s a w h = absurd w
value_sized f (inf t) s a w h = absurd w
value_sized f (fin t m e) s a w h = (w, h)

pub rounded_sized : (f : Format) (Under Over : ℕ → Type 0) (s : Bool) (r : Float) (R : Rounded f Under Over s r) → Sized f r s (min R.units (overflow f))
rounded_sized f Under Over s r R = go (ltb R.units (overflow f)) (ltb→lt R.units (overflow f)) (nltb→le R.units (overflow f))
  where
    go : (b : Bool) → (T b → R.units < overflow f) → (T (not b) → overflow f ≤ R.units) → Sized f r s (min R.units (overflow f))
    go true l g = subst (Sized f r s) (sym (min-eq_left (le_of_lt (l tt)))) (value_sized f r s R.units (R.finite (l tt)) (l tt))
    go false l g = subst (λ (x : Float). Sized f x s (min R.units (overflow f))) (sym (R.infinite (g tt))) (refl, min-eq_right (g tt))

either : (u : Bool) → u || true ≡ true
either true = refl
either false = refl

pub sizes_le : (f : Format) (x y : Float) (a b : ℕ) → Sized f x false a → Sized f y false b → a ≤ b → le x y ≡ true
unfolding le
sizes_le f x y a b z w h =
    rw (sized_lt f x y false false a b z w, sized_eq f x y false false a b z w)
    (⊎_elim (λ (e : a ≡ b). rw (eq-eqb a b e) (either (ltb a b))) (λ (l : a < b). rw (lt-ltb a b l)) (eq-or-lt_of_le h))

-- a zero is at most what is not below zero
pub zero_sized : (f : Format) (s : Bool) (e : ℤ) → Sized f (fin s zero e) s 0
zero_sized f s e = ((refl, ap (λ (x : ℕ). x * 2 ^ low f) (zero-mul (up e)) ∙ zero-mul (2 ^ low f) ∙ sym (zero-mul (down e))), pow_pos (low f + suc (emax f)))

zero_least : (s : Bool) (b : ℕ) → below s 0 false b || level s 0 false b ≡ true
zero_least false zero = refl
zero_least false (suc b) = rw (lt-ltb 0 (suc b) (zero-lt-suc b))
zero_least true zero = refl
zero_least true (suc b) = rw (lt-ltb 0 (0 + suc b) (omega arith))

zero_le : (f : Format) (s : Bool) (e : ℤ) (y : Float) (b : ℕ) → Sized f y false b → le (fin s zero e) y ≡ true
unfolding le
zero_le f s e y b w = rw (sized_lt f (fin s zero e) y s false 0 b (zero_sized f s e) w, sized_eq f (fin s zero e) y s false 0 b (zero_sized f s e) w) (zero_least s b)

at_most : (a b : ℕ) → ltb a b || eqb a b && true ≡ true → a ≤ b
at_most a b h = go (ltb a b) (eqb a b) refl refl h
  where
    go : (l e : Bool) → ltb a b ≡ l → eqb a b ≡ e → l || e && true ≡ true → a ≤ b
    go true e x y h = let z = ltb-true a b x in omega arith
    go false true x y h = let z = eqb-true a b y in omega arith
    go false false x y h = absurd (false≢true h)

pub le_sizes : (f : Format) (x y : Float) (a b : ℕ) → Sized f x false a → Sized f y false b → le x y ≡ true → a ≤ b
unfolding le
le_sizes f x y a b z w h = at_most a b (rw (sized_lt f x y false false a b z w, sized_eq f x y false false a b z w) at h)

-- ---- what `le` says of numbers: x is a / c with a clear sign and above 0
above : (t : Bool) (a b : ℕ) → 0 < a → below false a t b || level false a t b ≡ true → (t ≡ false) × (a ≤ b)
above true a b p h = absurd (go (eqb a b) (rw (ne_eqb a 0 (λ e. omega arith)) at h))
  where
    go : (u : Bool) → u && false ≡ true → ⊥
    go true h = false≢true h
    go false h = false≢true h
above false a b p h = (refl, at_most a b h)

not_under_zero : (s : Bool) (a b : ℕ) → a ≡ 0 → 0 < b → below s a true b || level s a true b ≡ true → ⊥
not_under_zero false a b e p h = false≢true (rw (ne_eqb a b (λ i. omega arith)) at h)
not_under_zero true a b e p h = false≢true (rw (le-ltb b a (omega arith), ne_eqb a b (λ i. omega arith)) at h)

-- ---- the root of a number above zero
abbrev rooted : Format → ℕ → ℤ → Float
rooted f m e = root_of f (suc m * up e) (down e)

abbrev Under : Format → ℕ → ℤ → ℕ → Type 0
Under f m e = RootUnder (suc m * up e * 4 ^ low f) (down e)

abbrev Over : Format → ℕ → ℤ → ℕ → Type 0
Over f m e = RootOver (suc m * up e * 4 ^ low f) (down e)

is_rounded : (f : Format) (m : ℕ) (e : ℤ) → Rounded f (Under f m e) (Over f m e) false (rooted f m e)
is_rounded f m e = root_of_rounded f (suc m * up e) (down e) (down_pos e)

root_size : Format → ℕ → ℤ → ℕ
root_size f m e = min (is_rounded f m e).units (overflow f)

root_sized_so : (f : Format) (m : ℕ) (e : ℤ) → Sized f (rooted f m e) false (root_size f m e)
unfolding root_size
root_sized_so f m e = rounded_sized f (Under f m e) (Over f m e) false (rooted f m e) (is_rounded f m e)

pub root_sized : (f : Format) (m : ℕ) (e : ℤ) → (a : ℕ) × Sized f (rooted f m e) false a
root_sized f m e = (root_size f m e, root_sized_so f m e)

-- ---- two of them
module _ (f : Format) (m n : ℕ) (e d : ℤ) (h : suc m * up e * down d ≤ suc n * up d * down e) where
  abbrev M : ℕ
  M = suc m * up e * 4 ^ low f

  abbrev N : ℕ
  N = suc n * up d * 4 ^ low f

  crossed : 4 * M * down d ≤ 4 * N * down e
  crossed =
      let a : M * down d ≡ suc m * up e * down d * 4 ^ low f = mul_right_comm (suc m * up e) (4 ^ low f) (down d) in
      let b : N * down e ≡ suc n * up d * down e * 4 ^ low f = mul_right_comm (suc n * up d) (4 ^ low f) (down e) in
      let c : suc m * up e * down d * 4 ^ low f ≤ suc n * up d * down e * 4 ^ low f = mul-le-mul_right (4 ^ low f) h in
      omega (arith, mul_assoc 4 M (down d), mul_assoc 4 N (down e))

  rise : (t : ℕ) → Under f m e t → Under f n d t
  rise t u =
      let k : t * t * down e ≤ 4 * M * 1 = le_trans u (le_of_eq (sym (mul-one (4 * M)))) in
      le_trans (through (t * t) (4 * M) (4 * N) 1 (down e) (down d) (down_pos e) k crossed) (le_of_eq (mul-one (4 * N)))

  fall : (t : ℕ) → Over f n d t → Over f m e t
  fall t o =
      let k : 4 * N * 1 ≤ t * t * down d = le_trans (le_of_eq (mul-one (4 * N))) o in
      le_trans (le_of_eq (sym (mul-one (4 * M)))) (through (4 * M) (4 * N) (t * t) (down e) (down d) 1 (down_pos d) crossed k)

  apart : (s t : ℕ) → Under f n d t → Over f n d s → t ≤ s
  apart s t u o = squares_back (down d) (down_pos d) t s (le_trans u o)

  roots_le : le (rooted f m e) (rooted f n d) ≡ true
  unfolding root_size
  roots_le =
      let x = is_rounded f m e in
      let y = is_rounded f n d in
      let rises = nearest_rises (prec f) (two f) (Under f m e) (Over f m e) (Under f n d) (Over f n d) rise fall apart in
      let r : x.units ≤ y.units = rises x.units y.units x.nearest y.nearest in
      sizes_le f (rooted f m e) (rooted f n d) (root_size f m e) (root_size f n d) (root_sized_so f m e) (root_sized_so f n d) (omega arith)

product_pos : (m : ℕ) (e d : ℤ) → 0 < suc m * up e * down d
product_pos m e d = mul-pos (mul-pos (zero-lt-suc m) (up_pos e)) (down_pos d)

-- a number above zero, and one that it is at most
from_above : (f : Format) (m : ℕ) (e : ℤ) (y : Float) → le (fin false (suc m) e) y ≡ true → le (rooted f m e) (root f y) ≡ true
unfolding le lt eq root
from_above f m e nan h = absurd (false≢true h)
from_above f m e (inf true) h = absurd (false≢true h)
from_above f m e (inf false) h =
    let z = root_sized f m e in
    sizes_le f (rooted f m e) (inf false) z.0 (overflow f) z.1 (refl, refl) (sized_le f (rooted f m e) false z.0 z.1)
from_above f m e (fin t zero d) h = absurd (none (above t (suc m * up e * down d) (0 * up d * down e) (product_pos m e d) h).1)
  where
    none : suc m * up e * down d ≤ 0 * up d * down e → ⊥
    none k = let z : 0 * up d * down e ≡ 0 = ap (λ (x : ℕ). x * down e) (zero-mul (up d)) ∙ zero-mul (down e) in omega (arith, product_pos m e d)
from_above f m e (fin true (suc n) d) h = absurd (true≢false (above true (suc m * up e * down d) (suc n * up d * down e) (product_pos m e d) h).0)
from_above f m e (fin false (suc n) d) h = roots_le f m n e d (above false (suc m * up e * down d) (suc n * up d * down e) (product_pos m e d) h).1

-- a zero, and what it is at most
from_zero : (f : Format) (s : Bool) (e : ℤ) (y : Float) → le (fin s zero e) y ≡ true → le (fin s zero e) (root f y) ≡ true
unfolding le lt eq root
from_zero f s e nan h = absurd (false≢true h)
from_zero f s e (inf true) h = absurd (false≢true h)
from_zero f s e (inf false) h = refl
from_zero f s e (fin t zero d) h = h
from_zero f s e (fin true (suc n) d) h =
    absurd (not_under_zero s (0 * up e * down d) (suc n * up d * down e) (ap (λ (x : ℕ). x * down d) (zero-mul (up e)) ∙ zero-mul (down d)) (product_pos n d e) h)
from_zero f s e (fin false (suc n) d) h = let z = root_sized f n d in zero_le f s e (rooted f n d) z.0 z.1

-- an infinity, and what it is at most
from_infinity : (f : Format) (y : Float) → le (inf false) y ≡ true → le (inf false) (root f y) ≡ true
unfolding le lt eq root
from_infinity f nan h = absurd (false≢true h)
from_infinity f (inf true) h = absurd (false≢true h)
from_infinity f (inf false) h = refl
from_infinity f (fin t n d) h = absurd (false≢true h)

pub root_rises : (f : Format) (x y : Float) → lt x (of_bits f 0) ≡ false → le x y ≡ true → le (root f x) (root f y) ≡ true
unfolding lt eq le root
root_rises f x y n h = go x (subst (λ (z : Float). lt x z ≡ false) (zero_is f) n) h
  where
    go : (x : Float) → lt x (fin false 0 (pos 0)) ≡ false → le x y ≡ true → le (root f x) (root f y) ≡ true
    go nan n h = absurd (false≢true h)
    go (inf true) n h = absurd (true≢false n)
    go (inf false) n h = from_infinity f y h
    go (fin s zero e) n h = from_zero f s e y h
    go (fin true (suc m) e) n h =
        let z = ltb-false 0 (suc m * up e * 1 + 0 * 1 * down e) n in
        let p : 0 < suc m * up e = mul-pos (zero-lt-suc m) (up_pos e) in
        absurd (omega arith)
    go (fin false (suc m) e) n h = from_above f m e y h
