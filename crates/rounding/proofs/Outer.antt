-- The cases that `sqrt` tells apart, over every format. Assumes nothing.
use Rattle.std.proofs.Common.{◌≡◌, ℕ, zero, suc, ◌+◌, ◌-◌, ◌*◌, ◌/◌, ◌%◌, ◌^◌, ◌<◌, ◌≤◌, Bool, true, false, cond, not, ◌&&◌, T, eqb, ltb, leb, ◌⊎◌, ℤ, pos, sym, refl, ap, ◌∙◌, subst, inl, inr, true≢false, le_trans, le_of_eq, le_refl, lt_of_lt_of_le, lt_of_le_of_lt, lt_irrefl, mul-le-mul_right, zero-lt-suc, mul_comm, div-lt_iff_lt-mul, add-mul, eq-zero-or-pos, mul-lt-mul_of_pos_right, mul-pos, mul_right_comm, arith, eqb→eq, ltb→lt, lt→ltb, pow_pos, pow-add}
use mathlib.Core.Bool.{false≢true}
use Prim.Native.Nat.{compare, Ordering}
use lib.Pow.{pow-lt}
use lib.Ieee.{Float, nan, inf, fin, Format, binary32, binary64, prec, emax, low, up, down, size, odd, units, nearest, fits, is_nan, hid, ones, top, to_bits, of_bits, nan_bits, eq, ne, lt, div, level}
use lib.Ieee.Digits.{size-le}
use lib.Ieee.Fits.{two, up_pos, down_pos, odd-fits, nearest-le, kept-lt, inf-fits, and_l, and_r}
use lib.Ieee.Bits.{of_bits-to_bits, nan_bits_is, is_true, to_bits-lt}
use Rattle.rounding.specs.Root.{whole_root, place, root_of, root}
use Rattle.rounding.proofs.RootBits.{sizes}
use Rattle.rounding.proofs.Half.{half_pow}
use Rattle.rounding.proofs.NanTest.{at_nan, no_nan}

-- ---- a test's answer as a fact
yes : {b : Bool} → b ≡ true → T b
yes h = subst T (sym h) tt

-- ---- 0.0 and 0.0 / 0.0 as MIR has them
pub zero_is : (f : Format) → of_bits f 0 ≡ fin false 0 (pos 0)
unfolding of_bits
zero_is binary32 = refl
zero_is binary64 = refl

pub made_nan : (f : Format) → div f (of_bits f 0) (of_bits f 0) ≡ nan
unfolding div
made_nan f = ap (λ (x : Float). div f x x) (zero_is f)

-- ---- a NaN
pub root_nan : (f : Format) (x : Float) → ne x x ≡ true → x ≡ root f x
unfolding root
root_nan f x h = let e = at_nan x h in e ∙ sym (ap (root f) e)

-- ---- a zero, and a number below zero
clash : (m : ℕ) (e : ℤ) (d : ℕ) → T (eqb (suc m * up e * 1) (0 * 1 * d)) → ⊥
clash m e d t =
    let z : suc m * up e * 1 ≡ 0 * 1 * d = eqb→eq (suc m * up e * 1) (0 * 1 * d) t in
    let p : 0 < suc m * up e = mul-pos (zero-lt-suc m) (up_pos e) in
    omega arith

pub root_zero : (f : Format) (x : Float) → eq x (of_bits f 0) ≡ true → x ≡ root f x
unfolding eq root
root_zero f x h = go x (subst (λ (z : Float). T (eq x z)) (zero_is f) (yes h))
  where
    go : (x : Float) → T (eq x (fin false 0 (pos 0))) → x ≡ root f x
    go nan t = absurd t
    go (inf s) t = absurd t
    go (fin s zero e) t = refl
    go (fin s (suc m) e) t = absurd (clash m e (down e) (and_l (eqb (suc m * up e * 1) (0 * 1 * down e)) _ t))

pub root_below : (f : Format) (x : Float) → lt x (of_bits f 0) ≡ true → div f (of_bits f 0) (of_bits f 0) ≡ root f x
unfolding lt root
root_below f x h = made_nan f ∙ go x (subst (λ (z : Float). T (lt x z)) (zero_is f) (yes h))
  where
    go : (x : Float) → T (lt x (fin false 0 (pos 0))) → nan ≡ root f x
    go nan t = absurd t
    go (inf true) t = refl
    go (inf false) t = absurd t
    go (fin true zero e) t = absurd (omega (arith, ltb→lt 0 (0 * up e * 1 + 0 * 1 * down e) t))
    go (fin true (suc m) e) t = refl
    go (fin false m e) t = absurd (omega (arith, ltb→lt (m * up e * 1) (0 * 1 * down e) t))

-- ---- a finite number's pattern is below the infinity's
n_lt : (f : Format) (m : ℕ) (e : ℤ) → m * up e < 2 ^ suc (emax f) * down e → m * up e * 2 ^ low f / down e < 2 ^ (low f + suc (emax f))
n_lt f m e h =
    (div-lt_iff_lt-mul (down_pos e)).1
    (lt_of_lt_of_le (mul-lt-mul_of_pos_right h (pow_pos (low f)))
    (le_of_eq (mul_right_comm (2 ^ suc (emax f)) (down e) (2 ^ low f) ∙ ap (λ (x : ℕ). x * down e) (mul_comm (2 ^ suc (emax f)) (2 ^ low f) ∙ sym (pow-add 2 (low f) (suc (emax f)))))))

under_ones : (o k H w : ℕ) → k + 2 ≤ o → w < 2 * H → 0 + k * H + w < o * H
under_ones o k H w a b =
    let c : (k + 2) * H ≤ o * H = mul-le-mul_right H a in
    let d : (k + 2) * H ≡ k * H + 2 * H = add-mul k 2 H in
    omega arith

pub finite_under : (f : Format) (m : ℕ) (e : ℤ) → T (fits f (fin false (suc m) e)) → to_bits f (fin false (suc m) e) < ones f * hid f
unfolding fits to_bits
finite_under f m e t =
    let n = suc m * up e * 2 ^ low f / down e in
    let h : suc m * up e < 2 ^ suc (emax f) * down e = ltb→lt (suc m * up e) (2 ^ suc (emax f) * down e) (and_r (eqb (suc m % 2) 1 && ltb (suc m) (2 ^ prec f) && leb (down e) (2 ^ low f)) (ltb (suc m * up e) (2 ^ suc (emax f) * down e)) t) in
    let s : size n ≤ low f + suc (emax f) = size-le n (low f + suc (emax f)) (n_lt f (suc m) e h) in
    under_ones (ones f) (size n - prec f) (hid f) (n / 2 ^ (size n - prec f)) (omega (arith, sizes f)) (lt_of_lt_of_le (kept-lt (prec f) n) (le_of_eq (half_pow (prec f) (two f))))

-- ---- what is left: above zero
abbrev Above : Float → Type 0
Above nan = ⊥
Above (inf s) = s ≡ false
Above (fin s zero e) = ⊥
Above (fin s (suc m) e) = s ≡ false

level_zero : (s : Bool) (a b : ℕ) → a ≡ 0 → b ≡ 0 → level s a false b ≡ true
level_zero s a b x y = ap (λ (a : ℕ). level s a false b) x ∙ ap (λ (b : ℕ). level s 0 false b) y ∙ go s
  where
    go : (s : Bool) → level s 0 false 0 ≡ true
    go true = refl
    go false = refl

above : (x : Float) → T (not (is_nan x)) → eq x (fin false 0 (pos 0)) ≡ false → lt x (fin false 0 (pos 0)) ≡ false → Above x
unfolding is_nan eq lt
above nan n z b = absurd n
above (inf true) n z b = absurd (true≢false b)
above (inf false) n z b = refl
above (fin s zero e) n z b = absurd (false≢true (sym z ∙ level_zero s (0 * up e * 1) (0 * 1 * down e) (omega arith) (omega arith)))
above (fin true (suc m) e) n z b = absurd (true≢false (sym (is_true (ltb 0 (suc m * up e * 1 + 0 * 1 * down e)) (lt→ltb 0 (suc m * up e * 1 + 0 * 1 * down e) (omega (arith, mul-pos (zero-lt-suc m) (up_pos e))))) ∙ b))
above (fin false (suc m) e) n z b = refl

-- ---- `units` makes no NaN, and what it makes fits
odd_plain : (d : ℕ) (s : Bool) (q k l : ℕ) → T (not (is_nan (odd d s q k l)))
unfolding odd is_nan
odd_plain d s zero k l = tt
odd_plain d s (suc q) k l = tt

pub units_plain : (f : Format) (s : Bool) (q k : ℕ) → T (not (is_nan (units f s q k)))
unfolding units is_nan
units_plain f s q k = go (ltb (q * 2 ^ k) (2 ^ (low f + suc (emax f))))
  where
    go : (b : Bool) → T (not (is_nan (cond b (odd (suc (prec f)) s q k (low f)) (inf s))))
    go true = odd_plain (suc (prec f)) s q k (low f)
    go false = tt

pub units_fits : (f : Format) (s : Bool) (q k : ℕ) → q ≤ 2 ^ prec f → T (fits f (units f s q k))
unfolding units
units_fits f s q k a = go (ltb (q * 2 ^ k) (2 ^ (low f + suc (emax f)))) (ltb→lt (q * 2 ^ k) (2 ^ (low f + suc (emax f))))
  where
    go : (b : Bool) → (T b → q * 2 ^ k < 2 ^ (low f + suc (emax f))) → T (fits f (cond b (odd (suc (prec f)) s q k (low f)) (inf s)))
    go true h = odd-fits f (suc (prec f)) s q k (lt_of_le_of_lt a (pow-lt (le_refl (suc (prec f))))) a (h tt)
    go false h = inf-fits f s

place_fits : (f : Format) (s : Bool) (w : ℕ) (o : ℕ → Ordering) → T (fits f (place f s w o)) × T (not (is_nan (place f s w o)))
unfolding place
place_fits f s w o =
    let k = size w - prec f in
    let q = w / 2 ^ k in
    (units_fits f s (nearest q (o ((2 * q + 1) * 2 ^ k))) k (le_trans (nearest-le q (o ((2 * q + 1) * 2 ^ k))) (kept-lt (prec f) w)), units_plain f s (nearest q (o ((2 * q + 1) * 2 ^ k))) k)

pub root_fits : (f : Format) (m : ℕ) (e : ℤ) → T (fits f (root f (fin false (suc m) e))) × T (not (is_nan (root f (fin false (suc m) e))))
unfolding root root_of
root_fits f m e = place_fits f false (whole_root (suc m * up e * 4 ^ low f / down e)) (λ t. compare (4 * (suc m * up e * 4 ^ low f)) (t * t * down e))

-- ---- what the proof of `sqrt` cites, once the tests for a NaN, a zero and a number below zero have failed
module _ (f : Format) (x : Float) (F : T (fits f x)) (n : ne x x ≡ false) (z : eq x (of_bits f 0) ≡ false) (b : lt x (of_bits f 0) ≡ false) where
  is_above : Above x
  is_above = above x (no_nan x n) (subst (λ (y : Float). eq x y ≡ false) (zero_is f) z) (subst (λ (y : Float). lt x y ≡ false) (zero_is f) b)

  pub bits_pos : 0 < to_bits f x
  bits_pos = go (eq-zero-or-pos (to_bits f x))
    where
      go : (to_bits f x ≡ 0) ⊎ (0 < to_bits f x) → 0 < to_bits f x
      go (inr h) = h
      go (inl h) = absurd (false≢true (sym z ∙ ap (λ (y : Float). eq y (of_bits f 0)) (sym (of_bits-to_bits f x F) ∙ ap (of_bits f) h) ∙ ap (λ (y : Float). eq y y) (zero_is f) ∙ same))
        where
          same : eq (fin false 0 (pos 0)) (fin false 0 (pos 0)) ≡ true
          same = unfold eq in refl

  pub root_inf : ones f * hid f ≤ to_bits f x → x ≡ root f x
  root_inf h = go x is_above F h
    where
      go : (x : Float) → Above x → T (fits f x) → ones f * hid f ≤ to_bits f x → x ≡ root f x
      go nan a F h = absurd a
      go (inf true) a F h = absurd (true≢false a)
      go (inf false) a F h = unfold root in refl
      go (fin s zero e) a F h = absurd a
      go (fin true (suc m) e) a F h = absurd (true≢false a)
      go (fin false (suc m) e) a F h = absurd (lt_irrefl (ones f * hid f) (lt_of_le_of_lt h (finite_under f m e F)))

  -- below the infinity's, the pattern r that `root_bits` gives is read as the root
  module _ (u : to_bits f x < ones f * hid f) (r : ℕ) (e : r ≡ to_bits f (root f (of_bits f (to_bits f x)))) where
    good : T (fits f (root f x)) × T (not (is_nan (root f x)))
    good = go x is_above u
      where
        go : (x : Float) → Above x → to_bits f x < ones f * hid f → T (fits f (root f x)) × T (not (is_nan (root f x)))
        go nan a h = absurd a
        go (inf true) a h = absurd (true≢false a)
        go (inf false) a h = (unfold root fits in tt, unfold root is_nan in tt)
        go (fin s zero e) a h = absurd a
        go (fin true (suc m) e) a h = absurd (true≢false a)
        go (fin false (suc m) e) a h = root_fits f m e

    pub reads : of_bits f r ≡ root f x
    reads = ap (of_bits f) (e ∙ ap (λ (y : Float). to_bits f (root f y)) (of_bits-to_bits f x F)) ∙ of_bits-to_bits f (root f x) good.0

    pub no_nan_pattern : T (not (nan_bits f r))
    no_nan_pattern = subst (λ (y : Bool). T (not y)) (sym (nan_bits_is f r ∙ ap is_nan reads)) good.1

    pub short : r < 2 * top f
    short = subst (λ (y : ℕ). y < 2 * top f) (sym (e ∙ ap (λ (y : Float). to_bits f (root f y)) (of_bits-to_bits f x F))) (to_bits-lt f (root f x) good.0)
