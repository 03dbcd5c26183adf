-- `place`, and with it `round` and `root`, rounds to the nearest, a tie to the even one: one lemma over every precision and every number. Assumes nothing.
use Rattle.std.proofs.Common.{◌≡◌, ℕ, zero, suc, ◌+◌, ◌-◌, ◌*◌, ◌/◌, ◌%◌, ◌^◌, ◌<◌, ◌≤◌, Bool, true, false, not, T, ltb, leb, ◌⊎◌, sym, refl, ap, ◌∙◌, subst, inl, inr, ⊎_elim, le_trans, le_of_eq, le_refl, lt_of_lt_of_le, le_of_suc-le-suc, lt_of_le_of_lt, le_of_lt, mul-le-mul_right, mul_assoc, lt-suc_self, suc-mul, mul_comm, div-lt_iff_lt-mul, add-mul, mul-le-mul, lt_of_mul-lt-mul_right, eq-or-lt_of_le, mul-lt-mul_of_pos_right, pow-suc, lt_of_not-le, div-add-mod', le-div_iff_mul-le, sub-add_cancel, not-le_of_lt, div-mul-le_self, le_of_mul-le-mul_right, mul-div_cancel, arith, ltb→lt, leb→le, nltb→le, pow_pos, pow_mono, pow-add}
use Prim.Native.Nat.{compare, Ordering}
use native.Mathlib.Nat.{mul-mul-mul_comm, pow-succ', mul-mod_left, div-div-eq-div-mul}
use lib.Dec.{nleb→lt}
use lib.Ieee.{Float, Format, prec, low, size, nearest, units, round}
use lib.Ieee.Digits.{size_reaches}
use lib.Ieee.Fits.{two, round_is, kept-lt}
use lib.Ieee.Exact.{units_val}
use Rattle.rounding.specs.Root.{whole_root, place, root_of}
use Rattle.rounding.specs.Rounded.{Holds, last_digit, Nearest, Rounded, FractionUnder, FractionOver, RootUnder, RootOver}
use Rattle.rounding.proofs.Half.{Cmp, cmp, half_pow, parity}
use Rattle.rounding.proofs.Place.{Full, dropped, root_is, square_suc, compare_is}
use Rattle.rounding.proofs.NarrowBits.{over_is}

-- ---- what p digits hold, beside q * 2 ^ k with a full q: a number below it, or a multiple of 2 ^ k
gap : (p a q k : ℕ) → 2 ≤ p → Holds p a → Full p q k → (a < q * 2 ^ k) ⊎ ((x : ℕ) × (a ≡ x * 2 ^ k))
gap p a q k P H F = go (leb k H.k) (leb→le k H.k) (nleb→lt k H.k) F
  where
    go : (b : Bool) → (T b → k ≤ H.k) → (T (not b) → H.k < k) → Full p q k → (a < q * 2 ^ k) ⊎ ((x : ℕ) × (a ≡ x * 2 ^ k))
    go true h g F = inr (H.q * 2 ^ (H.k - k), H.is ∙ ap (λ (y : ℕ). H.q * 2 ^ y) (sym (sub-add_cancel (h tt))) ∙ ap (λ (y : ℕ). H.q * y) (pow-add 2 (H.k - k) k) ∙ sym (mul_assoc H.q (2 ^ (H.k - k)) (2 ^ k)))
    go false h g (inl z) = absurd (omega (arith, g tt))
    go false h g (inr u) =
        let w : p + H.k ≤ p - 1 + k = omega (arith, g tt) in
        inl (lt_of_le_of_lt (le_of_eq H.is) (lt_of_lt_of_le (mul-lt-mul_of_pos_right H.few (pow_pos H.k))
        (le_trans (le_of_eq (sym (pow-add 2 p H.k))) (le_trans (pow_mono w) (le_trans (le_of_eq (pow-add 2 (p - 1) k)) (mul-le-mul_right (2 ^ k) u))))))

pub gap_up : (p a q k : ℕ) → 2 ≤ p → Holds p a → Full p q k → q * 2 ^ k < a → suc q * 2 ^ k ≤ a
gap_up p a q k P H F h = go (gap p a q k P H F)
  where
    go : (a < q * 2 ^ k) ⊎ ((x : ℕ) × (a ≡ x * 2 ^ k)) → suc q * 2 ^ k ≤ a
    go (inl l) = absurd (omega arith)
    go (inr (x, e)) = le_trans (mul-le-mul_right (2 ^ k) (lt_of_mul-lt-mul_right (2 ^ k) (lt_of_lt_of_le h (le_of_eq e)))) (le_of_eq (sym e))

pub gap_down : (p a q k : ℕ) → 2 ≤ p → Holds p a → Full p q k → a < suc q * 2 ^ k → a ≤ q * 2 ^ k
gap_down p a q k P H F h = go (gap p a q k P H F)
  where
    go : (a < q * 2 ^ k) ⊎ ((x : ℕ) × (a ≡ x * 2 ^ k)) → a ≤ q * 2 ^ k
    go (inl l) = le_of_lt l
    go (inr (x, e)) = le_trans (le_of_eq e) (mul-le-mul_right (2 ^ k) (le_of_suc-le-suc (lt_of_mul-lt-mul_right (2 ^ k) (lt_of_le_of_lt (le_of_eq (sym e)) h))))

carried : (p q k : ℕ) → 2 ≤ p → q ≡ 2 ^ p → q * 2 ^ k ≡ 2 ^ (p - 1) * 2 ^ suc k
carried p q k P e = ap (λ (x : ℕ). x * 2 ^ k) (e ∙ half_pow p P ∙ mul_comm 2 (2 ^ (p - 1))) ∙ mul_assoc (2 ^ (p - 1)) 2 (2 ^ k) ∙ ap (λ (x : ℕ). 2 ^ (p - 1) * x) (sym (pow-succ' 2 k))

-- ---- the last digit of q * 2 ^ k, and that p digits hold it, also where q is 2 ^ p
digit : (p q k : ℕ) → 2 ≤ p → q ≤ 2 ^ p → Full p q k → q % 2 ≡ 0 → last_digit p (q * 2 ^ k) ≡ 0
digit p q k P Q F e = go (eq-or-lt_of_le Q)
  where
    at : (c j : ℕ) → c < 2 ^ p → Full p c j → q * 2 ^ k ≡ c * 2 ^ j → c % 2 ≡ 0 → last_digit p (q * 2 ^ k) ≡ 0
    at c j C F i z =
        let d : size (q * 2 ^ k) - p ≡ j = dropped p (q * 2 ^ k) c j P (le_of_eq (sym i)) (lt_of_le_of_lt (le_of_eq i) (mul-lt-mul_of_pos_right (lt-suc_self c) (pow_pos j))) C F in
        ap (λ (x : ℕ). q * 2 ^ k / 2 ^ x % 2) d ∙ ap (λ (x : ℕ). x % 2) (ap (λ (x : ℕ). x / 2 ^ j) i ∙ mul-div_cancel c (pow_pos j)) ∙ z

    go : (q ≡ 2 ^ p) ⊎ (q < 2 ^ p) → last_digit p (q * 2 ^ k) ≡ 0
    go (inr l) = at q k l F refl e
    go (inl i) =
        let hp : 2 ^ p ≡ 2 * 2 ^ (p - 1) = half_pow p P in
        let pp : 0 < 2 ^ (p - 1) = pow_pos (p - 1) in
        at (2 ^ (p - 1)) (suc k) (omega arith) (inr (le_refl (2 ^ (p - 1)))) (carried p q k P i) (even_pow p P)
      where
        even_pow : (p : ℕ) → 2 ≤ p → 2 ^ (p - 1) % 2 ≡ 0
        even_pow p P = ap (λ (x : ℕ). x % 2) (half_pow' p P) ∙ mul-mod_left (2 ^ (p - 2)) 2
          where
            half_pow' : (p : ℕ) → 2 ≤ p → 2 ^ (p - 1) ≡ 2 ^ (p - 2) * 2
            half_pow' p P = ap (λ (x : ℕ). 2 ^ x) (one p P) ∙ pow-suc 2 (p - 2)
              where
                one : (p : ℕ) → 2 ≤ p → p - 1 ≡ suc (p - 2)
                one p P = omega arith

pub holds : (p q k : ℕ) → 2 ≤ p → q ≤ 2 ^ p → Holds p (q * 2 ^ k)
holds p q k P Q = go (eq-or-lt_of_le Q)
  where
    go : (q ≡ 2 ^ p) ⊎ (q < 2 ^ p) → Holds p (q * 2 ^ k)
    go (inr l) = record { q = q; k = k; few = l; is = refl }
    go (inl i) =
        let hp : 2 ^ p ≡ 2 * 2 ^ (p - 1) = half_pow p P in
        let pp : 0 < 2 ^ (p - 1) = pow_pos (p - 1) in
        record { q = 2 ^ (p - 1); k = suc k; few = omega arith; is = carried p q k P i }

-- ---- a number y by its comparisons with halves of a unit, whose whole part shows q and k
apart_or : (a g : ℕ) → (a ≡ g → ⊥) → (a < g) ⊎ (g < a)
apart_or a g n = go (ltb a g) (ltb→lt a g) (nltb→le a g)
  where
    go : (b : Bool) → (T b → a < g) → (T (not b) → g ≤ a) → (a < g) ⊎ (g < a)
    go true x y = inl (x tt)
    go false x y = inr (omega (arith, y tt))

-- how y compares with t / 2
abbrev Says : (ℕ → Type 0) → (ℕ → Type 0) → Ordering → ℕ → Type 0
Says Under Over Ordering.lt t = Over t × (Under t → ⊥)
Says Under Over Ordering.eq t = Under t × Over t
Says Under Over Ordering.gt t = Under t × (Over t → ⊥)

module _ (p : ℕ) (P : 2 ≤ p) (Under Over : ℕ → Type 0) (less : (s t : ℕ) → s ≤ t → Under t → Under s) (more : (s t : ℕ) → s ≤ t → Over s → Over t) (apart : (s t : ℕ) → Under t → Over s → t ≤ s)
    (q k : ℕ) (Q : q < 2 ^ p) (F : Full p q k) (lo : Under (2 * (q * 2 ^ k))) (hi : Over (2 * (suc q * 2 ^ k))) where
  abbrev mid : ℕ
  mid = (2 * q + 1) * 2 ^ k

  mid_is : mid ≡ 2 * (q * 2 ^ k) + 2 ^ k
  mid_is = add-mul (2 * q) 1 (2 ^ k) ∙ omega (arith, mul_assoc 2 q (2 ^ k))

  next_is : suc q * 2 ^ k ≡ q * 2 ^ k + 2 ^ k
  next_is = suc-mul q (2 ^ k)

  at_low : Over mid → (Under mid → last_digit p (q * 2 ^ k) ≡ 0) → Nearest p Under Over (q * 2 ^ k)
  at_low o z = record {
    held = holds p q k P (le_of_lt Q);
    larger = λ a H l. more mid (q * 2 ^ k + a) (omega (arith, gap_up p a q k P H F l, mid_is, next_is)) o;
    smaller = λ a H l. less (a + q * 2 ^ k) (2 * (q * 2 ^ k)) (omega arith) lo;
    even = λ a H n u v. ⊎_elim (λ l. absurd (omega (arith, l, apart (a + q * 2 ^ k) (2 * (q * 2 ^ k)) lo v))) (λ l. z (less mid (a + q * 2 ^ k) (omega (arith, gap_up p a q k P H F l, mid_is, next_is)) u)) (apart_or a (q * 2 ^ k) n);
  }

  at_high : Under mid → (Over mid → last_digit p (suc q * 2 ^ k) ≡ 0) → Nearest p Under Over (suc q * 2 ^ k)
  at_high u z = record {
    held = holds p (suc q) k P Q;
    larger = λ a H l. more (2 * (suc q * 2 ^ k)) (suc q * 2 ^ k + a) (omega arith) hi;
    smaller = λ a H l. less (a + suc q * 2 ^ k) mid (omega (arith, gap_down p a q k P H F l, mid_is, next_is)) u;
    even = λ a H n v w. ⊎_elim (λ l. z (more (a + suc q * 2 ^ k) mid (omega (arith, gap_down p a q k P H F l, mid_is, next_is)) w)) (λ l. absurd (omega (arith, l, apart (2 * (suc q * 2 ^ k)) (a + suc q * 2 ^ k) v hi))) (apart_or a (suc q * 2 ^ k) n);
  }

  more_full : Full p (suc q) k
  more_full = go F
    where
      go : Full p q k → Full p (suc q) k
      go (inl z) = inl z
      go (inr g) = inr (omega arith)

  pub to_nearest : (o : Ordering) → Says Under Over o mid → Nearest p Under Over (nearest q o * 2 ^ k)
  to_nearest Ordering.lt s = at_low s.0 (λ u. absurd (s.1 u))
  to_nearest Ordering.gt s = at_high s.0 (λ u. absurd (s.1 u))
  to_nearest Ordering.eq s = go (parity q)
    where
      go : (q % 2 ≡ 0) ⊎ (q % 2 ≡ 1) → Nearest p Under Over ((q + q % 2) * 2 ^ k)
      go (inl z) = subst (λ (x : ℕ). Nearest p Under Over (x * 2 ^ k)) (omega arith) (at_low s.1 (λ u. digit p q k P (le_of_lt Q) F z))
      go (inr z) = subst (λ (x : ℕ). Nearest p Under Over (x * 2 ^ k)) (omega arith) (at_high s.0 (λ u. digit p (suc q) k P Q more_full (omega arith)))

-- ---- `place`: y is known by a number A and a rising function B, as t / 2 ≤ y where B t ≤ A
pub full_of : (p w : ℕ) → 2 ≤ p → Full p (w / 2 ^ (size w - p)) (size w - p)
full_of p w P = go (size w - p) refl
  where
    go : (j : ℕ) → size w - p ≡ j → Full p (w / 2 ^ (size w - p)) (size w - p)
    go zero e = inl e
    go (suc j) e = inr ((le-div_iff_mul-le (pow_pos (size w - p))).1 (le_trans (le_of_eq (sym (pow-add 2 (p - 1) (size w - p)))) (size_reaches w (p - 1 + (size w - p)) (omega arith))))

pub units_rounded : (f : Format) (s : Bool) (Under Over : ℕ → Type 0) (c k : ℕ) → Nearest (prec f) Under Over (c * 2 ^ k) → Rounded f Under Over s (units f s c k)
units_rounded f s Under Over c k N = record { units = c * 2 ^ k; nearest = N; finite = units_val f s c k; infinite = over_is f s c k }

module _ (A : ℕ) (B : ℕ → ℕ) (mono : (s t : ℕ) → s ≤ t → B s ≤ B t) (back : (s t : ℕ) → B s ≤ B t → s ≤ t) where
  tells : (o : Ordering) (t : ℕ) → Cmp o A (B t) → Says (λ t. B t ≤ A) (λ t. A ≤ B t) o t
  tells Ordering.lt t h = (le_of_lt h, not-le_of_lt h)
  tells Ordering.eq t h = (le_of_eq (sym h), le_of_eq h)
  tells Ordering.gt t h = (le_of_lt h, not-le_of_lt h)

  pub place_rounded : (f : Format) (s : Bool) (w : ℕ) → B (2 * w) ≤ A → A ≤ B (2 * suc w) → Rounded f (λ t. B t ≤ A) (λ t. A ≤ B t) s (place f s w (λ t. compare A (B t)))
  unfolding place
  place_rounded f s w lo hi =
      let p = prec f in
      let k = size w - p in
      let q = w / 2 ^ k in
      let mid = (2 * q + 1) * 2 ^ k in
      let a : q * 2 ^ k ≤ w = div-mul-le_self w (2 ^ k) in
      let b : w < suc q * 2 ^ k = (div-lt_iff_lt-mul (pow_pos k)).0 (lt-suc_self q) in
      units_rounded f s (λ t. B t ≤ A) (λ t. A ≤ B t) (nearest q (compare A (B mid))) k
      (to_nearest p (two f) (λ t. B t ≤ A) (λ t. A ≤ B t) (λ s t h u. le_trans (mono s t h) u) (λ s t h u. le_trans u (mono s t h)) (λ s t u v. back t s (le_trans u v)) q k (kept-lt p w) (full_of p w (two f))
      (le_trans (mono (2 * (q * 2 ^ k)) (2 * w) (omega arith)) lo)
      (le_trans hi (mono (2 * suc w) (2 * (suc q * 2 ^ k)) (omega arith)))
      (compare A (B mid)) (tells (compare A (B mid)) mid (cmp A (B mid))))

-- ---- the root
square_scaled : (w d : ℕ) → 2 * w * (2 * w) * d ≡ 4 * (w * w * d)
square_scaled w d = ap (λ (x : ℕ). x * d) (mul-mul-mul_comm 2 w 2 w) ∙ mul_assoc 4 (w * w) d

pub squares_rise : (d s t : ℕ) → s ≤ t → s * s * d ≤ t * t * d
squares_rise d s t h = mul-le-mul_right d (mul-le-mul h h)

pub squares_back : (d : ℕ) → 0 < d → (s t : ℕ) → s * s * d ≤ t * t * d → s ≤ t
squares_back d D s t h = le_of_suc-le-suc (lt_of_not-le (λ (g : suc t ≤ s). not-le_of_lt (lt_of_lt_of_le (strict t) (mul-le-mul g g)) (le_of_mul-le-mul_right h D)))
  where
    strict : (t : ℕ) → t * t < suc t * suc t
    strict t = omega (arith, square_suc t)

pub root_of_rounded : (f : Format) (num den : ℕ) → 0 < den → Rounded f (RootUnder (num * 4 ^ low f) den) (RootOver (num * 4 ^ low f) den) false (root_of f num den)
unfolding root_of
root_of_rounded f num den D =
    let n = num * 4 ^ low f in
    let w = whole_root (n / den) in
    let a : w * w * den ≤ n = (le-div_iff_mul-le D).0 (root_is (n / den)).0 in
    let b : n < suc w * suc w * den = (div-lt_iff_lt-mul D).0 (root_is (n / den)).1 in
    let x = square_scaled w den in
    let y = square_scaled (suc w) den in
    place_rounded (4 * n) (λ t. t * t * den) (squares_rise den) (squares_back den D) f false w (omega arith) (omega arith)

-- ---- a fraction
halves : (o : Ordering) (x y a b : ℕ) → (x < y → a < b) → (x ≡ y → a ≡ b) → (y < x → b < a) → Cmp o x y → Cmp o a b
halves Ordering.lt x y a b l e g h = l h
halves Ordering.eq x y a b l e g h = e h
halves Ordering.gt x y a b l e g h = g h

round_place : (f : Format) (s : Bool) (num den : ℕ) → 0 < den → round f s num den ≡ place f s (num * 2 ^ low f / den) (λ t. compare (2 * (num * 2 ^ low f)) (t * den))
unfolding place
round_place f s num den D =
    let n = num * 2 ^ low f in
    let k = size (n / den) - prec f in
    let u = den * 2 ^ k in
    let q = n / u in
    let v : n / den / 2 ^ k ≡ q = div-div-eq-div-mul n den (2 ^ k) in
    let m : (2 * q + 1) * 2 ^ k * den ≡ 2 * (q * u) + u = mul_assoc (2 * q + 1) (2 ^ k) den ∙ ap (λ (x : ℕ). (2 * q + 1) * x) (mul_comm (2 ^ k) den) ∙ add-mul (2 * q) 1 u ∙ omega (arith, mul_assoc 2 q u) in
    let d : q * u + n % u ≡ n = div-add-mod' n u in
    round_is f s num den
    ∙ ap (λ (o : Ordering). units f s (nearest q o) k)
    (sym (compare_is (compare (n % u * 2) u) (2 * n) ((2 * q + 1) * 2 ^ k * den)
    (halves (compare (n % u * 2) u) (n % u * 2) u (2 * n) ((2 * q + 1) * 2 ^ k * den) (λ h. omega arith) (λ h. omega arith) (λ h. omega arith) (cmp (n % u * 2) u))))
    ∙ ap (λ (x : ℕ). units f s (nearest x (compare (2 * n) ((2 * x + 1) * 2 ^ k * den))) k) (sym v)

pub multiples_rise : (d s t : ℕ) → s ≤ t → s * d ≤ t * d
multiples_rise d s t h = mul-le-mul_right d h

pub multiples_back : (d : ℕ) → 0 < d → (s t : ℕ) → s * d ≤ t * d → s ≤ t
multiples_back d D s t h = le_of_mul-le-mul_right h D

pub round_rounded : (f : Format) (s : Bool) (num den : ℕ) → 0 < den → Rounded f (FractionUnder (num * 2 ^ low f) den) (FractionOver (num * 2 ^ low f) den) s (round f s num den)
round_rounded f s num den D =
    let n = num * 2 ^ low f in
    let w = n / den in
    let a : w * den ≤ n = div-mul-le_self n den in
    let b : n < suc w * den = (div-lt_iff_lt-mul D).0 (lt-suc_self w) in
    let x : 2 * w * den ≡ 2 * (w * den) = mul_assoc 2 w den in
    let y : 2 * suc w * den ≡ 2 * (suc w * den) = mul_assoc 2 (suc w) den in
    subst (λ (v : Float). Rounded f (FractionUnder n den) (FractionOver n den) s v) (sym (round_place f s num den D))
    (place_rounded (2 * n) (λ t. t * den) (multiples_rise den) (multiples_back den D) f s w (omega arith) (omega arith))
