-- Where `place` puts a number, over every format: at `nearest q o` times 2 ^ k, for the q and k that the number's whole part shows. And what `whole_root` gives.
-- Assumes nothing.
use Rattle.std.proofs.Common.{◌≡◌, ℕ, zero, suc, ◌+◌, ◌-◌, ◌*◌, ◌/◌, ◌^◌, ◌<◌, ◌≤◌, Bool, true, false, cond, not, T, leb, ◌⊎◌, sym, refl, ap, ◌∙◌, subst, inl, inr, le_trans, le_of_eq, le_refl, lt_of_lt_of_le, le_of_suc-le-suc, lt_of_le_of_lt, lt_irrefl, mul-le-mul_right, zero-lt-suc, mul_assoc, suc-mul, mul_comm, div-lt_iff_lt-mul, mul-le-mul, le_antisymm, mul-lt-mul_of_pos_right, pow-suc, lt_of_not-le, mul-one, mul-div_cancel, add-one, arith, leb→le, pow_pos, pow_mono, pow-add}
use Prim.Native.Nat.{compare, Ordering}
use native.Mathlib.Nat.{mul-mul-mul_comm, div-eq_of_lt-le}
use lib.Dec.{nleb→lt}
use lib.Ieee.{Format, prec, low, size, nearest, units}
use lib.Ieee.Digits.{size-lt, size-le}
use lib.Ieee.Fits.{two}
use Rattle.rounding.specs.Root.{root_digits, whole_root, place, root_of}
use Rattle.rounding.proofs.Half.{Cmp, cmp}

-- ---- `compare`, from a fact
cmp_one : (o p : Ordering) (a b : ℕ) → Cmp o a b → Cmp p a b → o ≡ p
cmp_one Ordering.lt Ordering.lt a b x y = refl
cmp_one Ordering.lt Ordering.eq a b x y = absurd (omega arith)
cmp_one Ordering.lt Ordering.gt a b x y = absurd (omega arith)
cmp_one Ordering.eq Ordering.lt a b x y = absurd (omega arith)
cmp_one Ordering.eq Ordering.eq a b x y = refl
cmp_one Ordering.eq Ordering.gt a b x y = absurd (omega arith)
cmp_one Ordering.gt Ordering.lt a b x y = absurd (omega arith)
cmp_one Ordering.gt Ordering.eq a b x y = absurd (omega arith)
cmp_one Ordering.gt Ordering.gt a b x y = refl

pub compare_is : (o : Ordering) (a b : ℕ) → Cmp o a b → compare a b ≡ o
compare_is o a b h = cmp_one (compare a b) o a b (cmp a b) h

pub compare_scaled : (a b d : ℕ) → 0 < d → compare (a * d) (b * d) ≡ compare a b
compare_scaled a b d D = compare_is (compare a b) (a * d) (b * d) (go (compare a b) (cmp a b))
  where
    go : (o : Ordering) → Cmp o a b → Cmp o (a * d) (b * d)
    go Ordering.lt h = mul-lt-mul_of_pos_right h D
    go Ordering.eq h = ap (λ (x : ℕ). x * d) h
    go Ordering.gt h = mul-lt-mul_of_pos_right h D

-- ---- a number's digits
pub pow_lt_back : (i p : ℕ) → 2 ^ i < 2 ^ p → i < p
pow_lt_back i p h = lt_of_not-le (λ (g : p ≤ i). lt_irrefl (2 ^ i) (lt_of_lt_of_le h (pow_mono g)))

pub size_is : (a n : ℕ) → 2 ^ a ≤ n → n < 2 ^ suc a → size n ≡ suc a
size_is a n lo hi = le_antisymm (size-le n (suc a) hi) (pow_lt_back a (size n) (lt_of_le_of_lt lo (size-lt n)))

-- q has all p digits, or nothing is dropped
abbrev pub Full : ℕ → ℕ → ℕ → Type 0
Full p q k = (k ≡ 0) ⊎ (2 ^ (p - 1) ≤ q)

pub lead : (p k : ℕ) → 2 ≤ p → suc (p - 1 + k) ≡ p + k
lead p k h = omega arith

-- a number w with q * 2 ^ k ≤ w < (q + 1) * 2 ^ k drops k digits
pub dropped : (p w q k : ℕ) → 2 ≤ p → q * 2 ^ k ≤ w → w < suc q * 2 ^ k → q < 2 ^ p → Full p q k → size w - p ≡ k
dropped p w q k P lo hi Q (inl z) =
    let e : 2 ^ k ≡ 1 = ap (λ (x : ℕ). 2 ^ x) z in
    let h : suc q * 2 ^ k ≡ suc q = ap (λ (x : ℕ). suc q * x) e ∙ mul-one (suc q) in
    let s : size w ≤ p = size-le w p (omega arith) in
    omega arith
dropped p w q k P lo hi Q (inr f) =
    let a : 2 ^ (p - 1 + k) ≤ w = le_trans (le_of_eq (pow-add 2 (p - 1) k)) (le_trans (mul-le-mul_right (2 ^ k) f) lo) in
    let b : w < 2 ^ suc (p - 1 + k) = lt_of_lt_of_le hi (le_trans (mul-le-mul_right (2 ^ k) Q) (le_of_eq (sym (pow-add 2 p k) ∙ ap (λ (x : ℕ). 2 ^ x) (sym (lead p k P))))) in
    let s : size w ≡ suc (p - 1 + k) = size_is (p - 1 + k) w a b in
    omega arith

pub whole_is : (w q k : ℕ) → q * 2 ^ k ≤ w → w < suc q * 2 ^ k → w / 2 ^ k ≡ q
whole_is w q k lo hi = div-eq_of_lt-le (2 ^ k) lo (subst (λ (x : ℕ). w < x * 2 ^ k) (sym (add-one q)) hi)

pub place_at : (f : Format) (s : Bool) (w : ℕ) (o : ℕ → Ordering) (q k : ℕ) → q * 2 ^ k ≤ w → w < suc q * 2 ^ k → q < 2 ^ prec f → Full (prec f) q k
    → place f s w o ≡ units f s (nearest q (o ((2 * q + 1) * 2 ^ k))) k
unfolding place
place_at f s w o q k lo hi Q F =
    ap (λ (j : ℕ). units f s (nearest (w / 2 ^ j) (o ((2 * (w / 2 ^ j) + 1) * 2 ^ j))) j) (dropped (prec f) w q k (two f) lo hi Q F)
    ∙ ap (λ (x : ℕ). units f s (nearest x (o ((2 * x + 1) * 2 ^ k))) k) (whole_is w q k lo hi)

-- ---- the whole part of a root
-- w is the largest number whose square is at most n
abbrev pub Root : ℕ → ℕ → Type 0
Root n w = (w * w ≤ n) × (n < suc w * suc w)

square_twice : (r : ℕ) → 2 * r * (2 * r) ≡ 4 * (r * r)
square_twice r = mul-mul-mul_comm 2 r 2 r

pub square_suc : (r : ℕ) → suc r * suc r ≡ r * r + 2 * r + 1
square_suc r =
    let a : suc r * suc r ≡ r * suc r + suc r = suc-mul r (suc r) in
    let b : r * suc r ≡ suc r * r = mul_comm r (suc r) in
    let c : suc r * r ≡ r * r + r = suc-mul r r in
    omega arith

root_step : (n r : ℕ) (b : Bool) → Root (n / 4) r → (T b → suc (2 * r) * suc (2 * r) ≤ n) → (T (not b) → n < suc (2 * r) * suc (2 * r)) → Root n (cond b (suc (2 * r)) (2 * r))
root_step n r true h y u =
    let k : suc r * suc r ≡ r * r + 2 * r + 1 = square_suc r in
    let a : suc (suc (2 * r)) * suc (suc (2 * r)) ≡ suc (2 * r) * suc (2 * r) + 2 * suc (2 * r) + 1 = square_suc (suc (2 * r)) in
    let b : suc (2 * r) * suc (2 * r) ≡ 2 * r * (2 * r) + 2 * (2 * r) + 1 = square_suc (2 * r) in
    let c : 2 * r * (2 * r) ≡ 4 * (r * r) = square_twice r in
    (y tt, omega arith)
root_step n r false h y u =
    let c : 2 * r * (2 * r) ≡ 4 * (r * r) = square_twice r in
    (omega arith, u tt)

digits_root : (d n : ℕ) → n < 4 ^ d → Root n (root_digits d n)
unfolding root_digits
digits_root zero n h = (omega arith, omega arith)
digits_root (suc d) n h =
    let r = root_digits d (n / 4) in
    root_step n r (leb (suc (2 * r) * suc (2 * r)) n) (digits_root d (n / 4) ((div-lt_iff_lt-mul (zero-lt-suc 3)).1 (subst (λ (x : ℕ). n < x) (pow-suc 4 d) h)))
    (leb→le (suc (2 * r) * suc (2 * r)) n) (nleb→lt (suc (2 * r) * suc (2 * r)) n)

pub four : (d : ℕ) → 4 ^ d ≡ 2 ^ d * 2 ^ d
four zero = refl
four (suc d) = pow-suc 4 d ∙ ap (λ (x : ℕ). x * 4) (four d) ∙ sym (ap (λ (x : ℕ). x * x) (pow-suc 2 d) ∙ mul-mul-mul_comm (2 ^ d) 2 (2 ^ d) 2)

pub root_is : (n : ℕ) → Root n (whole_root n)
unfolding whole_root
root_is n = digits_root (size n) n (lt_of_lt_of_le (size-lt n) (le_trans (le_of_eq (sym (mul-one (2 ^ size n)))) (le_trans (mul-le-mul (le_refl (2 ^ size n)) (pow_pos (size n))) (le_of_eq (sym (four (size n)))))))

square_mono : {a b : ℕ} → a ≤ b → a * a ≤ b * b
square_mono h = mul-le-mul h h

pub root_ge : (n x : ℕ) → x * x ≤ n → x ≤ whole_root n
root_ge n x h = le_of_suc-le-suc (lt_of_not-le (λ (g : suc (whole_root n) ≤ x). lt_irrefl n (lt_of_lt_of_le (root_is n).1 (le_trans (square_mono g) h))))

pub root_lt : (n x : ℕ) → n < x * x → whole_root n < x
root_lt n x h = lt_of_not-le (λ (g : x ≤ whole_root n). lt_irrefl n (lt_of_lt_of_le h (le_trans (square_mono g) (root_is n).0)))

-- ---- where num / den is A exactly, in squares of units
pub root_exact : (f : Format) (num den A : ℕ) → 0 < den → num * 4 ^ low f ≡ A * den → root_of f num den ≡ place f false (whole_root A) (λ t. compare (4 * A) (t * t))
unfolding root_of place
root_exact f num den A D e =
    let n = num * 4 ^ low f in
    let w = whole_root A in
    let k = size w - prec f in
    let q = w / 2 ^ k in
    let t = (2 * q + 1) * 2 ^ k in
    let r : whole_root (n / den) ≡ w = ap whole_root (ap (λ (x : ℕ). x / den) e ∙ mul-div_cancel A D) in
    ap (λ (v : ℕ). place f false v (λ t. compare (4 * n) (t * t * den))) r
    ∙ ap (λ (x : ℕ). units f false (nearest q (compare x (t * t * den))) k) (ap (λ (x : ℕ). 4 * x) e ∙ sym (mul_assoc 4 A den))
    ∙ ap (λ (x : Ordering). units f false (nearest q x) k) (compare_scaled (4 * A) (t * t) den D)
