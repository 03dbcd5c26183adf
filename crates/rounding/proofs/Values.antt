-- The finite values that a format holds: each is a whole number of units that `prec` digits hold, below 2 ^ (emax + 1), and that number with the sign
-- determines the float. And a fraction that is such a number is rounded to itself. Assumes nothing.
use Rattle.std.proofs.Common.{◌≡◌, ℕ, zero, suc, ◌+◌, ◌-◌, ◌*◌, ◌/◌, ◌%◌, ◌^◌, ◌<◌, ◌≤◌, Bool, ◌&&◌, T, eqb, ltb, leb, ℤ, pos, negsuc, sym, refl, ap, ◌∙◌, subst, le_of_eq, lt_of_lt_of_le, le_of_suc-le-suc, lt_of_le_of_lt, lt_irrefl, zero-lt-suc, mul_assoc, mul_comm, lt_of_mul-lt-mul_right, mul-lt-mul_of_pos_right, lt_of_not-le, zero-mul, mul-one, sub-add_cancel, mul_right_comm, mul-div_cancel, arith, ltb→lt, leb→le, pow_pos, pow-add, shl_lt}
use lib.Pow.{pow-lt}
use lib.Ieee.{Float, fin, Format, prec, emax, low, up, down, size, fits, round, of_bits}
use lib.Ieee.Digits.{size-le}
use lib.Ieee.Fits.{and_l, and_r}
use lib.Ieee.Exact.{HasValue, round_exact}
use lib.Ieee.Scale.{overflow, round_same}
use lib.Ieee.Bits.{of_bits-to_bits}
use Rattle.rounding.specs.Rounded.{Holds}
use Rattle.rounding.proofs.Encoding.{bits_of}

-- ---- the finite values that a format holds
pub value_held : (f : Format) (s : Bool) (m : ℕ) (e : ℤ) → T (fits f (fin s m e)) → (a : ℕ) × Holds (prec f) a × (a < overflow f) × HasValue (fin s m e) s a (2 ^ low f)
unfolding fits
value_held f s zero e t = (0, record { q = 0; k = 0; few = pow_pos (prec f); is = refl }, pow_pos (low f + suc (emax f)), (refl, ap (λ (x : ℕ). x * 2 ^ low f) (zero-mul (up e)) ∙ zero-mul (2 ^ low f) ∙ sym (zero-mul (down e))))
value_held f s (suc m) e t = go e (leb→le (down e) (2 ^ low f) (and_r (X && Y) Z (and_l (X && Y && Z) W t))) (ltb→lt (suc m * up e) (2 ^ suc (emax f) * down e) (and_r (X && Y && Z) W t))
  where
    X : Bool
    X = eqb (suc m % 2) 1

    Y : Bool
    Y = ltb (suc m) (2 ^ prec f)

    Z : Bool
    Z = leb (down e) (2 ^ low f)

    W : Bool
    W = ltb (suc m * up e) (2 ^ suc (emax f) * down e)

    small : suc m < 2 ^ prec f
    small = ltb→lt (suc m) (2 ^ prec f) (and_r X Y (and_l (X && Y) Z (and_l (X && Y && Z) W t)))

    -- below the overflow, from the same as fractions
    under : (a n d : ℕ) → n * 2 ^ low f ≡ a * d → n < 2 ^ suc (emax f) * d → 0 < d → a < overflow f
    under a n d v h D = lt_of_mul-lt-mul_right d (lt_of_le_of_lt (le_of_eq (sym v)) (lt_of_lt_of_le (mul-lt-mul_of_pos_right h (pow_pos (low f))) (le_of_eq (mul_right_comm (2 ^ suc (emax f)) d (2 ^ low f) ∙ ap (λ (x : ℕ). x * d) (mul_comm (2 ^ suc (emax f)) (2 ^ low f) ∙ sym (pow-add 2 (low f) (suc (emax f))))))))

    go : (e : ℤ) → down e ≤ 2 ^ low f → suc m * up e < 2 ^ suc (emax f) * down e → (a : ℕ) × Holds (prec f) a × (a < overflow f) × HasValue (fin s (suc m) e) s a (2 ^ low f)
    go (pos k) D h =
        let v : suc m * 2 ^ k * 2 ^ low f ≡ suc m * 2 ^ (k + low f) * 1 = mul_assoc (suc m) (2 ^ k) (2 ^ low f) ∙ ap (λ (x : ℕ). suc m * x) (sym (pow-add 2 k (low f))) ∙ sym (mul-one (suc m * 2 ^ (k + low f))) in
        (suc m * 2 ^ (k + low f), record { q = suc m; k = k + low f; few = small; is = refl }, under (suc m * 2 ^ (k + low f)) (suc m * 2 ^ k) 1 v h (zero-lt-suc 0), (refl, v))
    go (negsuc k) D h =
        let j : suc k ≤ low f = le_of_suc-le-suc (lt_of_not-le (λ (g : suc (low f) ≤ suc k). lt_irrefl (2 ^ low f) (lt_of_lt_of_le (pow-lt g) D))) in
        let v : suc m * 1 * 2 ^ low f ≡ suc m * 2 ^ (low f - suc k) * 2 ^ suc k = ap (λ (x : ℕ). x * 2 ^ low f) (mul-one (suc m)) ∙ ap (λ (x : ℕ). suc m * 2 ^ x) (sym (sub-add_cancel j)) ∙ ap (λ (x : ℕ). suc m * x) (pow-add 2 (low f - suc k) (suc k)) ∙ sym (mul_assoc (suc m) (2 ^ (low f - suc k)) (2 ^ suc k)) in
        (suc m * 2 ^ (low f - suc k), record { q = suc m; k = low f - suc k; few = small; is = refl }, under (suc m * 2 ^ (low f - suc k)) (suc m * 1) (2 ^ suc k) v h (pow_pos (suc k)), (refl, v))

-- ---- what p digits hold, by its leading digits
pub leading : (p g : ℕ) → 2 ≤ p → Holds p g → g / 2 ^ (size g - p) * 2 ^ (size g - p) ≡ g
leading p g P H =
    let k = size g - p in
    let s : size g ≤ p + H.k = size-le g (p + H.k) (lt_of_le_of_lt (le_of_eq H.is) (shl_lt p H.k H.few)) in
    let w : k ≤ H.k = omega arith in
    let e : g ≡ H.q * 2 ^ (H.k - k) * 2 ^ k = H.is ∙ ap (λ (y : ℕ). H.q * 2 ^ y) (sym (sub-add_cancel w)) ∙ ap (λ (y : ℕ). H.q * y) (pow-add 2 (H.k - k) k) ∙ sym (mul_assoc H.q (2 ^ (H.k - k)) (2 ^ k)) in
    ap (λ (x : ℕ). x * 2 ^ k) (ap (λ (x : ℕ). x / 2 ^ k) e ∙ mul-div_cancel (H.q * 2 ^ (H.k - k)) (pow_pos k)) ∙ sym e

-- ---- a value determines the float
pub same_value : (f : Format) (s : Bool) (a : ℕ) (r v : Float) → T (fits f r) → T (fits f v) → HasValue r s a (2 ^ low f) → HasValue v s a (2 ^ low f) → r ≡ v
same_value f s a r v R S x y = sym (of_bits-to_bits f r R) ∙ ap (of_bits f) (bits_of f r s a x ∙ sym (bits_of f v s a y)) ∙ of_bits-to_bits f v S

-- ---- N / D is a units, which the format holds
pub rounded_exact : (f : Format) (s : Bool) (N D a : ℕ) → 0 < D → Holds (prec f) a → a < overflow f → N * 2 ^ low f ≡ a * D → HasValue (round f s N D) s a (2 ^ low f)
rounded_exact f s N D a P H h e =
    subst (λ (v : Float). HasValue v s a (2 ^ low f)) (sym (round_same f s N D a (2 ^ low f) P (pow_pos (low f)) e))
    (round_exact f s a (2 ^ low f) H.q H.k (pow_pos (low f)) H.few (subst (λ (x : ℕ). x < overflow f) H.is h) (ap (λ (x : ℕ). x * 2 ^ low f) H.is))
