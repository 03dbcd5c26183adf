-- Bit patterns, over every format: the digits and the place that a pattern shows, and the pattern of q * 2 ^ k units. Assumes nothing.
use Rattle.std.proofs.Common.{◌≡◌, ℕ, zero, suc, ◌+◌, ◌-◌, ◌*◌, ◌/◌, ◌%◌, ◌^◌, ◌<◌, ◌≤◌, Bool, true, false, cond, eqb, leb, ◌⊎◌, sym, refl, ap, ◌∙◌, subst, inl, inr, le_trans, le_of_eq, le_refl, lt_of_lt_of_le, le-add_right, lt_of_le_of_lt, le_of_lt, lt_irrefl, mul-le-mul_right, mod-eq_of_lt, mul_assoc, lt-suc_self, suc-mul, mul_comm, div-lt_iff_lt-mul, eq-or-lt_of_le, mul-lt-mul_of_pos_right, zero-add, mul-div_cancel, arith, le→leb, eqb→eq, pow_pos}
use native.Mathlib.Nat.{pow-succ', add-mod_left, mul-add-mod_self_left}
use lib.Dec.{not_T}
use lib.Arith.{lt→nleb}
use lib.Ieee.{Float, nan, inf, fin, Format, prec, low, up, down, size, odd, units, hid, ones, top, of_fields, of_bits, to_bits}
use lib.Ieee.Fits.{two, down_pos}
use lib.Ieee.Exact.{HasValue, odd_sign, units_val}
use lib.Ieee.Scale.{overflow}
use lib.Ieee.Bits.{is_true, is_false, cond_no}
use Rattle.rounding.specs.Pattern.{digits_of}
use Rattle.rounding.proofs.Place.{Full, dropped}
use Rattle.rounding.proofs.Half.{half_pow}

-- ---- what a pattern below the infinity's stands for
of_bits_is : (f : Format) (b : ℕ) → of_bits f b ≡ of_fields f (leb (top f) b) (b % top f / hid f) (b % hid f)
unfolding of_bits
of_bits_is f b = refl

fields_value : (f : Format) (s : Bool) (x t : ℕ) → x < ones f → HasValue (of_fields f s x t) s (digits_of (hid f) x t * 2 ^ (x - 1)) (2 ^ low f)
unfolding of_fields
fields_value f s zero t h = odd_sign (prec f) s t 0 (low f)
fields_value f s (suc x) t h =
    subst (λ (v : Float). HasValue v s ((hid f + t) * 2 ^ (suc x - 1)) (2 ^ low f)) (sym (cond_no (eqb (suc x) (ones f)) (cond (eqb t 0) (inf s) nan) (odd (prec f) s (hid f + t) x (low f)) (not_T (eqb (suc x) (ones f)) (λ u. lt_irrefl (ones f) (subst (λ (y : ℕ). y < ones f) (eqb→eq (suc x) (ones f) u) h)))))
    (subst (λ (y : ℕ). HasValue (odd (prec f) s (hid f + t) x (low f)) s ((hid f + t) * 2 ^ y) (2 ^ low f)) (back x) (odd_sign (prec f) s (hid f + t) x (low f)))
  where
    back : (x : ℕ) → x ≡ suc x - 1
    back x = omega arith

pub value_of : (f : Format) (b : ℕ) → b % top f / hid f < ones f → HasValue (of_bits f b) (leb (top f) b) (digits_of (hid f) (b % top f / hid f) (b % hid f) * 2 ^ (b % top f / hid f - 1)) (2 ^ low f)
value_of f b h = subst (λ (v : Float). HasValue v (leb (top f) b) (digits_of (hid f) (b % top f / hid f) (b % hid f) * 2 ^ (b % top f / hid f - 1)) (2 ^ low f)) (sym (of_bits_is f b)) (fields_value f (leb (top f) b) (b % top f / hid f) (b % hid f) h)

-- with the sign's bit clear
pub positive_value : (f : Format) (b : ℕ) → b < ones f * hid f → HasValue (of_bits f b) false (digits_of (hid f) (b / hid f) (b % hid f) * 2 ^ (b / hid f - 1)) (2 ^ low f)
positive_value f b h =
    let small : b < top f = lt_of_lt_of_le h (le_trans (mul-le-mul_right (hid f) (le_of_lt (lt-suc_self (ones f)))) (le_of_eq (mul_comm (suc (ones f)) (hid f)))) in
    let m : b % top f ≡ b = mod-eq_of_lt small in
    subst (λ (s : Bool). HasValue (of_bits f b) s (digits_of (hid f) (b / hid f) (b % hid f) * 2 ^ (b / hid f - 1)) (2 ^ low f)) (is_false (leb (top f) b) (lt→nleb (top f) b small))
    (subst (λ (y : ℕ). HasValue (of_bits f b) (leb (top f) b) (digits_of (hid f) (y / hid f) (b % hid f) * 2 ^ (y / hid f - 1)) (2 ^ low f)) m
    (value_of f b (subst (λ (y : ℕ). y / hid f < ones f) (sym m) ((div-lt_iff_lt-mul (pow_pos (prec f - 1))).1 h))))

-- with the sign's bit s
pub signed_value : (f : Format) (s : Bool) (a : ℕ) → a < ones f * hid f → HasValue (of_bits f (cond s (top f) 0 + a)) s (digits_of (hid f) (a / hid f) (a % hid f) * 2 ^ (a / hid f - 1)) (2 ^ low f)
signed_value f false a h = subst (λ (b : ℕ). HasValue (of_bits f b) false (digits_of (hid f) (a / hid f) (a % hid f) * 2 ^ (a / hid f - 1)) (2 ^ low f)) (sym (zero-add a)) (positive_value f a h)
signed_value f true a h =
    let small : a < top f = lt_of_lt_of_le h (le_trans (mul-le-mul_right (hid f) (le_of_lt (lt-suc_self (ones f)))) (le_of_eq (mul_comm (suc (ones f)) (hid f)))) in
    let m : (top f + a) % top f ≡ a = add-mod_left (top f) a ∙ mod-eq_of_lt small in
    let d : (top f + a) % hid f ≡ a % hid f = mul-add-mod_self_left (hid f) (suc (ones f)) a in
    subst (λ (s : Bool). HasValue (of_bits f (top f + a)) s (digits_of (hid f) (a / hid f) (a % hid f) * 2 ^ (a / hid f - 1)) (2 ^ low f)) (is_true (leb (top f) (top f + a)) (le→leb (top f) (top f + a) (le-add_right (top f) a)))
    (subst (λ (t : ℕ). HasValue (of_bits f (top f + a)) (leb (top f) (top f + a)) (digits_of (hid f) (a / hid f) t * 2 ^ (a / hid f - 1)) (2 ^ low f)) d
    (subst (λ (y : ℕ). HasValue (of_bits f (top f + a)) (leb (top f) (top f + a)) (digits_of (hid f) (y / hid f) ((top f + a) % hid f) * 2 ^ (y / hid f - 1)) (2 ^ low f)) m
    (value_of f (top f + a) (subst (λ (y : ℕ). y / hid f < ones f) (sym m) ((div-lt_iff_lt-mul (pow_pos (prec f - 1))).1 h)))))

-- ---- the pattern of q * 2 ^ k units
pub bits_of : (f : Format) (v : Float) (s : Bool) (a : ℕ) → HasValue v s a (2 ^ low f) → to_bits f v ≡ cond s (top f) 0 + (size a - prec f) * hid f + a / 2 ^ (size a - prec f)
unfolding to_bits
bits_of f nan s a h = absurd h
bits_of f (inf t) s a h = absurd h
bits_of f (fin t m e) s a h =
    ap (λ (y : Bool). cond y (top f) 0 + (size (m * up e * 2 ^ low f / down e) - prec f) * hid f + m * up e * 2 ^ low f / down e / 2 ^ (size (m * up e * 2 ^ low f / down e) - prec f)) h.0
    ∙ ap (λ (x : ℕ). cond s (top f) 0 + (size x - prec f) * hid f + x / 2 ^ (size x - prec f)) (ap (λ (x : ℕ). x / down e) h.1 ∙ mul-div_cancel a (down_pos e))

-- the leading digit adds one to the field, and so does a carry into the next place
written : (p q k c : ℕ) → 2 ≤ p → q ≤ 2 ^ p → Full p q k → c + (size (q * 2 ^ k) - p) * 2 ^ (p - 1) + q * 2 ^ k / 2 ^ (size (q * 2 ^ k) - p) ≡ c + k * 2 ^ (p - 1) + q
written p q k c P Q F = go (eq-or-lt_of_le Q)
  where
    at : (j : ℕ) → size (q * 2 ^ k) - p ≡ j → c + (size (q * 2 ^ k) - p) * 2 ^ (p - 1) + q * 2 ^ k / 2 ^ (size (q * 2 ^ k) - p) ≡ c + j * 2 ^ (p - 1) + q * 2 ^ k / 2 ^ j
    at j e = ap (λ (x : ℕ). c + x * 2 ^ (p - 1) + q * 2 ^ k / 2 ^ x) e

    go : (q ≡ 2 ^ p) ⊎ (q < 2 ^ p) → c + (size (q * 2 ^ k) - p) * 2 ^ (p - 1) + q * 2 ^ k / 2 ^ (size (q * 2 ^ k) - p) ≡ c + k * 2 ^ (p - 1) + q
    go (inr l) =
        let hi : q * 2 ^ k < suc q * 2 ^ k = mul-lt-mul_of_pos_right (lt-suc_self q) (pow_pos k) in
        at k (dropped p (q * 2 ^ k) q k P (le_refl (q * 2 ^ k)) hi l F)
        ∙ ap (λ (x : ℕ). c + k * 2 ^ (p - 1) + x) (mul-div_cancel q (pow_pos k))
    go (inl e) =
        let b : q * 2 ^ k ≡ 2 ^ (p - 1) * 2 ^ suc k = ap (λ (x : ℕ). x * 2 ^ k) (e ∙ half_pow p P ∙ mul_comm 2 (2 ^ (p - 1))) ∙ mul_assoc (2 ^ (p - 1)) 2 (2 ^ k) ∙ ap (λ (x : ℕ). 2 ^ (p - 1) * x) (sym (pow-succ' 2 k)) in
        let hp : 2 ^ p ≡ 2 * 2 ^ (p - 1) = half_pow p P in
        let pp : 0 < 2 ^ (p - 1) = pow_pos (p - 1) in
        let hi : q * 2 ^ k < suc (2 ^ (p - 1)) * 2 ^ suc k = lt_of_le_of_lt (le_of_eq b) (mul-lt-mul_of_pos_right (lt-suc_self (2 ^ (p - 1))) (pow_pos (suc k))) in
        let d : size (q * 2 ^ k) - p ≡ suc k = dropped p (q * 2 ^ k) (2 ^ (p - 1)) (suc k) P (le_of_eq (sym b)) hi (omega arith) (inr (le_refl (2 ^ (p - 1)))) in
        let m : suc k * 2 ^ (p - 1) ≡ k * 2 ^ (p - 1) + 2 ^ (p - 1) = suc-mul k (2 ^ (p - 1)) in
        at (suc k) d
        ∙ ap (λ (x : ℕ). c + suc k * 2 ^ (p - 1) + x) (ap (λ (x : ℕ). x / 2 ^ suc k) b ∙ mul-div_cancel (2 ^ (p - 1)) (pow_pos (suc k)))
        ∙ omega arith

pub encoded : (f : Format) (s : Bool) (q k : ℕ) → q ≤ 2 ^ prec f → Full (prec f) q k → q * 2 ^ k < overflow f → to_bits f (units f s q k) ≡ cond s (top f) 0 + k * hid f + q
encoded f s q k Q F h = bits_of f (units f s q k) s (q * 2 ^ k) (units_val f s q k h) ∙ written (prec f) q k (cond s (top f) 0) (two f) Q F
