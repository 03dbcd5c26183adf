-- The significand of a float, moved to the top of a word and then to an even place, is M, and M * 4 ^ J is the float in squares of units. Plain numbers only.
-- Assumes nothing.
use Rattle.std.proofs.Common.{◌≡◌, ℕ, zero, suc, ◌+◌, ◌-◌, ◌*◌, ◌/◌, ◌%◌, ◌^◌, ◌<◌, ◌≤◌, sym, ap, ◌∙◌, subst, le_trans, le_of_eq, le_refl, lt_of_lt_of_le, le_of_suc-le-suc, le-add_right, lt_of_le_of_lt, lt_irrefl, mul-le-mul_right, mul_assoc, mul_comm, mul-le-mul, lt_of_mul-lt-mul_right, mul-lt-mul_of_pos_right, one-mul, lt_of_not-le, le-div_iff_mul-le, div-le_self, mul-div_cancel, add-one, arith, pow_pos, pow_mono, pow-add, shl_lt}
use native.Mathlib.Nat.{pow-succ'}
use Rattle.rounding.proofs.Place.{four, square_suc, pow_lt_back}

-- x * 2 ^ a / 2 ^ b
pub shifted : (x a b d : ℕ) → a ≡ d + b → x * 2 ^ a / 2 ^ b ≡ x * 2 ^ d
shifted x a b d e = ap (λ (y : ℕ). y / 2 ^ b) (ap (λ (y : ℕ). x * 2 ^ y) e ∙ ap (λ (y : ℕ). x * y) (pow-add 2 d b) ∙ sym (mul_assoc x (2 ^ d) (2 ^ b))) ∙ mul-div_cancel (x * 2 ^ d) (pow_pos b)

pub joined : (x a b : ℕ) → x * 2 ^ a * 2 ^ b ≡ x * 2 ^ (a + b)
joined x a b = mul_assoc x (2 ^ a) (2 ^ b) ∙ ap (λ (y : ℕ). x * y) (sym (pow-add 2 a b))

pub less : (x y : ℕ) → x * x < y * y → x < y
less x y h = lt_of_not-le (λ (g : y ≤ x). lt_irrefl (x * x) (lt_of_lt_of_le h (mul-le-mul g g)))

four_is : (d : ℕ) → 4 ^ d ≡ 2 ^ (d + d)
four_is d = four d ∙ sym (pow-add 2 d d)

module _ (p q k l z : ℕ) (P : p ≤ 53) (Q : q < 2 ^ p) (lo : 2 ^ 63 ≤ q * 2 ^ z) (hi : q * 2 ^ z < 2 ^ 64) (L : 149 ≤ l) where
  abbrev E : ℕ
  E = k + l - z

  abbrev a : ℕ
  a = q * 2 ^ z / 2 ^ (E % 2)

  abbrev M : ℕ
  M = a * 4 ^ (p + 1) / 2 ^ 64

  abbrev J : ℕ
  J = (E + 1) / 2 + 31 - p

  pub many : 63 < p + z
  many = pow_lt_back 63 (p + z) (lt_of_le_of_lt lo (shl_lt p z Q))

  some : (q : ℕ) → 2 ^ 63 ≤ q * 2 ^ z → 0 < q
  some zero h = absurd (omega arith)
  some (suc q) h = omega arith

  pub few : z < 64
  few = pow_lt_back z 64 (lt_of_le_of_lt (le_trans (le_of_eq (sym (one-mul (2 ^ z)))) (mul-le-mul_right (2 ^ z) (some q lo))) hi)

  a_is : a ≡ q * 2 ^ (z - E % 2)
  a_is = shifted q z (E % 2) (z - E % 2) (omega (arith, many, few))

  M_is : M ≡ q * 2 ^ (z - E % 2 + (p + 1 + (p + 1)) - 64)
  M_is =
      ap (λ (x : ℕ). x * 4 ^ (p + 1) / 2 ^ 64) a_is
      ∙ ap (λ (x : ℕ). q * 2 ^ (z - E % 2) * x / 2 ^ 64) (four_is (p + 1))
      ∙ ap (λ (x : ℕ). x / 2 ^ 64) (joined q (z - E % 2) (p + 1 + (p + 1)))
      ∙ shifted q (z - E % 2 + (p + 1 + (p + 1))) 64 (z - E % 2 + (p + 1 + (p + 1)) - 64) (omega (arith, many, few))

  pub aligned : q * 2 ^ k * 2 ^ l ≡ M * 4 ^ J
  aligned =
      joined q k l
      ∙ ap (λ (x : ℕ). q * 2 ^ x) (sums p k l z (omega arith) (omega (arith, many)) (omega (arith, few)))
      ∙ sym (joined q (z - E % 2 + (p + 1 + (p + 1)) - 64) (J + J))
      ∙ ap (λ (x : ℕ). q * 2 ^ (z - E % 2 + (p + 1 + (p + 1)) - 64) * x) (sym (four_is J))
      ∙ ap (λ (x : ℕ). x * 4 ^ J) (sym M_is)
    where
      sums : (p k l z : ℕ) → p ≤ 53 → 64 ≤ p + z → z + 85 ≤ l + 0 → k + l ≡ z - (k + l - z) % 2 + (p + 1 + (p + 1)) - 64 + (((k + l - z + 1) / 2 + 31 - p) + ((k + l - z + 1) / 2 + 31 - p))
      sums p k l z a b c = omega arith

  -- M has 2 p + 1 or 2 p + 2 digits
  M_back : M * 2 ^ 64 ≡ a * 4 ^ (p + 1)
  M_back =
      ap (λ (x : ℕ). x * 2 ^ 64) M_is
      ∙ joined q (z - E % 2 + (p + 1 + (p + 1)) - 64) 64
      ∙ ap (λ (x : ℕ). q * 2 ^ x) (omega (arith, many, few))
      ∙ sym (joined q (z - E % 2) (p + 1 + (p + 1)))
      ∙ ap (λ (x : ℕ). q * 2 ^ (z - E % 2) * x) (sym (four_is (p + 1)))
      ∙ ap (λ (x : ℕ). x * 4 ^ (p + 1)) (sym a_is)

  pub a_ge : 2 ^ 62 ≤ a
  a_ge = (le-div_iff_mul-le (pow_pos (E % 2))).1 (le_trans (mul-le-mul (le_refl (2 ^ 62)) (pow_mono (bit E))) lo)
    where
      bit : (x : ℕ) → x % 2 ≤ 1
      bit x = omega arith

  a_lt : a < 2 ^ 64
  a_lt = lt_of_le_of_lt (div-le_self (q * 2 ^ z) (2 ^ (E % 2))) hi

  four_more : 4 ^ (p + 1) ≡ 4 * 4 ^ p
  four_more = ap (λ (x : ℕ). 4 ^ x) (add-one p) ∙ pow-succ' 4 p

  M_ge : 4 ^ p ≤ M
  M_ge =
      let x : 2 ^ 62 * 4 ^ (p + 1) ≤ a * 4 ^ (p + 1) = mul-le-mul_right (4 ^ (p + 1)) a_ge in
      let y = M_back in
      let z = four_more in
      omega arith

  M_lt : M < 4 ^ (p + 1)
  M_lt = lt_of_mul-lt-mul_right (2 ^ 64) (lt_of_le_of_lt (le_of_eq M_back) (lt_of_lt_of_le (mul-lt-mul_of_pos_right a_lt P4) (le_of_eq (mul_comm (2 ^ 64) (4 ^ (p + 1))))))
    where
      P4 : 0 < 4 ^ (p + 1)
      P4 = subst (λ (x : ℕ). 0 < x) (sym (four_is (p + 1))) (pow_pos (p + 1 + (p + 1)))

  pub root_full : (R rest : ℕ) → R * R + rest ≡ M → rest ≤ 2 * R → 2 ^ p ≤ R
  root_full R rest e h = le_of_suc-le-suc (less (2 ^ p) (suc R) (lt_of_le_of_lt (le_of_eq (sym (four p))) (lt_of_le_of_lt M_ge (omega (arith, square_suc R)))))

  pub root_short : (R rest : ℕ) → R * R + rest ≡ M → R < 2 ^ suc p
  root_short R rest e = less R (2 ^ suc p) (lt_of_le_of_lt (le_trans (le-add_right (R * R) rest) (le_of_eq e)) (lt_of_lt_of_le M_lt (le_of_eq (ap (λ (x : ℕ). 4 ^ x) (add-one p) ∙ four (suc p)))))
