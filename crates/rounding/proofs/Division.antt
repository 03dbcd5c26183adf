-- A root with more digits by one division. B is a power of 2, and r * B is x * (2 * s) + u. Plain numbers only. Assumes nothing.
use Rattle.std.proofs.Common.{◌≡◌, ℕ, zero, suc, ◌+◌, ◌-◌, ◌*◌, ◌/◌, ◌%◌, ◌^◌, ◌<◌, ◌≤◌, sym, ap, ◌∙◌, le_trans, le_of_eq, lt_of_lt_of_le, le_of_suc-le-suc, mul-le-mul_right, mod-lt, mod-eq_of_lt, mul_assoc, suc-mul, mul_comm, div-lt_iff_lt-mul, add-mul, mul-le-mul, div-add-mod', mul-add, mul_left_comm, arith, pow_pos}
use native.Mathlib.Nat.{mul-mul-mul_comm}

module _ (s r B t : ℕ) (T : t ≡ r * B) (R : r ≤ 2 * s) (S : B ≤ 2 * s) (P : 0 < B) where
  abbrev x : ℕ
  x = t / (2 * s)

  abbrev u : ℕ
  u = t % (2 * s)

  s_pos : 0 < 2 * s
  s_pos = omega arith

  split : x * (2 * s) + u ≡ r * B
  split = div-add-mod' t (2 * s) ∙ T

  twice : 2 * s * B ≡ 2 * (s * B)
  twice = mul_assoc 2 s B

  pub x_le : x ≤ B
  x_le = le_of_suc-le-suc ((div-lt_iff_lt-mul s_pos).1 (lt_of_lt_of_le (omega (arith, mul-le-mul_right B R)) (le_of_eq (sym (suc-mul B (2 * s) ∙ ap (λ (y : ℕ). y + 2 * s) (mul_comm B (2 * s)))))))

  -- what is left once s and x are taken, before the square of x
  pub have_lt : u * B < 2 * (s * B)
  have_lt =
      let a : suc u * B ≤ 2 * s * B = mul-le-mul_right B (mod-lt t s_pos) in
      let b : suc u * B ≡ u * B + B = suc-mul u B in
      omega (arith, twice)

  square_le : x * x ≤ 2 * (s * B)
  square_le = le_trans (mul-le-mul x_le x_le) (le_trans (mul-le-mul_right B S) (le_of_eq twice))

  whole : (s * B + x) * (s * B + x) + u * B ≡ (s * s + r) * (B * B) + x * x
  whole =
      let a : (s * B + x) * (s * B + x) ≡ s * B * (s * B + x) + x * (s * B + x) = add-mul (s * B) x (s * B + x) in
      let b : s * B * (s * B + x) ≡ s * B * (s * B) + s * B * x = mul-add (s * B) (s * B) x in
      let c : x * (s * B + x) ≡ x * (s * B) + x * x = mul-add x (s * B) x in
      let d : s * B * x ≡ x * (s * B) = mul_comm (s * B) x in
      let e : s * B * (s * B) ≡ s * s * (B * B) = mul-mul-mul_comm s B s B in
      let f : (s * s + r) * (B * B) ≡ s * s * (B * B) + r * (B * B) = add-mul (s * s) r (B * B) in
      let g : r * (B * B) ≡ r * B * B = sym (mul_assoc r B B) in
      let h : (x * (2 * s) + u) * B ≡ r * B * B = ap (λ (y : ℕ). y * B) split in
      let i : (x * (2 * s) + u) * B ≡ x * (2 * s) * B + u * B = add-mul (x * (2 * s)) u B in
      let k : x * (2 * s) * B ≡ 2 * (x * (s * B)) = mul_assoc x (2 * s) B ∙ ap (λ (y : ℕ). x * y) twice ∙ mul_left_comm x 2 (s * B) in
      omega arith

  -- the square of x is in what is left
  pub fits_square : (w y : ℕ) → w ≡ s * B + x → y ≡ u * B → x * x ≤ y → (w * w + (y - x * x) ≡ (s * s + r) * (B * B)) × (y - x * x ≤ 2 * w)
  fits_square w y e i h =
      let k : w * w ≡ (s * B + x) * (s * B + x) = ap (λ (y : ℕ). y * y) e in
      (omega (arith, whole), omega (arith, have_lt))

  -- it is not, and the root is one less
  pub one_less : (w y : ℕ) → w ≡ s * B + x → y ≡ u * B → y < x * x
      → (0 < w) × (x * x ≤ y + 2 * w - 1) × ((w - 1) * (w - 1) + (y + 2 * w - 1 - x * x) ≡ (s * s + r) * (B * B)) × (y + 2 * w - 1 - x * x ≤ 2 * (w - 1))
  one_less w y e i h =
      let k : w * w ≡ (s * B + x) * (s * B + x) = ap (λ (y : ℕ). y * y) e in
      let p : 0 < w = omega (arith, have_lt) in
      let q : x * x ≤ y + 2 * w - 1 = omega (arith, square_le, have_lt, x_pos x h) in
      let z : (w - 1) * (w - 1) + 2 * w ≡ w * w + 1 = square_pred w p in
      (p, q, omega (arith, whole), omega arith)
    where
      square_pred : (w : ℕ) → 0 < w → (w - 1) * (w - 1) + 2 * w ≡ w * w + 1
      square_pred zero h = elim h [ ]
      square_pred (suc w) h =
          let a : (suc w - 1) * (suc w - 1) ≡ w * w = ap (λ (y : ℕ). y * y) (omega arith) in
          let b : suc w * suc w ≡ w * suc w + suc w = suc-mul w (suc w) in
          let c : w * suc w ≡ suc w * w = mul_comm w (suc w) in
          let d : suc w * w ≡ w * w + w = suc-mul w w in
          omega arith

      x_pos : (x : ℕ) {y : ℕ} → y < x * x → 0 < x
      x_pos zero h = absurd (omega arith)
      x_pos (suc x) h = omega arith

-- ---- as the machine has it: the dividend, the digits, the root and what is left
abbrev pub dividend : ℕ → ℕ
dividend r = r * 2 ^ 22 % 2 ^ 64

abbrev pub digits : ℕ → ℕ → ℕ
digits s r = dividend r / (2 * s)

abbrev pub joined : ℕ → ℕ → ℕ
joined s r = s * 2 ^ 22 % 2 ^ 64 + digits s r

abbrev pub have : ℕ → ℕ → ℕ
have s r = dividend r % (2 * s) * 2 ^ 22 % 2 ^ 64

-- what the proof of `longer` cites
pub record Facts (s r : ℕ) : Type 0 where
  pub taken : digits s r * digits s r ≤ have s r
      → (joined s r * joined s r + (have s r - digits s r * digits s r) ≡ (s * s + r) * 4 ^ 22) × (have s r - digits s r * digits s r ≤ 2 * joined s r)
  pub left : have s r < digits s r * digits s r
      → (0 < joined s r)
      × (digits s r * digits s r ≤ have s r + 2 * joined s r - 1)
      × ((joined s r - 1) * (joined s r - 1) + (have s r + 2 * joined s r - 1 - digits s r * digits s r) ≡ (s * s + r) * 4 ^ 22)
      × (have s r + 2 * joined s r - 1 - digits s r * digits s r ≤ 2 * (joined s r - 1))

pub facts : (s r : ℕ) → (r ≤ 2 * s) × (2 ^ 22 ≤ 2 * s) × (s < 2 ^ 32) → Facts s r
facts s r (R, S, s32) =
    let t = dividend r in
    let x = digits s r in
    let w = joined s r in
    let y = have s r in
    let P : 0 < 2 ^ 22 = pow_pos 22 in
    let t_is : t ≡ r * 2 ^ 22 = mod-eq_of_lt (omega arith) in
    let x_small : x ≤ 2 ^ 22 = x_le s r (2 ^ 22) t t_is R S P in
    let have_small : t % (2 * s) * 2 ^ 22 < 2 * (s * 2 ^ 22) = have_lt s r (2 ^ 22) t t_is R S P in
    let w_is : w ≡ s * 2 ^ 22 + x = ap (λ (y : ℕ). y + x) (mod-eq_of_lt (omega arith)) in
    let y_is : y ≡ t % (2 * s) * 2 ^ 22 = mod-eq_of_lt (omega arith) in
    record {
      taken = λ h. fits_square s r (2 ^ 22) t t_is R S P w y w_is y_is h;
      left = λ h. one_less s r (2 ^ 22) t t_is R S P w y w_is y_is h;
    }
