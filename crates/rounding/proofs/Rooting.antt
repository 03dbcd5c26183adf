-- From the digits of a whole root to the root of a float, over every format. Assumes nothing.
use Rattle.std.proofs.Common.{◌≡◌, ℕ, zero, suc, ◌+◌, ◌-◌, ◌*◌, ◌/◌, ◌%◌, ◌^◌, ◌<◌, ◌≤◌, min, false, ◌⊎◌, sym, refl, ap, ◌∙◌, subst, inl, inr, le_trans, le_of_eq, lt_of_lt_of_le, mul-le-mul_right, mul_assoc, mul_comm, mul-lt-mul_of_pos_right, mul-pos, mul_left_comm, arith, pow_pos}
use Prim.Native.Nat.{compare, Ordering}
use native.Mathlib.Nat.{mul-mul-mul_comm, pow-succ'}
use lib.Arith.{digits_mod}
use lib.Ieee.{Format, prec, nearest, units}
use lib.Ieee.Fits.{two}
use lib.Ieee.Nearest.{closest}
use Rattle.rounding.specs.Root.{whole_root, place}
use Rattle.rounding.proofs.Place.{compare_is, compare_scaled, place_at, square_suc, four, root_ge, root_lt}
use Rattle.rounding.proofs.Half.{half_pow, parity}

last_digit : (R : ℕ) → (R ≡ 2 * (R / 2)) ⊎ (R ≡ 2 * (R / 2) + 1)
last_digit R = go (parity R)
  where
    go : (R % 2 ≡ 0) ⊎ (R % 2 ≡ 1) → (R ≡ 2 * (R / 2)) ⊎ (R ≡ 2 * (R / 2) + 1)
    go (inl h) = inl (omega arith)
    go (inr h) = inr (omega arith)

none_or_some : (x : ℕ) → (x ≡ 0) ⊎ (0 < x)
none_or_some zero = inl refl
none_or_some (suc x) = inr (omega arith)

last : (n q s : ℕ) → n ≡ q * 4 + s → s < 4 → n % 4 ≡ s
last n q s e h = ap (λ (x : ℕ). x % 4) e ∙ digits_mod q h

-- ---- R is the whole root of M, with rest left over. Rounded to half as many, √M goes where R's last digit and what is left say.
module _ (M R rest : ℕ) (e : R * R + rest ≡ M) (h : rest ≤ 2 * R) where
  abbrev q : ℕ
  q = R / 2

  abbrev n : ℕ
  n = 2 * R + min rest 1

  by : (o : Ordering) → n / 4 ≡ q → compare M ((2 * q + 1) * (2 * q + 1)) ≡ o → compare (n % 4 * 2) 4 ≡ o → nearest q (compare M ((2 * q + 1) * (2 * q + 1))) ≡ closest n 4
  by o d x y = ap (λ (z : Ordering). nearest q z) (x ∙ sym y) ∙ ap (λ (z : ℕ). nearest z (compare (n % 4 * 2) 4)) (sym d)

  pub halved : nearest q (compare M ((2 * q + 1) * (2 * q + 1))) ≡ closest n 4
  halved = go (last_digit R) (none_or_some rest)
    where
      go : (R ≡ 2 * q) ⊎ (R ≡ 2 * q + 1) → (rest ≡ 0) ⊎ (0 < rest) → nearest q (compare M ((2 * q + 1) * (2 * q + 1))) ≡ closest n 4
      go (inl a) r =
          let k : R * R ≡ 2 * q * (2 * q) = ap (λ (x : ℕ). x * x) a in
          let s : suc (2 * q) * suc (2 * q) ≡ 2 * q * (2 * q) + 2 * (2 * q) + 1 = square_suc (2 * q) in
          let t : (2 * q + 1) * (2 * q + 1) ≡ suc (2 * q) * suc (2 * q) = ap (λ (x : ℕ). x * x) (omega arith) in
          let v : n % 4 ≡ min rest 1 = last n q (min rest 1) (omega arith) (omega arith) in
          by Ordering.lt (omega arith) (compare_is Ordering.lt M ((2 * q + 1) * (2 * q + 1)) (omega arith)) (compare_is Ordering.lt (n % 4 * 2) 4 (omega arith))
      go (inr a) (inl z) =
          let k : R * R ≡ (2 * q + 1) * (2 * q + 1) = ap (λ (x : ℕ). x * x) a in
          let v : n % 4 ≡ 2 = last n q 2 (omega arith) (omega arith) in
          by Ordering.eq (omega arith) (compare_is Ordering.eq M ((2 * q + 1) * (2 * q + 1)) (omega arith)) (compare_is Ordering.eq (n % 4 * 2) 4 (omega arith))
      go (inr a) (inr z) =
          let k : R * R ≡ (2 * q + 1) * (2 * q + 1) = ap (λ (x : ℕ). x * x) a in
          let v : n % 4 ≡ 3 = last n q 3 (omega arith) (omega arith) in
          by Ordering.gt (omega arith) (compare_is Ordering.gt M ((2 * q + 1) * (2 * q + 1)) (omega arith)) (compare_is Ordering.gt (n % 4 * 2) 4 (omega arith))

  -- ---- the same of M * 4 ^ J, in a format with one digit less than R
  square_scaled : (x J : ℕ) → x * 2 ^ J * (x * 2 ^ J) ≡ x * x * 4 ^ J
  square_scaled x J = mul-mul-mul_comm x (2 ^ J) x (2 ^ J) ∙ ap (λ (y : ℕ). x * x * y) (sym (four J))

  half_scaled : (x J : ℕ) → x * 2 ^ suc J ≡ 2 * x * 2 ^ J
  half_scaled x J = ap (λ (y : ℕ). x * y) (pow-succ' 2 J) ∙ sym (mul_assoc x 2 (2 ^ J)) ∙ ap (λ (y : ℕ). y * 2 ^ J) (mul_comm x 2)

  pub rooted : (f : Format) (J : ℕ) → 2 ^ prec f ≤ R → R < 2 ^ suc (prec f) → place f false (whole_root (M * 4 ^ J)) (λ t. compare (4 * (M * 4 ^ J)) (t * t)) ≡ units f false (closest n 4) (suc J)
  rooted f J lo hi =
      let A = M * 4 ^ J in
      let p = prec f in
      let w = whole_root A in
      let s : suc R * suc R ≡ R * R + 2 * R + 1 = square_suc R in
      let a : R * 2 ^ J ≤ w = root_ge A (R * 2 ^ J) (le_trans (le_of_eq (square_scaled R J)) (mul-le-mul_right (4 ^ J) (omega arith))) in
      let P4 : 0 < 4 ^ J = subst (λ (x : ℕ). 0 < x) (sym (four J)) (mul-pos (pow_pos J) (pow_pos J)) in
      let b : w < suc R * 2 ^ J = root_lt A (suc R * 2 ^ J) (lt_of_lt_of_le (mul-lt-mul_of_pos_right (omega arith) P4) (le_of_eq (sym (square_scaled (suc R) J)))) in
      let t : 2 ^ suc p ≡ 2 * 2 ^ p = pow-succ' 2 p in
      let u : 2 ^ p ≡ 2 * 2 ^ (p - 1) = half_pow p (two f) in
      let m = 2 * q + 1 in
      place_at f false w (λ t. compare (4 * A) (t * t)) q (suc J)
      (le_trans (le_of_eq (half_scaled q J)) (le_trans (mul-le-mul_right (2 ^ J) (omega arith)) a))
      (lt_of_lt_of_le b (le_trans (mul-le-mul_right (2 ^ J) (omega arith)) (le_of_eq (sym (half_scaled (suc q) J)))))
      (omega arith)
      (inr (omega arith))
      ∙ ap (λ (x : Ordering). units f false (nearest q x) (suc J))
      (ap (λ (x : ℕ). compare (4 * A) x) (square_scaled m (suc J))
      ∙ ap (λ (x : ℕ). compare x (m * m * 4 ^ suc J)) (mul_left_comm 4 M (4 ^ J) ∙ ap (λ (x : ℕ). M * x) (sym (pow-succ' 4 J)))
      ∙ compare_scaled M (m * m) (4 ^ suc J) (subst (λ (x : ℕ). 0 < x) (sym (four (suc J))) (mul-pos (pow_pos (suc J)) (pow_pos (suc J)))))
      ∙ ap (λ (x : ℕ). units f false x (suc J)) halved
