-- A step of Newton's method for a whole root, in plain numbers: from the root of m / (B * B), or one more, to that of m, or one more. Assumes nothing.
use Rattle.std.proofs.Common.{◌≡◌, ℕ, suc, ◌+◌, ◌-◌, ◌*◌, ◌/◌, ◌%◌, ◌^◌, ◌<◌, ◌≤◌, Bool, true, false, not, T, leb, ◌⊎◌, sym, ap, ◌∙◌, subst, inl, inr, le_trans, le_of_eq, lt_of_lt_of_le, le_of_suc-le-suc, mul-le-mul_right, mod-eq_of_lt, mul_assoc, suc-mul, mul_comm, div-lt_iff_lt-mul, add-mul, mul-le-mul, mul-le-mul_left, mul-pos, lt_of_not-le, mul-add, div-mul-le_self, mul_left_comm, add-one, arith, leb→le, pow_pos, pow_mono}
use native.Mathlib.Nat.{div-div-eq-div-mul, pow-succ', mul-mul-mul_comm}
use lib.Dec.{nleb→lt}
use Rattle.rounding.specs.Root.{whole_root}
use Rattle.rounding.proofs.Place.{root_is, root_ge, root_lt, square_suc, four}
use Rattle.rounding.proofs.Half.{half_pow}

square_sum : (a b : ℕ) → (a + b) * (a + b) ≡ a * a + 2 * (a * b) + b * b
square_sum a b =
    let x : (a + b) * (a + b) ≡ a * (a + b) + b * (a + b) = add-mul a b (a + b) in
    let y : a * (a + b) ≡ a * a + a * b = mul-add a a b in
    let z : b * (a + b) ≡ b * a + b * b = mul-add b a b in
    let w : b * a ≡ a * b = mul_comm b a in
    omega arith

-- two numbers that are k apart
record Apart (x y : ℕ) : Type 0 where
  k : ℕ
  far : (x + k ≡ y) ⊎ (y + k ≡ x)
  squares : x * x + y * y ≡ 2 * (x * y) + k * k

apart : (x y : ℕ) → Apart x y
apart x y = go (leb x y) (leb→le x y) (nleb→lt x y)
  where
    up : (a b : ℕ) → a ≤ b → a * a + b * b ≡ 2 * (a * b) + (b - a) * (b - a)
    up a b h =
        let k = b - a in
        let e : b ≡ a + k = omega arith in
        let x : b * b ≡ (a + k) * (a + k) = ap (λ (z : ℕ). z * z) e in
        let y : a * b ≡ a * (a + k) = ap (λ (z : ℕ). a * z) e in
        let z : a * (a + k) ≡ a * a + a * k = mul-add a a k in
        omega (arith, square_sum a k)

    go : (b : Bool) → (T b → x ≤ y) → (T (not b) → y < x) → Apart x y
    go true h k = let l = h tt in record { k = y - x; far = inl (omega arith); squares = up x y l }
    go false h k =
        let l : y ≤ x = let l = k tt in omega arith in
        record { k = x - y; far = inr (omega arith); squares = omega (arith, up y x l, mul_comm x y) }

-- the product of two numbers is at most the square of their mean
mean : (x y r : ℕ) → x + y ≤ 2 * r → x * y ≤ r * r
mean x y r h =
    let a = (apart x y).squares in
    let b : (x + y) * (x + y) ≤ 2 * r * (2 * r) = mul-le-mul h h in
    let c : 2 * r * (2 * r) ≡ 4 * (r * r) = mul-mul-mul_comm 2 r 2 r in
    omega (arith, square_sum x y)

module _ (s B m : ℕ) (lo : whole_root (m / (B * B)) ≤ s) (hi : s ≤ whole_root (m / (B * B)) + 1) (S : B ≤ 2 * s) (P : 0 < B) where
  abbrev D : ℕ
  D = s * B

  abbrev W : ℕ
  W = whole_root (m / (B * B))

  abbrev ρ : ℕ
  ρ = whole_root m

  next : suc W * B ≡ W * B + B
  next = suc-mul W B

  -- s * B is less than B away from the root
  under : D ≤ ρ + B
  under =
      let q : W * W * (B * B) ≤ m = le_trans (mul-le-mul_right (B * B) (root_is (m / (B * B))).0) (div-mul-le_self m (B * B)) in
      let a : W * B ≤ ρ = root_ge m (W * B) (le_trans (le_of_eq (mul-mul-mul_comm W B W B)) q) in
      let b : s * B ≤ suc W * B = mul-le-mul_right B (omega arith) in
      omega (arith, next)

  over : ρ < D + B
  over =
      let q : m < suc W * suc W * (B * B) = (div-lt_iff_lt-mul (mul-pos P P)).0 (root_is (m / (B * B))).1 in
      let a : ρ < suc W * B = root_lt m (suc W * B) (lt_of_lt_of_le q (le_of_eq (mul-mul-mul_comm (suc W) (suc W) B B))) in
      let b : W * B ≤ s * B = mul-le-mul_right B lo in
      omega (arith, next)

  near : D * D + suc ρ * suc ρ ≤ 2 * (D * suc ρ) + 2 * D
  near =
      let a = apart D (suc ρ) in
      let b : a.k ≤ B = go a.far in
      let c : a.k * a.k ≤ B * B = mul-le-mul b b in
      let d : B * B ≤ 2 * s * B = mul-le-mul_right B S in
      omega (arith, a.squares)
    where
      go : (D + (apart D (suc ρ)).k ≡ suc ρ) ⊎ (suc ρ + (apart D (suc ρ)).k ≡ D) → (apart D (suc ρ)).k ≤ B
      go (inl e) = omega (arith, over)
      go (inr e) = omega (arith, under)

  -- half of s * B, and half of m divided by it
  module _ (E p : ℕ) (half : D ≡ 2 * E) (least : p * (2 * D) ≤ m) (most : m < suc p * (2 * D)) where
    twice : (x : ℕ) → D * (2 * x) ≡ x * (2 * D)
    twice x = mul_left_comm D 2 x ∙ ap (λ (y : ℕ). 2 * y) (mul_comm D x) ∙ sym (mul_left_comm x 2 D)

    at_least : ρ ≤ E + p
    at_least = le_of_suc-le-suc (lt_of_not-le no)
      where
        no : suc (E + p) ≤ ρ → ⊥
        no h =
            let a : D * (2 * suc p) ≤ ρ * ρ = mean D (2 * suc p) ρ (omega arith) in
            omega (arith, twice (suc p), (root_is m).0)

    at_most : E + p ≤ ρ + 1
    at_most = omega (arith, lt_of_not-le no)
      where
        no : suc (suc ρ) ≤ E + p → ⊥
        no h =
            let i : 2 * suc ρ + 2 ≤ D + 2 * p = omega arith in
            let a : D * (2 * suc ρ + 2) ≤ D * (D + 2 * p) = mul-le-mul_left D i in
            let b : D * (2 * suc ρ + 2) ≡ D * (2 * suc ρ) + D * 2 = mul-add D (2 * suc ρ) 2 in
            let c : D * (D + 2 * p) ≡ D * D + D * (2 * p) = mul-add D D (2 * p) in
            let d : D * (2 * suc ρ) ≡ 2 * (D * suc ρ) = mul_left_comm D 2 (suc ρ) in
            omega (arith, twice p, (root_is m).1, near)

-- ---- as the machine has it
pub step : (s b m : ℕ) → m < 2 ^ 64 → (whole_root (m / 4 ^ b) ≤ s) × (s ≤ whole_root (m / 4 ^ b) + 1) × (2 ^ b ≤ 2 * s) × (s ≤ 2 ^ 16) × (2 ≤ b) × (b ≤ 16)
    → (whole_root m ≤ s * 2 ^ (b - 1) % 2 ^ 64 + m / 2 ^ (b + 1) / s) × (s * 2 ^ (b - 1) % 2 ^ 64 + m / 2 ^ (b + 1) / s ≤ whole_root m + 1)
step s b m M (lo, hi, S, s16, b2, b16) =
    let B = 2 ^ b in
    let H = 2 ^ (b - 1) in
    let P : 0 < B = pow_pos b in
    let D = s * B in
    let D_pos : 0 < 2 * D = let d : 0 < D = mul-pos {m = s} {n = B} (omega arith) P in omega arith in
    let two : B ≡ 2 * H = half_pow b b2 in
    let half : D ≡ 2 * (s * H) = ap (λ (x : ℕ). s * x) two ∙ mul_left_comm s 2 H in
    let b15 : b - 1 ≤ 15 = omega arith in
    let H_small : H ≤ 2 ^ 15 = pow_mono b15 in
    let small : s * H ≤ 2 ^ 31 = mul-le-mul s16 H_small in
    let kept : s * H % 2 ^ 64 ≡ s * H = mod-eq_of_lt (omega arith) in
    let more : 2 ^ (b + 1) ≡ 2 * B = ap (λ (x : ℕ). 2 ^ x) (add-one b) ∙ pow-succ' 2 b in
    let p = m / 2 ^ (b + 1) / s in
    let by : 2 ^ (b + 1) * s ≡ 2 * D = ap (λ (x : ℕ). x * s) more ∙ mul_assoc 2 B s ∙ ap (λ (x : ℕ). 2 * x) (mul_comm B s) in
    let p_is : p ≡ m / (2 * D) = div-div-eq-div-mul m (2 ^ (b + 1)) s ∙ ap (λ (x : ℕ). m / x) by in
    let least : p * (2 * D) ≤ m = le_trans (le_of_eq (ap (λ (x : ℕ). x * (2 * D)) p_is)) (div-mul-le_self m (2 * D)) in
    let most : m < suc p * (2 * D) = (div-lt_iff_lt-mul D_pos).0 (omega arith) in
    let lo' : whole_root (m / (B * B)) ≤ s = subst (λ (x : ℕ). whole_root (m / x) ≤ s) (four b) lo in
    let hi' : s ≤ whole_root (m / (B * B)) + 1 = subst (λ (x : ℕ). s ≤ whole_root (m / x) + 1) (four b) hi in
    let a : whole_root m ≤ s * H + p = at_least s B m lo' hi' S P (s * H) p half least most in
    let z : s * H + p ≤ whole_root m + 1 = at_most s B m lo' hi' S P (s * H) p half least most in
    (omega arith, omega arith)

-- how long the root is, or one more
pub range : (n j k s : ℕ) → 2 ^ j * 2 ^ j ≤ n → n < 2 ^ k * 2 ^ k → (whole_root n ≤ s) × (s ≤ whole_root n + 1) → (2 ^ j ≤ s) × (s ≤ 2 ^ k)
range n j k s lo hi (least, most) = (le_trans (root_ge n (2 ^ j) lo) least, omega (arith, root_lt n (2 ^ k) hi))

-- ---- the root or one more, s, made the root: t is 1 where s is one more
pub record Settled (m s t : ℕ) : Type 0 where
  pub few : t ≤ 1
  pub least : t ≤ s
  pub room : 2 * s * t ≤ s * s + t
  pub root : s - t ≡ whole_root m
  pub square : s * s + t - 2 * s * t ≡ whole_root m * whole_root m

pub settle : (m s t : ℕ) → whole_root m ≤ s → s ≤ whole_root m + 1 → ((t ≡ 1) × (m < s * s)) ⊎ ((t ≡ 0) × (s * s ≤ m)) → Settled m s t
settle m s t lo hi (inl (e, h)) =
    let a : whole_root m < s = root_lt m s h in
    let r = whole_root m in
    let s_is : s ≡ suc r = omega arith in
    let b : s * s ≡ suc r * suc r = ap (λ (x : ℕ). x * x) s_is in
    let c : 2 * s * t ≡ 2 * s * 1 = ap (λ (x : ℕ). 2 * s * x) e in
    let d : suc r * suc r ≡ r * r + 2 * r + 1 = square_suc r in
    record { few = omega arith; least = omega arith; room = omega arith; root = omega arith; square = omega arith }
settle m s t lo hi (inr (e, h)) =
    let a : s ≤ whole_root m = root_ge m s h in
    let r = whole_root m in
    let s_is : s ≡ r = omega arith in
    let b : s * s ≡ r * r = ap (λ (x : ℕ). x * x) s_is in
    let c : 2 * s * t ≡ 2 * s * 0 = ap (λ (x : ℕ). 2 * s * x) e in
    record { few = omega arith; least = omega arith; room = omega arith; root = omega arith; square = omega arith }
