-- The comparisons of floats are those of whole numbers: three floats that are no NaN have keys that stand in the same order. Assumes nothing.
use Rattle.std.proofs.Common.{◌≡◌, ℕ, ◌+◌, ◌-◌, ◌*◌, ◌<◌, ◌≤◌, Bool, true, false, not, ◌&&◌, ◌||◌, T, eqb, ltb, sym, refl, ap, ◌∙◌, mul-le-mul_right, mul_assoc, mul_comm, mul-lt-mul_of_pos_right, le-mul_of_pos_right, arith, ltb-false, ltb-true, le-ltb, lt-ltb, eq-eqb, ne_eqb, eqb-true}
use borrow.Author.Tests.{eqb-false}
use lib.Ieee.{Float, nan, inf, fin, up, down, below, level, lt, eq, is_nan}
use lib.Ieee.Fits.{down_pos}

-- ---- tests that agree

same_ltb : (a b x y : ℕ) → (a < b → x < y) → (b ≤ a → y ≤ x) → ltb a b ≡ ltb x y
same_ltb a b x y p q = by (ltb a b) refl
  where
    by : (t : Bool) → ltb a b ≡ t → ltb a b ≡ ltb x y
    by true e = e ∙ sym (lt-ltb x y (p (ltb-true a b e)))
    by false e = e ∙ sym (le-ltb x y (q (ltb-false a b e)))

same_eqb : (a b x y : ℕ) → (a ≡ b → x ≡ y) → (x ≡ y → a ≡ b) → eqb a b ≡ eqb x y
same_eqb a b x y p q = by (eqb a b) refl
  where
    by : (t : Bool) → eqb a b ≡ t → eqb a b ≡ eqb x y
    by true e = e ∙ sym (eq-eqb x y (p (eqb-true a b e)))
    by false e = e ∙ sym (ne_eqb x y (λ h. eqb-false a b e (q h)))

-- ---- a signed number as a whole one: M is zero, and a and b are below M

signed : ℕ → Bool → ℕ → ℕ
signed M true a = M - a
signed M false a = M + a

module _ (M k a b : ℕ) (pos : 0 < k) (pa : a * k < M) (pb : b * k < M) where
  less : {x y : ℕ} → x < y → x * k < y * k
  less h = mul-lt-mul_of_pos_right h pos

  most : {x y : ℕ} → x ≤ y → x * k ≤ y * k
  most h = mul-le-mul_right k h

  same : a * k ≡ b * k → a ≡ b
  same e = by (ltb a b) refl (ltb b a) refl
    where
      by : (s : Bool) → ltb a b ≡ s → (t : Bool) → ltb b a ≡ t → a ≡ b
      by true p t q = let h = mul-lt-mul_of_pos_right (ltb-true a b p) pos in absurd (omega arith)
      by false p true q = let h = mul-lt-mul_of_pos_right (ltb-true b a q) pos in absurd (omega arith)
      by false p false q = omega (arith, ltb-false a b p, ltb-false b a q)

  -- neither is less for the scaling, and both are zero where the scaled ones are
  grown : (a ≤ a * k) × (b ≤ b * k)
  grown = (le-mul_of_pos_right a pos, le-mul_of_pos_right b pos)

  nothing_left : a ≡ 0 → b ≡ 0 → (a * k ≡ 0) × (b * k ≡ 0)
  nothing_left p q = (rw p (omega arith), rw q (omega arith))

  below_signed : (s t : Bool) → below s a t b ≡ ltb (signed M s (a * k)) (signed M t (b * k))
  unfolding signed
  below_signed false false = same_ltb a b (M + a * k) (M + b * k) (λ h. omega (arith, less h)) (λ h. omega (arith, most h))
  below_signed false true = sym (le-ltb (M + a * k) (M - b * k) (omega arith))
  below_signed true false = same_ltb 0 (a + b) (M - a * k) (M + b * k) (λ h. omega (arith, grown)) (λ h. omega (arith, nothing_left (omega arith) (omega arith)))
  below_signed true true = same_ltb b a (M - a * k) (M - b * k) (λ h. omega (arith, less h)) (λ h. omega (arith, most h))

  and_true : (x : Bool) → x && true ≡ x
  and_true true = refl
  and_true false = refl

  -- numbers of unlike signs are equal only where both are zero
  unlike : (x y : ℕ) → (a * k ≡ 0 → b * k ≡ 0 → x ≡ y) → (x ≡ y → (a * k ≡ 0) × (b * k ≡ 0)) → eqb a b && (false || eqb a 0) ≡ eqb x y
  unlike x y p q = by (eqb a b) refl (eqb a 0) refl
    where
      by : (u : Bool) → eqb a b ≡ u → (v : Bool) → eqb a 0 ≡ v → u && (false || v) ≡ eqb x y
      by true e true f =
          let z = nothing_left (eqb-true a 0 f) (sym (eqb-true a b e) ∙ eqb-true a 0 f) in
          sym (eq-eqb x y (p z.0 z.1))
      by true e false f = sym (ne_eqb x y (λ h. eqb-false a 0 f (omega (arith, (q h).0, grown))))
      by false e v f = sym (ne_eqb x y (λ h. eqb-false a b e (omega (arith, q h, grown))))

  level_signed : (s t : Bool) → level s a t b ≡ eqb (signed M s (a * k)) (signed M t (b * k))
  unfolding signed
  level_signed false false = and_true (eqb a b) ∙ same_eqb a b (M + a * k) (M + b * k) (λ e. ap (λ (x : ℕ). M + x * k) e) (λ e. same (omega arith))
  level_signed false true = unlike (M + a * k) (M - b * k) (λ p q. omega arith) (λ e. (omega arith, omega arith))
  level_signed true false = unlike (M - a * k) (M + b * k) (λ p q. omega arith) (λ e. (omega arith, omega arith))
  level_signed true true = and_true (eqb a b) ∙ same_eqb a b (M - a * k) (M - b * k) (λ e. ap (λ (x : ℕ). M - x * k) e) (λ e. same (omega arith))

-- ---- two floats

-- 2 ^ e is a fraction over `den`; the value without it and without the sign is `mag`
den : Float → ℕ
den nan = 1
den (inf s) = 1
den (fin s m e) = down e

mag : Float → ℕ
mag nan = 0
mag (inf s) = 0
mag (fin s m e) = m * up e

den_pos : (x : Float) → 0 < den x
unfolding den
den_pos nan = omega arith
den_pos (inf s) = omega arith
den_pos (fin s m e) = down_pos e

-- the infinities at the ends, and the others in between
key : ℕ → ℕ → Float → ℕ
key M c nan = 0
key M c (inf true) = 0
key M c (inf false) = M + M
key M c (fin s m e) = signed M s (m * up e * c)

between : (M : ℕ) (s : Bool) (a : ℕ) → a < M → (0 < signed M s a) × (signed M s a < M + M)
unfolding signed
between M true a h = (omega arith, omega arith)
between M false a h = (omega arith, omega arith)

abbrev Agree : Float → Float → ℕ → ℕ → Type 0
Agree x y p q = (lt x y ≡ ltb p q) × (eq x y ≡ eqb p q)

compares : (M k : ℕ) (x y : Float) → T (not (is_nan x)) → T (not (is_nan y)) → 0 < k → mag x * (den y * k) < M → mag y * (den x * k) < M
    → Agree x y (key M (den y * k) x) (key M (den x * k) y)
unfolding lt eq is_nan key den mag
compares M k nan y u v pos p q = absurd u
compares M k (inf s) nan u v pos p q = absurd v
compares M k (inf true) (inf true) u v pos p q = (refl, refl)
compares M k (inf true) (inf false) u v pos p q = (sym (lt-ltb 0 (M + M) (omega arith)), sym (ne_eqb 0 (M + M) (λ e. omega arith)))
compares M k (inf false) (inf true) u v pos p q = (sym (le-ltb (M + M) 0 (omega arith)), sym (ne_eqb (M + M) 0 (λ e. omega arith)))
compares M k (inf false) (inf false) u v pos p q = (sym (le-ltb (M + M) (M + M) (omega arith)), sym (eq-eqb (M + M) (M + M) refl))
compares M k (inf true) (fin t n d) u v pos p q =
    let c = signed M t (n * up d * (1 * k)) in
    let b = between M t (n * up d * (1 * k)) q in
    (sym (lt-ltb 0 c b.0), sym (ne_eqb 0 c (λ e. omega (arith, b.0, e))))
compares M k (inf false) (fin t n d) u v pos p q =
    let c = signed M t (n * up d * (1 * k)) in
    let b = between M t (n * up d * (1 * k)) q in
    (sym (le-ltb (M + M) c (omega (arith, b.1))), sym (ne_eqb (M + M) c (λ e. omega (arith, b.1, e))))
compares M k (fin s m e) nan u v pos p q = absurd v
compares M k (fin s m e) (inf true) u v pos p q =
    let c = signed M s (m * up e * (1 * k)) in
    let b = between M s (m * up e * (1 * k)) p in
    (sym (le-ltb c 0 (omega arith)), sym (ne_eqb c 0 (λ f. omega (arith, b.0, f))))
compares M k (fin s m e) (inf false) u v pos p q =
    let c = signed M s (m * up e * (1 * k)) in
    let b = between M s (m * up e * (1 * k)) p in
    (sym (lt-ltb c (M + M) b.1), sym (ne_eqb c (M + M) (λ f. omega (arith, b.1, f))))
compares M k (fin s m e) (fin t n d) u v pos p q =
    let x : m * up e * (down d * k) ≡ m * up e * down d * k = sym (mul_assoc (m * up e) (down d) k) in
    let y : n * up d * (down e * k) ≡ n * up d * down e * k = sym (mul_assoc (n * up d) (down e) k) in
    let p' : m * up e * down d * k < M = rw x at p in
    let q' : n * up d * down e * k < M = rw y at q in
    rw (x, y) (below_signed M k (m * up e * down d) (n * up d * down e) pos p' q' s t, level_signed M k (m * up e * down d) (n * up d * down e) pos p' q' s t)

-- ---- three floats

pub record Keys (x y z : Float) : Type 0 where
  pub kx : ℕ
  pub ky : ℕ
  pub kz : ℕ
  pub xy : Agree x y kx ky
  pub yx : Agree y x ky kx
  pub yz : Agree y z ky kz
  pub xz : Agree x z kx kz

pub keys : (x y z : Float) → T (not (is_nan x)) → T (not (is_nan y)) → T (not (is_nan z)) → Keys x y z
keys x y z u v w =
    let cx = den y * den z in
    let cy = den x * den z in
    let cz = den x * den y in
    let M = mag x * cx + mag y * cy + mag z * cz + 1 in
    let ex : den z * den y ≡ cx = mul_comm (den z) (den y) in
    let ey : den z * den x ≡ cy = mul_comm (den z) (den x) in
    let ez : den y * den x ≡ cz = mul_comm (den y) (den x) in
    record {
      kx = key M cx x;
      ky = key M cy y;
      kz = key M cz z;
      xy = compares M (den z) x y u v (den_pos z) (omega arith) (omega arith);
      yx = compares M (den z) y x v u (den_pos z) (omega arith) (omega arith);
      yz = rw (ey, ez) at (compares M (den x) y z v w (den_pos x) (rw ey (omega arith)) (rw ez (omega arith)));
      xz = rw ex at (compares M (den y) x z u w (den_pos y) (rw ex (omega arith)) (omega arith));
    }
