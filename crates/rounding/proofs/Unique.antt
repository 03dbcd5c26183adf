-- A larger number is not nearest to a smaller number of units, and so a number is nearest to one only: `Rounded` holds of one float only. Assumes nothing.
use Rattle.std.proofs.Common.{◌≡◌, ℕ, suc, ◌+◌, ◌-◌, ◌*◌, ◌/◌, ◌%◌, ◌^◌, ◌<◌, ◌≤◌, Bool, true, false, not, T, ltb, sym, ap, ◌∙◌, subst, inl, inr, le_of_eq, le_of_suc-le-suc, lt_of_le_of_lt, lt-suc_self, suc-mul, add_comm, le_antisymm, mul-lt-mul_of_pos_right, lt_of_not-le, mul-div_cancel, arith, ltb→lt, nltb→le, pow_pos}
use lib.Ieee.{Float, Format, prec, low, size, fits}
use lib.Ieee.Fits.{two, kept-lt}
use lib.Ieee.Exact.{HasValue}
use lib.Ieee.Scale.{overflow}
use Rattle.rounding.specs.Rounded.{Holds, last_digit, Nearest, Rounded}
use Rattle.rounding.proofs.Place.{Full, dropped}
use Rattle.rounding.proofs.Rounding.{gap_up, holds, full_of}
use Rattle.rounding.proofs.Values.{leading, same_value}
use Rattle.rounding.proofs.Half.{half_pow}

-- Of the numbers below B that p digits hold, none is nearer to y than g, and at a tie g is even: `Nearest` with a bound.
pub record Among (p B : ℕ) (Under Over : ℕ → Type 0) (g : ℕ) : Type 0 where
  pub held : Holds p g
  pub within : g < B
  pub larger : (a : ℕ) → Holds p a → a < B → g < a → Over (g + a)
  pub smaller : (a : ℕ) → Holds p a → a < g → Under (a + g)
  pub even : (a : ℕ) → Holds p a → a < B → (a ≡ g → ⊥) → Under (a + g) → Over (a + g) → last_digit p g ≡ 0

-- y is at most y', so that what lies under y lies under y', and what lies over y' lies over y
module _ (p B : ℕ) (P : 2 ≤ p) (Under Over Under' Over' : ℕ → Type 0)
    (rise : (t : ℕ) → Under t → Under' t) (fall : (t : ℕ) → Over' t → Over t) (apart : (s t : ℕ) → Under' t → Over' s → t ≤ s) where
  -- were y nearest to a number past that of y', the two would be neighbours, and not both even
  never : (g h : ℕ) → Among p B Under' Over' g → Among p B Under Over h → g < h → ⊥
  never g h G H l =
      let k = size g - p in
      let q = g / 2 ^ k in
      let e : q * 2 ^ k ≡ g = leading p g P G.held in
      let u : Under (g + h) = H.smaller g G.held l in
      let o : Over' (g + h) = G.larger h H.held H.within l in
      let z : q % 2 ≡ 0 = G.even h H.held H.within (λ i. omega arith) (subst Under' (add_comm g h) (rise (g + h) u)) (subst Over' (add_comm g h) o) in
      let y : last_digit p h ≡ 0 = H.even g G.held G.within (λ i. omega arith) u (fall (g + h) o) in
      let c : q < 2 ^ p = kept-lt p g in
      let F : Full p q k = full_of p g P in
      let up : suc q * 2 ^ k ≤ h = gap_up p h q k P H.held F (omega arith) in
      let n : suc q * 2 ^ k ≡ q * 2 ^ k + 2 ^ k = suc-mul q (2 ^ k) in
      let next : Over' (g + suc q * 2 ^ k) = G.larger (suc q * 2 ^ k) (holds p (suc q) k P c) (lt_of_le_of_lt up H.within) (omega (arith, pow_pos k)) in
      let down : h ≤ suc q * 2 ^ k = omega (arith, apart (g + suc q * 2 ^ k) (g + h) (rise (g + h) u) next) in
      let i : h ≡ suc q * 2 ^ k = le_antisymm down up in
      let b : suc q < 2 ^ p = less p q P c z in
      let d : size h - p ≡ k = dropped p h (suc q) k P (le_of_eq (sym i)) (lt_of_le_of_lt (le_of_eq i) (mul-lt-mul_of_pos_right (lt-suc_self (suc q)) (pow_pos k))) b (more F) in
      let v : last_digit p h ≡ suc q % 2 = ap (λ (x : ℕ). h / 2 ^ x % 2) d ∙ ap (λ (x : ℕ). x % 2) (ap (λ (x : ℕ). x / 2 ^ k) i ∙ mul-div_cancel (suc q) (pow_pos k)) in
      odd q z (sym v ∙ y)
    where
      odd : (q : ℕ) → q % 2 ≡ 0 → suc q % 2 ≡ 0 → ⊥
      odd q a b = omega arith

      more : {q k : ℕ} → Full p q k → Full p (suc q) k
      more (inl z) = inl z
      more (inr g) = inr (omega arith)

      less : (p q : ℕ) → 2 ≤ p → q < 2 ^ p → q % 2 ≡ 0 → suc q < 2 ^ p
      less p q P c z = let h : 2 ^ p ≡ 2 * 2 ^ (p - 1) = half_pow p P in omega arith

  among_rises : (h g : ℕ) → Among p B Under Over h → Among p B Under' Over' g → h ≤ g
  among_rises h g H G = le_of_suc-le-suc (lt_of_not-le (λ (l : suc g ≤ h). never g h G H l))

pub among_unique : (p B : ℕ) → 2 ≤ p → (Under Over : ℕ → Type 0) → ((s t : ℕ) → Under t → Over s → t ≤ s)
    → (g h : ℕ) → Among p B Under Over g → Among p B Under Over h → g ≡ h
among_unique p B P Under Over apart g h G H = le_antisymm (rises g h G H) (rises h g H G)
  where
    rises : (g h : ℕ) → Among p B Under Over g → Among p B Under Over h → g ≤ h
    rises = among_rises p B P Under Over Under Over (λ t u. u) (λ t o. o) apart

-- without a bound
pub of_nearest : (p B : ℕ) (Under Over : ℕ → Type 0) (g : ℕ) → g < B → Nearest p Under Over g → Among p B Under Over g
of_nearest p B Under Over g h N = record { held = N.held; within = h; larger = λ a H b l. N.larger a H l; smaller = N.smaller; even = λ a H b n u o. N.even a H n u o }

pub nearest_rises : (p : ℕ) → 2 ≤ p → (Under Over Under' Over' : ℕ → Type 0)
    → ((t : ℕ) → Under t → Under' t) → ((t : ℕ) → Over' t → Over t) → ((s t : ℕ) → Under' t → Over' s → t ≤ s)
    → (h g : ℕ) → Nearest p Under Over h → Nearest p Under' Over' g → h ≤ g
nearest_rises p P Under Over Under' Over' rise fall apart h g H G =
    among_rises p (suc (g + h)) P Under Over Under' Over' rise fall apart h g
    (of_nearest p (suc (g + h)) Under Over h (omega arith) H)
    (of_nearest p (suc (g + h)) Under' Over' g (omega arith) G)

pub nearest_unique : (p : ℕ) → 2 ≤ p → (Under Over : ℕ → Type 0) → ((s t : ℕ) → Under t → Over s → t ≤ s)
    → (g h : ℕ) → Nearest p Under Over g → Nearest p Under Over h → g ≡ h
nearest_unique p P Under Over apart g h G H = le_antisymm (rises g h G H) (rises h g H G)
  where
    rises : (g h : ℕ) → Nearest p Under Over g → Nearest p Under Over h → g ≤ h
    rises = nearest_rises p P Under Over Under Over (λ t u. u) (λ t o. o) apart

-- ---- one float only
pub one_rounded : (f : Format) (Under Over : ℕ → Type 0) → ((s t : ℕ) → Under t → Over s → t ≤ s) → (s : Bool) (r v : Float) → T (fits f r) → T (fits f v) → Rounded f Under Over s r → Rounded f Under Over s v → r ≡ v
one_rounded f Under Over apart s r v R S x y = go (ltb x.units (overflow f)) (ltb→lt x.units (overflow f)) (nltb→le x.units (overflow f))
  where
    e : x.units ≡ y.units
    e = nearest_unique (prec f) (two f) Under Over apart x.units y.units x.nearest y.nearest

    go : (b : Bool) → (T b → x.units < overflow f) → (T (not b) → overflow f ≤ x.units) → r ≡ v
    go true l g = same_value f s x.units r v R S (x.finite (l tt)) (subst (λ (a : ℕ). HasValue v s a (2 ^ low f)) (sym e) (y.finite (subst (λ (a : ℕ). a < overflow f) e (l tt))))
    go false l g = x.infinite (g tt) ∙ sym (y.infinite (subst (λ (a : ℕ). overflow f ≤ a) e (g tt)))
