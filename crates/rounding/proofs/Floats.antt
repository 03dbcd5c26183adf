-- From whole numbers of units to floats: what is nearest among the numbers that `prec` digits hold is nearest among all floats that fit the format,
-- of either sign. One lemma over every format and every number y. And `RoundedFloat` holds of one float only. Assumes nothing.
use Rattle.std.proofs.Common.{◌≡◌, ℕ, zero, suc, ◌+◌, ◌-◌, ◌^◌, ◌<◌, ◌≤◌, Bool, true, false, T, ◌⊎◌, sym, refl, ap, ◌∙◌, subst, inl, inr, true≢false, le_trans, le_of_lt, zero-lt-suc, lt_of_not-le, zero-add, arith, pow_pos}
use mathlib.Core.Bool.{false≢true}
use native.Mathlib.Nat.{eq_of_mul-eq-mul_right}
use lib.Ieee.{Float, nan, inf, fin, Format, prec, low, down, fits, units}
use lib.Ieee.Fits.{two, down_pos}
use lib.Ieee.Exact.{HasValue, units_val}
use lib.Ieee.Scale.{overflow}
use Rattle.rounding.specs.Rounded.{Holds, Nearest, Rounded, largest, NearestFloat, RoundedFloat}
use Rattle.rounding.proofs.Outer.{units_fits}
use Rattle.rounding.proofs.Values.{value_held, same_value}
use Rattle.rounding.proofs.Unique.{Among, among_unique}
use Rattle.rounding.proofs.Threshold.{past_largest, from_there}

-- ---- floats that fit, and the numbers of units that they are
pub held_of_value : (f : Format) (v : Float) (s : Bool) (a : ℕ) → T (fits f v) → HasValue v s a (2 ^ low f) → Holds (prec f) a × (a < overflow f)
held_of_value f nan s a F w = absurd w
held_of_value f (inf t) s a F w = absurd w
held_of_value f (fin t m e) s a F w =
    let v = value_held f t m e F in
    let i : v.0 ≡ a = eq_of_mul-eq-mul_right (down e) (down_pos e) v.0 a (sym v.3.1 ∙ w.1) in
    (subst (Holds (prec f)) i v.1, subst (λ (x : ℕ). x < overflow f) i v.2)

pub float_of : (f : Format) (s : Bool) (a : ℕ) → Holds (prec f) a → a < overflow f → (v : Float) × T (fits f v) × HasValue v s a (2 ^ low f)
float_of f s a H h = (
  units f s H.q H.k,
  units_fits f s H.q H.k (le_of_lt H.few),
  subst (λ (x : ℕ). HasValue (units f s H.q H.k) s x (2 ^ low f)) (sym H.is) (units_val f s H.q H.k (subst (λ (x : ℕ). x < overflow f) H.is h)),
)

-- ---- from units to floats
module _ (f : Format) (Under Over : ℕ → Type 0) (least : Under 0) (less : (s t : ℕ) → s ≤ t → Under t → Under s) (apart : (s t : ℕ) → Under t → Over s → t ≤ s) where
  nearest_float : (s : Bool) (r : Float) (g : ℕ) → HasValue r s g (2 ^ low f) → Nearest (prec f) Under Over g → NearestFloat f Under Over s r g
  nearest_float s r g w N = record {
    value = w;
    larger = λ v a F u h. N.larger a (held_of_value f v s a F u).0 h;
    smaller = λ v a F u h. N.smaller a (held_of_value f v s a F u).0 h;
    opposite = λ v a F u. less (g - a) g (omega arith) (reached g N);
    even = λ v a F x n u o. N.even a (held_of_value f v s a F x).0 n u o;
  }
    where
      -- y is no nearer to zero than to g
      reached : (g : ℕ) → Nearest (prec f) Under Over g → Under g
      reached zero N = least
      reached (suc g) N = subst Under (zero-add (suc g)) (N.smaller 0 (record { q = 0; k = 0; few = pow_pos (prec f); is = refl }) (zero-lt-suc g))

  pub to_float : (s : Bool) (r : Float) → T (fits f r) → Rounded f Under Over s r → RoundedFloat f Under Over s r
  to_float s r F x = record {
    fitting = F;
    infinite = λ u. x.infinite (from_there f Under Over less apart x.units x.nearest u);
    finite = λ n. (x.units, nearest_float s r x.units (x.finite (lt_of_not-le (λ h. n (past_largest f Under Over less apart x.units x.nearest h)))) x.nearest);
  }

-- y known by a number A and a rising function B, as t / 2 ≤ y where B t ≤ A
pub known_float : (A : ℕ) (B : ℕ → ℕ) → B 0 ≤ A → ((s t : ℕ) → s ≤ t → B s ≤ B t) → ((s t : ℕ) → B s ≤ B t → s ≤ t) → (f : Format) (s : Bool) (r : Float) → T (fits f r)
    → Rounded f (λ t. B t ≤ A) (λ t. A ≤ B t) s r → RoundedFloat f (λ t. B t ≤ A) (λ t. A ≤ B t) s r
known_float A B least rise back f s r F x = to_float f (λ t. B t ≤ A) (λ t. A ≤ B t) least (λ s t h u. le_trans (rise s t h) u) (λ s t u o. back t s (le_trans u o)) s r F x

-- ---- one float only
same_sign : (t s : Bool) → (t ≡ s) ⊎ (t ≡ s → ⊥)
same_sign true true = inl refl
same_sign true false = inr (λ e. true≢false e)
same_sign false true = inr (λ e. false≢true e)
same_sign false false = inl refl

module _ (f : Format) (Under Over : ℕ → Type 0) (apart : (s t : ℕ) → Under t → Over s → t ≤ s) (s : Bool) where
  among : (r : Float) (g : ℕ) → T (fits f r) → NearestFloat f Under Over s r g → Among (prec f) (overflow f) Under Over g
  among r g F N = record {
    held = (held_of_value f r s g F N.value).0;
    within = (held_of_value f r s g F N.value).1;
    larger = λ a H b l. let v = float_of f s a H b in N.larger v.0 a v.1 v.2 l;
    smaller = λ a H l. let v = float_of f s a H (omega (arith, (held_of_value f r s g F N.value).1)) in N.smaller v.0 a v.1 v.2 l;
    even = λ a H b n u o. let v = float_of f s a H b in N.even v.0 a v.1 v.2 n u o;
  }

  -- an infinity, and then y is not below the threshold; or y is below it
  abbrev Past : Type 0
  Past = Under (largest f + overflow f)

  either : (r : Float) → RoundedFloat f Under Over s r → ((r ≡ inf s) × ((Past → ⊥) → ⊥)) ⊎ (Past → ⊥)
  either nan x = inr (λ u. let z : ◌≡◌ {A = ℕ} 0 1 = cc (x.infinite u) in omega arith)
  either (inf t) x = go (same_sign t s)
    where
      go : (t ≡ s) ⊎ (t ≡ s → ⊥) → ((inf t ≡ inf s) × ((Past → ⊥) → ⊥)) ⊎ (Past → ⊥)
      go (inl e) = inl (ap inf e, λ n. (x.finite n).1.value)
      go (inr d) = inr (λ u. d (cc (x.infinite u)))
  either (fin t m e) x = inr (λ u. let z : ◌≡◌ {A = ℕ} 0 1 = cc (x.infinite u) in omega arith)

  pub one_float : (r v : Float) → RoundedFloat f Under Over s r → RoundedFloat f Under Over s v → r ≡ v
  one_float r v x y = go (either r x) (either v y)
    where
      go : ((r ≡ inf s) × ((Past → ⊥) → ⊥)) ⊎ (Past → ⊥) → ((v ≡ inf s) × ((Past → ⊥) → ⊥)) ⊎ (Past → ⊥) → r ≡ v
      go (inl a) (inl b) = a.0 ∙ sym b.0
      go (inl a) (inr n) = absurd (a.1 n)
      go (inr n) (inl b) = absurd (b.1 n)
      go (inr n) (inr k) =
          let G = x.finite n in
          let H = y.finite n in
          let i : G.0 ≡ H.0 = among_unique (prec f) (overflow f) (two f) Under Over apart G.0 H.0 (among r G.0 x.fitting G.1) (among v H.0 y.fitting H.1) in
          same_value f s G.0 r v x.fitting y.fitting G.1.value (subst (λ (a : ℕ). HasValue v s a (2 ^ low f)) (sym i) H.1.value)
