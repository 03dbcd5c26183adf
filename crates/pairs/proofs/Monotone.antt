-- Rounded sums and products keep the order of floats, in either format: results that underflow, infinities and zeros of either sign included. Assumes nothing.
use Rattle.std.proofs.Common.{◌≡◌, ℕ, zero, suc, ◌+◌, ◌-◌, ◌*◌, ◌^◌, ◌<◌, ◌≤◌, Bool, true, false, cond, not, ◌&&◌, ◌||◌, T, eqb, ltb, ◌⊎◌, ℤ, pos, sym, refl, ap, ◌∙◌, inl, inr, ⊎_elim, le_refl, mul-le-mul_right, mul-pos, zero-mul, arith, eqb→eq, ltb→lt, lt→ltb, nltb→le, T_not, ltb-false, ltb-true, eq-eqb, ne_eqb}
use borrow.Author.Tests.{eqb-false}
use lib.Dec.{not_T}
use lib.Ieee.{Float, nan, inf, fin, Format, binary32, binary64, prec, emax, low, up, down, below, level, odd, unlike, units, round}
use lib.Ieee.{neg, sum, add, mul, lt, eq, le, to_unsigned, fits, is_nan}
use lib.Ieee.Fits.{and_l, and_r, up_pos, down_pos, round_is, round-fits}
use lib.Ieee.Order.{round_mono}
use lib.Ieee.Scale.{round_same}
use lib.Ieee.Nearest.{div_mono}
use lib.Ieee.Positive.{above, positive, first_pos, above_of_le, mul_mono}
use Rattle.rounding.proofs.Values.{value_held, same_value, rounded_exact}
use Rattle.pairs.proofs.Floats.{keys}

-- ---- the order of signed numbers

-- What the number ±a, negative where s is true, is above zero; `over (not s) a` is what it is below zero. So it is their difference.
abbrev over : Bool → ℕ → ℕ
over false a = a
over true a = 0

-- ±a ≤ ±b
abbrev Under : Bool → ℕ → Bool → ℕ → Type 0
Under s a t b = over s a + over (not t) b ≤ over t b + over (not s) a

or_else : (a b : Bool) → (T (not a) → T b) → T (a || b)
or_else true b h = tt
or_else false b h = h tt

or_says : (a b : Bool) → T (a || b) → T a ⊎ T b
or_says true b h = inl tt
or_says false b h = inr h

equal : (a b : ℕ) → a ≡ b → (r : Bool) → T r → T (eqb a b && r)
equal a b e r h = rw (eq-eqb a b e) h

-- it is the order of `le`
le_under : (s t : Bool) (a b : ℕ) → T (below s a t b || level s a t b) → Under s a t b
le_under false false a b h = ⊎_elim (λ p. omega (arith, ltb→lt a b p)) (λ q. omega (arith, eqb→eq a b (and_l (eqb a b) true q))) (or_says (ltb a b) _ h)
le_under false true a b h = omega (arith, eqb→eq a b (and_l (eqb a b) _ h), eqb→eq a 0 (and_r (eqb a b) _ h))
le_under true false a b h = omega arith
le_under true true a b h = ⊎_elim (λ p. omega (arith, ltb→lt b a p)) (λ q. omega (arith, eqb→eq a b (and_l (eqb a b) true q))) (or_says (ltb b a) _ h)

under_le : (s t : Bool) (a b : ℕ) → Under s a t b → T (below s a t b || level s a t b)
under_le false false a b h = or_else (ltb a b) _ (λ n. equal a b (omega (arith, nltb→le a b n)) true tt)
under_le false true a b h = equal a b (omega arith) (eqb a 0) (rw (eq-eqb a 0 (omega arith)) tt)
under_le true false a b h =
    or_else (ltb 0 (a + b)) _ (λ n. let z = nltb→le 0 (a + b) n in equal a b (omega arith) (eqb a 0) (rw (eq-eqb a 0 (omega arith)) tt))
under_le true true a b h = or_else (ltb b a) _ (λ n. equal a b (omega (arith, nltb→le b a n)) true tt)

-- -b ≤ -a
turned : (s t : Bool) (a b : ℕ) → Under s a t b → Under (not t) b (not s) a
turned false false a b h = omega arith
turned false true a b h = omega arith
turned true false a b h = omega arith
turned true true a b h = omega arith

-- ---- the order of floats

-- 0.0
abbrev pub nought : Float
nought = fin false 0 (pos 0)

-- floats that are compared are no NaN
pub compared : (x y : Float) → T (le x y) → T (not (is_nan x)) × T (not (is_nan y))
unfolding le is_nan
compared nan y h = absurd h
compared (inf s) nan h = absurd h
compared (fin s m e) nan h = absurd h
compared (inf s) (inf t) h = (tt, tt)
compared (inf s) (fin t n d) h = (tt, tt)
compared (fin s m e) (inf t) h = (tt, tt)
compared (fin s m e) (fin t n d) h = (tt, tt)

-- by keys, as `keys` gives them
told : (x y : Float) (p q : ℕ) → (lt x y ≡ ltb p q) × (eq x y ≡ eqb p q) → T (le x y) → p ≤ q
unfolding le
told x y p q k h = ⊎_elim (λ u. omega (arith, ltb→lt p q u)) (λ u. omega (arith, eqb→eq p q u)) (or_says (ltb p q) (eqb p q) (rw (k.0, k.1) at h))

tells : (x y : Float) (p q : ℕ) → (lt x y ≡ ltb p q) × (eq x y ≡ eqb p q) → p ≤ q → T (le x y)
unfolding le
tells x y p q k h = rw (k.0, k.1) (or_else (ltb p q) (eqb p q) (λ n. rw (eq-eqb p q (omega (arith, nltb→le p q n))) tt))

pub le_through : (x y z : Float) → T (le x y) → T (le y z) → T (le x z)
le_through x y z h k =
    let g = keys x y z (compared x y h).0 (compared x y h).1 (compared y z k).1 in
    tells x z g.kx g.kz g.xz (omega (arith, told x y g.kx g.ky g.xy h, told y z g.ky g.kz g.yz k))

pub lt_le : (x y : Float) → T (lt x y) → T (le x y)
unfolding le
lt_le x y h = or_else (lt x y) (eq x y) (λ n. absurd (T_not (lt x y) n h))

pub lt_through : (x y z : Float) → T (lt x y) → T (le y z) → T (lt x z)
lt_through x y z h k =
    let c = compared x y (lt_le x y h) in
    let g = keys x y z c.0 c.1 (compared y z k).1 in
    rw g.xz.0 (lt→ltb g.kx g.kz (omega (arith, ltb→lt g.kx g.ky (rw g.xy.0 at h), told y z g.ky g.kz g.yz k)))

pub clash : (x y : Float) → T (lt x y) → T (le y x) → ⊥
clash x y h k =
    let c = compared y x k in
    let g = keys x y x c.1 c.0 c.1 in
    omega (arith, ltb→lt g.kx g.ky (rw g.xy.0 at h), told y x g.ky g.kx g.yx k)

pub other_way : (x y : Float) → T (not (is_nan x)) → T (not (is_nan y)) → (T (lt x y) → ⊥) → T (le y x)
other_way x y u v n =
    let g = keys x y x u v u in
    tells y x g.ky g.kx g.yx (omega (arith, nltb→le g.kx g.ky (not_T (ltb g.kx g.ky) (λ k. n (rw g.xy.0 k)))))

pub le_self : (x : Float) → T (not (is_nan x)) → T (le x x)
unfolding le is_nan
le_self nan h = absurd h
le_self (inf true) h = tt
le_self (inf false) h = tt
le_self (fin s m e) h = under_le s s (m * up e * down e) (m * up e * down e) (le_refl _)

lowest : (x : Float) → T (not (is_nan x)) → T (le (inf true) x)
unfolding le is_nan
lowest nan h = absurd h
lowest (inf true) h = tt
lowest (inf false) h = tt
lowest (fin s m e) h = tt

highest : (x : Float) → T (not (is_nan x)) → T (le x (inf false))
unfolding le is_nan
highest nan h = absurd h
highest (inf true) h = tt
highest (inf false) h = tt
highest (fin s m e) h = tt

neg_le : (x y : Float) → T (le x y) → T (le (neg y) (neg x))
unfolding le neg
neg_le nan y h = absurd h
neg_le (inf s) nan h = absurd h
neg_le (inf true) (inf true) h = tt
neg_le (inf true) (inf false) h = tt
neg_le (inf true) (fin t n d) h = tt
neg_le (inf false) (inf true) h = absurd h
neg_le (inf false) (inf false) h = tt
neg_le (inf false) (fin t n d) h = absurd h
neg_le (fin s m e) nan h = absurd h
neg_le (fin s m e) (inf true) h = absurd h
neg_le (fin s m e) (inf false) h = tt
neg_le (fin s m e) (fin t n d) h =
    under_le (not t) (not s) (n * up d * down e) (m * up e * down d)
    (turned s t (m * up e * down d) (n * up d * down e) (le_under s t (m * up e * down d) (n * up d * down e) h))

-- ---- rounding keeps the order of signed fractions

units_turned : (f : Format) (q k : ℕ) → units f true q k ≡ neg (units f false q k)
unfolding units odd neg
units_turned f q k = by (ltb (q * 2 ^ k) (2 ^ (low f + suc (emax f)))) q
  where
    by : (b : Bool) (q : ℕ) → cond b (odd (suc (prec f)) true q k (low f)) (inf true) ≡ neg (cond b (odd (suc (prec f)) false q k (low f)) (inf false))
    by true zero = refl
    by true (suc q) = refl
    by false q = refl

round_turned : (f : Format) (a b : ℕ) → round f true a b ≡ neg (round f false a b)
round_turned f a b = round_is f true a b ∙ units_turned f _ _ ∙ ap neg (sym (round_is f false a b))

round_nothing : (f : Format) (s : Bool) (b : ℕ) → 0 < b → round f s 0 b ≡ fin s 0 (pos 0)
unfolding round
round_nothing f s b B = round_same f s 0 b 0 1 B (omega arith) (omega arith) ∙ over_one f s
  where
    over_one : (f : Format) (s : Bool) → round f s 0 1 ≡ fin s 0 (pos 0)
    over_one binary32 false = refl
    over_one binary32 true = refl
    over_one binary64 false = refl
    over_one binary64 true = refl

round_not_below : (f : Format) (a b : ℕ) → 0 < b → T (le nought (round f false a b))
round_not_below f a b B = rw (round_nothing f false 1 (omega arith)) at (round_mono f 0 1 a b (omega arith) B (omega arith))

neg_through : (x y : Float) → T (le nought x) → T (le nought y) → T (le (neg x) y)
unfolding neg
neg_through x y h k = le_through (neg x) (neg nought) y (neg_le nought x h) (le_through (neg nought) nought y (unfold le neg in tt) k)

none_left : (a d : ℕ) → 0 < d → a * d ≤ 0 → a ≡ 0
none_left zero d D h = refl
none_left (suc a) d D h = absurd (omega arith)

-- ±a / b ≤ ±c / d
round_le : (f : Format) (s t : Bool) (a b c d : ℕ) → 0 < b → 0 < d → Under s (a * d) t (c * b) → T (le (round f s a b) (round f t c d))
round_le f false false a b c d B D h = round_mono f a b c d B D (omega arith)
round_le f true true a b c d B D h = rw (round_turned f a b, round_turned f c d) (neg_le _ _ (round_mono f c d a b D B (omega arith)))
round_le f true false a b c d B D h = rw (round_turned f a b) (neg_through _ _ (round_not_below f a b B) (round_not_below f c d D))
round_le f false true a b c d B D h =
    rw (none_left a d D (omega arith), none_left c b B (omega arith), round_nothing f false b B, round_nothing f true d D) (unfold le in tt)

-- ---- a sum is a signed fraction that was rounded

exact_sum : (f : Format) (s : Bool) (a : ℕ) (t : Bool) (b c : ℕ) → (r : Bool) × (v : ℕ) × (sum f s a t b c ≡ round f r v c)
    × (over r v + over (not s) a + over (not t) b ≡ over (not r) v + over s a + over t b)
unfolding sum
exact_sum f false a false b c = (false, a + b, refl, omega arith)
exact_sum f true a true b c = (true, a + b, refl, omega arith)
exact_sum f false a true b c = by (ltb a b) refl
  where
    by : (u : Bool) → ltb a b ≡ u → (r : Bool) × (v : ℕ) × (cond u (round f true (b - a) c) (round f false (a - b) c) ≡ round f r v c)
        × (over r v + 0 + b ≡ over (not r) v + a + 0)
    by true e = (true, b - a, refl, omega (arith, ltb-true a b e))
    by false e = (false, a - b, refl, omega (arith, ltb-false a b e))
exact_sum f true a false b c = by (ltb a b) refl (ltb b a) refl
  where
    by : (u : Bool) → ltb a b ≡ u → (w : Bool) → ltb b a ≡ w → (r : Bool) × (v : ℕ)
        × (cond u (round f false (b - a) c) (round f w (a - b) c) ≡ round f r v c) × (over r v + a + 0 ≡ over (not r) v + 0 + b)
    by true e w g = (false, b - a, refl, omega (arith, ltb-true a b e))
    by false e true g = (true, a - b, refl, omega (arith, ltb-true b a g))
    by false e false g = (false, a - b, refl, omega (arith, ltb-false a b e, ltb-false b a g))

-- a sum's parts are brought to a common denominator
scaled : (s : Bool) (a c : ℕ) → over s (a * c) ≡ over s a * c
scaled false a c = refl
scaled true a c = sym (zero-mul c)

-- (p - q) / x ≤ (p' - q') / y, and to each (k - l) / z is added
added : (p q p' q' k l r r' t t' x y z : ℕ) → p * y + q' * x ≤ p' * x + q * y
    → r + q * z + l * x ≡ r' + p * z + k * x → t + q' * z + l * y ≡ t' + p' * z + k * y → r * (y * z) + t' * (x * z) ≤ t * (x * z) + r' * (y * z)
added p q p' q' k l r r' t t' x y z h e e' = omega (arith, mul-le-mul_right (z * z) h, ap (λ (n : ℕ). n * (y * z)) e, ap (λ (n : ℕ). n * (x * z)) e')

sums_keep : (f : Format) (s t u : Bool) (a b k x y z : ℕ) → 0 < x → 0 < y → 0 < z → Under s (a * y) t (b * x)
    → T (le (sum f s (a * z) u (k * x) (x * z)) (sum f t (b * z) u (k * y) (y * z)))
sums_keep f s t u a b k x y z X Y Z h =
    let g = exact_sum f s (a * z) u (k * x) (x * z) in
    let g' = exact_sum f t (b * z) u (k * y) (y * z) in
    rw (g.2, g'.2)
    (round_le f g.0 g'.0 g.1 (x * z) g'.1 (y * z) (mul-pos X Z) (mul-pos Y Z)
    (simp scaled
    (added (over s a) (over (not s) a) (over t b) (over (not t) b) (over u k) (over (not u) k) (over g.0 g.1) (over (not g.0) g.1)
    (over g'.0 g'.1) (over (not g'.0) g'.1) x y z (simp scaled at h) (simp scaled at g.3) (simp scaled at g'.3))))

-- A sum grows with a part, where neither sum is a NaN.
pub add_mono : (f : Format) (x y c : Float) → T (not (is_nan (add f x c))) → T (not (is_nan (add f y c))) → T (le x y) → T (le (add f x c) (add f y c))
unfolding le add is_nan
add_mono f nan y c u v h = absurd h
add_mono f (inf true) y nan u v h = absurd u
add_mono f (inf true) y (inf true) u v h = lowest (add f y (inf true)) v
add_mono f (inf true) y (inf false) u v h = absurd u
add_mono f (inf true) y (fin k n d) u v h = lowest (add f y (fin k n d)) v
add_mono f (inf false) nan c u v h = absurd h
add_mono f (inf false) (inf true) c u v h = absurd h
add_mono f (inf false) (inf false) c u v h = le_self (add f (inf false) c) u
add_mono f (inf false) (fin t n d) c u v h = absurd h
add_mono f (fin s m e) nan c u v h = absurd h
add_mono f (fin s m e) (inf true) c u v h = absurd h
add_mono f (fin s m e) (inf false) nan u v h = absurd u
add_mono f (fin s m e) (inf false) (inf true) u v h = absurd v
add_mono f (fin s m e) (inf false) (inf false) u v h = tt
add_mono f (fin s m e) (inf false) (fin t n d) u v h = highest (add f (fin s m e) (fin t n d)) u
add_mono f (fin s m e) (fin t n d) nan u v h = absurd u
add_mono f (fin s m e) (fin t n d) (inf r) u v h = le_self (inf r) u
add_mono f (fin s m e) (fin t n d) (fin r k g) u v h =
    sums_keep f s t r (m * up e) (n * up d) (k * up g) (down e) (down d) (down g) (down_pos e) (down_pos d) (down_pos g)
    (le_under s t (m * up e * down d) (n * up d * down e) h)

round_plain : (f : Format) (s : Bool) (a b : ℕ) → 0 < b → T (not (is_nan (round f s a b)))
round_plain f s a b B = (compared (round f s a b) (round f s a b) (round_le f s s a b a b B B (le_refl _))).0

above_plain : (x : Float) → T (above x) → T (not (is_nan x))
unfolding is_nan
above_plain nan h = absurd h
above_plain (inf s) h = tt
above_plain (fin s m e) h = tt

-- A sum above zero stays a number as a part grows: it would take an infinity against the other to make a NaN, and with that one the sum was below zero.
add_still : (f : Format) (x y c : Float) → T (above (add f x c)) → T (le x y) → T (not (is_nan (add f y c)))
unfolding le add is_nan
add_still f nan y c a h = absurd h
add_still f (inf true) y nan a h = absurd a
add_still f (inf true) y (inf true) a h = absurd a
add_still f (inf true) y (inf false) a h = absurd a
add_still f (inf true) y (fin t n d) a h = absurd a
add_still f (inf false) nan c a h = absurd h
add_still f (inf false) (inf true) c a h = absurd h
add_still f (inf false) (inf false) nan a h = absurd a
add_still f (inf false) (inf false) (inf true) a h = absurd a
add_still f (inf false) (inf false) (inf false) a h = tt
add_still f (inf false) (inf false) (fin t n d) a h = tt
add_still f (inf false) (fin t n d) c a h = absurd h
add_still f (fin s m e) nan c a h = absurd h
add_still f (fin s m e) (inf true) c a h = absurd h
add_still f (fin s m e) (inf false) nan a h = absurd a
add_still f (fin s m e) (inf false) (inf true) a h = absurd a
add_still f (fin s m e) (inf false) (inf false) a h = tt
add_still f (fin s m e) (inf false) (fin t n d) a h = tt
add_still f (fin s m e) (fin t n d) nan a h = absurd a
add_still f (fin s m e) (fin t n d) (inf r) a h = tt
add_still f (fin s m e) (fin t n d) (fin r k g) a h =
    let q = exact_sum f t (n * up d * down g) r (k * up g * down d) (down d * down g) in
    rw q.2 (round_plain f q.0 q.1 (down d * down g) (mul-pos (down_pos d) (down_pos g)))

pub add_above_mono : (f : Format) (x y c : Float) → T (above (add f x c)) → T (le x y) → T (le (add f x c) (add f y c))
add_above_mono f x y c a h = add_mono f x y c (above_plain (add f x c) a) (add_still f x y c a h) h

-- ---- what the format holds grows by what is not below zero

-- what the format holds is rounded to itself
round_own : (f : Format) (s : Bool) (m : ℕ) (e : ℤ) → T (fits f (fin s m e)) → round f s (m * up e) (down e) ≡ fin s m e
round_own f s m e F =
    let v = value_held f s m e F in
    same_value f s v.0 (round f s (m * up e) (down e)) (fin s m e) (round-fits f s (m * up e) (down e)) F
    (rounded_exact f s (m * up e) (down e) v.0 (down_pos e) v.1 v.2 v.3.1) v.3

not_below : (t : Bool) (b d : ℕ) → Under false (0 * 1 * d) t (b * 1) → over (not t) b ≤ over t b
not_below false b d h = omega arith
not_below true b d h = omega arith

-- (p - q) / x, to which (k - l) / y is added
grown : (p q k l r r' x y : ℕ) → l ≤ k → r + q * y + l * x ≡ r' + p * y + k * x → p * (x * y) + r' * x ≤ r * x + q * (x * y)
grown p q k l r r' x y h e = omega (arith, mul-le-mul_right (x * x) h, ap (λ (n : ℕ). n * x) e)

sum_grows : (f : Format) (s t : Bool) (a b x y : ℕ) → 0 < x → 0 < y → over (not t) b ≤ over t b → T (le (round f s a x) (sum f s (a * y) t (b * x) (x * y)))
sum_grows f s t a b x y X Y h =
    let g = exact_sum f s (a * y) t (b * x) (x * y) in
    rw g.2
    (round_le f s g.0 a x g.1 (x * y) X (mul-pos X Y)
    (simp scaled
    (grown (over s a) (over (not s) a) (over t b) (over (not t) b) (over g.0 g.1) (over (not g.0) g.1) x y h (simp scaled at g.3))))

pub add_grows : (f : Format) (x c : Float) → T (fits f x) → T (le nought c) → T (not (is_nan (add f x c))) → T (le x (add f x c))
unfolding le add is_nan
add_grows f nan c F h u = absurd u
add_grows f (inf true) c F h u = lowest (add f (inf true) c) u
add_grows f (inf false) nan F h u = absurd u
add_grows f (inf false) (inf true) F h u = absurd u
add_grows f (inf false) (inf false) F h u = tt
add_grows f (inf false) (fin t n d) F h u = tt
add_grows f (fin s m e) nan F h u = absurd u
add_grows f (fin s m e) (inf true) F h u = absurd h
add_grows f (fin s m e) (inf false) F h u = tt
add_grows f (fin s m e) (fin t n d) F h u =
    rw (← round_own f s m e F)
    (sum_grows f s t (m * up e) (n * up d) (down e) (down d) (down_pos e) (down_pos d)
    (not_below t (n * up d) (down d) (le_under false t (0 * 1 * down d) (n * up d * 1) h)))

-- ---- floats above zero, an infinity included

pub lt_above : (x : Float) → T (lt nought x) → T (above x)
unfolding lt
lt_above nan h = absurd h
lt_above (inf t) h = h
lt_above (fin true n d) h = absurd h
lt_above (fin false n d) h = lt→ltb 0 n (first_pos n (up d) (omega (arith, ltb→lt (0 * 1 * down d) (n * up d * 1) h)))

below_above : (x : Float) → T (lt x nought) → T (above (neg x))
unfolding lt neg
below_above nan h = absurd h
below_above (inf true) h = tt
below_above (inf false) h = absurd h
below_above (fin true m e) h = lt→ltb 0 m (first_pos m (up e) (omega (arith, ltb→lt 0 (m * up e * 1 + 0 * 1 * down e) h)))
below_above (fin false m e) h = absurd (omega (arith, ltb→lt (m * up e * 1) (0 * 1 * down e) h))

above_le : (x y : Float) → T (above x) → T (le x y) → T (above y)
unfolding le
above_le nan y a h = absurd a
above_le (inf true) y a h = absurd a
above_le (inf false) nan a h = absurd h
above_le (inf false) (inf true) a h = absurd h
above_le (inf false) (inf false) a h = tt
above_le (inf false) (fin t n d) a h = absurd h
above_le (fin true m e) y a h = absurd a
above_le (fin false m e) y a h = above_of_le (fin false m e) y a h

-- what lies below a finite one is finite
held_down : (x : Float) (m : ℕ) (e : ℤ) → T (above x) → T (le x (fin false m e)) → T (positive x)
unfolding le
held_down nan m e a h = absurd a
held_down (inf true) m e a h = absurd a
held_down (inf false) m e a h = absurd h
held_down (fin true n d) m e a h = absurd a
held_down (fin false n d) m e a h = a

-- ---- products of floats above zero

no_zero : (n : ℕ) (x y : Float) → T (ltb 0 n) → cond (eqb n 0) x y ≡ y
no_zero n x y h = rw (ne_eqb n 0 (λ e. omega (arith, ltb→lt 0 n h)))

with_inf : (f : Format) (x : Float) → T (above x) → (mul f (inf false) x ≡ inf false) × (mul f x (inf false) ≡ inf false)
unfolding mul
with_inf f nan a = absurd a
with_inf f (inf true) a = absurd a
with_inf f (inf false) a = (refl, refl)
with_inf f (fin true n d) a = absurd a
with_inf f (fin false n d) a = (no_zero n nan (inf false) a, no_zero n nan (inf false) a)

no_nan_times : (f : Format) (x y : Float) → T (above x) → T (above y) → T (le (mul f x y) (inf false))
unfolding mul
no_nan_times f nan y a b = absurd a
no_nan_times f (inf true) y a b = absurd a
no_nan_times f (inf false) y a b = rw (with_inf f y b).0 (unfold le in tt)
no_nan_times f (fin true m e) y a b = absurd a
no_nan_times f (fin false m e) nan a b = absurd b
no_nan_times f (fin false m e) (inf true) a b = absurd b
no_nan_times f (fin false m e) (inf false) a b = rw (with_inf f (fin false m e) a).1 (unfold le in tt)
no_nan_times f (fin false m e) (fin true n d) a b = absurd b
no_nan_times f (fin false m e) (fin false n d) a b =
    let D = mul-pos (down_pos e) (down_pos d) in
    highest _ (compared nought (round f false (m * up e * (n * up d)) (down e * down d)) (round_not_below f _ _ D)).1

pub product_mono : (f : Format) (x x' y y' : Float) → T (above x) → T (le x x') → T (above y) → T (le y y') → T (le (mul f x y) (mul f x' y'))
product_mono f x nan y y' a h b k = absurd (above_le x nan a h)
product_mono f x (inf true) y y' a h b k = absurd (above_le x (inf true) a h)
product_mono f x (inf false) y y' a h b k = rw (with_inf f y' (above_le y y' b k)).0 (no_nan_times f x y a b)
product_mono f x (fin true m e) y y' a h b k = absurd (above_le x (fin true m e) a h)
product_mono f x (fin false m e) y nan a h b k = absurd (above_le y nan b k)
product_mono f x (fin false m e) y (inf true) a h b k = absurd (above_le y (inf true) b k)
product_mono f x (fin false m e) y (inf false) a h b k = rw (with_inf f (fin false m e) (above_le x (fin false m e) a h)).1 (no_nan_times f x y a b)
product_mono f x (fin false m e) y (fin true n d) a h b k = absurd (above_le y (fin true n d) b k)
product_mono f x (fin false m e) y (fin false n d) a h b k =
    mul_mono f x (fin false m e) y (fin false n d) (held_down x m e a h) (above_le x (fin false m e) a h) (held_down y n d b k) (above_le y (fin false n d) b k) h k

-- ---- a product above zero with a factor that is not below zero: both factors are above zero

round_above : (f : Format) (s : Bool) (a b : ℕ) → 0 < b → T (lt nought (round f s a b)) → T (not s) × (0 < a)
unfolding lt
round_above f true a b B h =
    absurd (clash nought (neg (round f false a b)) (rw (round_turned f a b) at h) (neg_through (round f false a b) nought (round_not_below f a b B) (unfold le in tt)))
round_above f false zero b B h = absurd (rw (round_nothing f false b B) at h)
round_above f false (suc a) b B h = (tt, omega arith)

inf_above : (n : ℕ) (s : Bool) → T (lt nought (cond (eqb n 0) nan (inf s))) → T (not s) × (0 < n)
unfolding lt
inf_above n s h = by (eqb n 0) refl h
  where
    by : (z : Bool) → eqb n 0 ≡ z → T (lt nought (cond z nan (inf s))) → T (not s) × (0 < n)
    by true e h = absurd h
    by false e h = (h, omega (arith, eqb-false n 0 e))

-- the sign of a number that is not below zero
no_sign : (t : Bool) (n : ℕ) (d : ℤ) → T (le nought (fin t n d)) → 0 < n → T (not t)
unfolding le
no_sign false n d h k = tt
no_sign true n d h k = absurd (omega (arith, le_under false true (0 * 1 * down d) (n * up d * 1) h, mul-pos k (up_pos d)))

alike : (s t : Bool) → T (not (unlike s t)) → T (not t) → T (not s)
alike true true h k = absurd k
alike true false h k = absurd h
alike false t h k = tt

above_zero : (s : Bool) (m : ℕ) (e : ℤ) → T (not s) → 0 < m → T (above (fin s m e))
above_zero true m e h k = absurd h
above_zero false m e h k = lt→ltb 0 m k

pub factors_above : (f : Format) (x y : Float) → T (le nought y) → T (lt nought (mul f x y)) → T (above x) × T (above y)
unfolding le lt mul
factors_above f nan y h k = absurd k
factors_above f (inf s) nan h k = absurd h
factors_above f (inf s) (inf true) h k = absurd h
factors_above f (inf s) (inf false) h k = (alike s false k tt, tt)
factors_above f (inf s) (fin t n d) h k =
    let p = inf_above n (unlike s t) k in
    let q = no_sign t n d h p.1 in
    (alike s t p.0 q, above_zero t n d q p.1)
factors_above f (fin s m e) nan h k = absurd h
factors_above f (fin s m e) (inf true) h k = absurd h
factors_above f (fin s m e) (inf false) h k = let p = inf_above m (unlike s false) k in (above_zero s m e (alike s false p.0 tt) p.1, tt)
factors_above f (fin s m e) (fin t n d) h k =
    let p = round_above f (unlike s t) (m * up e * (n * up d)) (down e * down d) (mul-pos (down_pos e) (down_pos d)) k in
    let M : 0 < m = first_pos m (up e) (first_pos (m * up e) (n * up d) p.1) in
    let N : 0 < n = first_pos n (up d) (first_pos (n * up d) (m * up e) (omega (arith, p.1))) in
    let q = no_sign t n d h N in
    (above_zero s m e (alike s t p.0 q) M, above_zero t n d q N)

-- ---- the whole part, cut off where a width ends

pub to_unsigned_mono : (w : ℕ) (x y : Float) → T (above x) → T (le x y) → to_unsigned w x ≤ to_unsigned w y
unfolding to_unsigned le
to_unsigned_mono w nan y a h = absurd a
to_unsigned_mono w (inf true) y a h = absurd a
to_unsigned_mono w (inf false) nan a h = absurd h
to_unsigned_mono w (inf false) (inf true) a h = absurd h
to_unsigned_mono w (inf false) (inf false) a h = le_refl _
to_unsigned_mono w (inf false) (fin t n d) a h = absurd h
to_unsigned_mono w (fin true m e) y a h = absurd a
to_unsigned_mono w (fin false m e) nan a h = absurd h
to_unsigned_mono w (fin false m e) (inf true) a h = absurd h
to_unsigned_mono w (fin false m e) (inf false) a h = omega arith
to_unsigned_mono w (fin false m e) (fin true n d) a h = absurd (above_le (fin false m e) (fin true n d) a h)
to_unsigned_mono w (fin false m e) (fin false n d) a h =
    let k = le_under false false (m * up e * down d) (n * up d * down e) h in
    omega (arith, div_mono (m * up e) (down e) (n * up d) (down d) (down_pos e) (down_pos d) (omega arith))

-- ---- squares

square_turned : (f : Format) (x : Float) → mul f (neg x) (neg x) ≡ mul f x x
unfolding mul neg
square_turned f nan = refl
square_turned f (inf true) = refl
square_turned f (inf false) = refl
square_turned f (fin true m e) = refl
square_turned f (fin false m e) = refl

-- a square grows away from zero, on either side
pub squares_grow : (f : Format) (x y : Float) → (T (lt nought x) × T (le x y)) ⊎ (T (lt x nought) × T (le y x)) → T (le (mul f x x) (mul f y y))
squares_grow f x y (inl h) = product_mono f x y x y (lt_above x h.0) h.1 (lt_above x h.0) h.1
squares_grow f x y (inr h) =
    let a = below_above x h.0 in
    let k = neg_le y x h.1 in
    rw (square_turned f x, square_turned f y) at (product_mono f (neg x) (neg y) (neg x) (neg y) a k a k)

pub square_not_below : (f : Format) (x : Float) → T (not (is_nan x)) → T (le nought (mul f x x))
unfolding mul is_nan
square_not_below f nan h = absurd h
square_not_below f (inf true) h = unfold le in tt
square_not_below f (inf false) h = unfold le in tt
square_not_below f (fin true m e) h = round_not_below f (m * up e * (m * up e)) (down e * down e) (mul-pos (down_pos e) (down_pos e))
square_not_below f (fin false m e) h = round_not_below f (m * up e * (m * up e)) (down e * down e) (mul-pos (down_pos e) (down_pos e))

-- ---- an operation with a NaN is a NaN

pub add_plain : (f : Format) (x y : Float) → T (not (is_nan (add f x y))) → T (not (is_nan x)) × T (not (is_nan y))
unfolding add is_nan
add_plain f nan y h = absurd h
add_plain f (inf s) nan h = absurd h
add_plain f (inf s) (inf t) h = (tt, tt)
add_plain f (inf s) (fin t n d) h = (tt, tt)
add_plain f (fin s m e) nan h = absurd h
add_plain f (fin s m e) (inf t) h = (tt, tt)
add_plain f (fin s m e) (fin t n d) h = (tt, tt)

pub square_plain : (f : Format) (x : Float) → T (not (is_nan (mul f x x))) → T (not (is_nan x))
unfolding mul is_nan
square_plain f nan h = absurd h
square_plain f (inf s) h = tt
square_plain f (fin s m e) h = tt
