-- At or below zero, the difference from 0.0 is exact.
use Rattle.std.proofs.Common.{◌≡◌, ℕ, zero, suc, ◌+◌, ◌*◌, ◌^◌, ◌<◌, Bool, true, false, ◌&&◌, ◌||◌, T, eqb, ltb, ℤ, pos, sym, refl, ap, ◌∙◌, subst, zero-lt-suc, mul-pos, one-mul, zero-mul, arith, rules, le-ltb, lt-ltb, ne_eqb}
use mathlib.Core.Bool.{false≢true}
use lib.Ieee.{Float, nan, inf, fin, Format, binary64, low, up, down, fits, neg, le, sub, add, sum, round}
use lib.Ieee.Fits.{up_pos, down_pos, sub-fits, neg-fits}
use lib.Ieee.Exact.{HasValue}
use Rattle.rounding.specs.Methods.{abs_f}
use Rattle.rounding.proofs.Outer.{zero_is}
use Rattle.rounding.proofs.Values.{value_held, same_value, rounded_exact}
use Rattle.rounding.proofs.methods.abs.Goals as goal

abbrev zero_f : Float
zero_f = fin false 0 (pos 0)

-- ---- what `0.0 - x` rounds, for an x that is not above zero
minus_negative : (f : Format) (m : ℕ) (e : ℤ) → sub f zero_f (fin true m e) ≡ round f false (0 * 1 * down e + m * up e * 1) (1 * down e)
unfolding sub add sum neg
minus_negative f m e = refl

minus_zero : (f : Format) (e : ℤ) → sub f zero_f (fin false zero e) ≡ round f false 0 (1 * down e)
unfolding sub add sum neg
minus_zero f e =
    ap (λ (a : ℕ). sum f false a true (0 * up e * 1) (1 * down e)) (none (down e))
    ∙ ap (λ (b : ℕ). sum f false 0 true b (1 * down e)) (none' (up e))
  where
    none : (d : ℕ) → 0 * 1 * d ≡ 0
    none d = omega arith

    none' : (u : ℕ) → 0 * u * 1 ≡ 0
    none' u = omega arith

-- the difference is a float that fits, of the same value as the one that is wanted
made : (f : Format) (s : Bool) (m : ℕ) (e : ℤ) (N : ℕ) → T (fits f (fin s m e)) → T (fits f (fin false m e)) → N ≡ m * up e → sub f zero_f (fin s m e) ≡ round f false N (1 * down e) → sub f zero_f (fin s m e) ≡ fin false m e
made f s m e N F G n r =
    let v = value_held f s m e F in
    let w : N * 2 ^ low f ≡ v.0 * (1 * down e) = ap (λ (x : ℕ). x * 2 ^ low f) n ∙ v.3.1 ∙ ap (λ (x : ℕ). v.0 * x) (sym (one-mul (down e))) in
    same_value f false v.0 (sub f zero_f (fin s m e)) (fin false m e) (sub-fits f zero_f (fin s m e)) G
    (subst (λ (y : Float). HasValue y false v.0 (2 ^ low f)) (sym r) (rounded_exact f false N (1 * down e) v.0 (mul-pos (zero-lt-suc 0) (down_pos e)) v.1 v.2 w))
    (refl, v.3.1)

turned_fits : (f : Format) (m : ℕ) (e : ℤ) → T (fits f (fin true m e)) → T (fits f (fin false m e))
unfolding neg
turned_fits f m e F = neg-fits f (fin true m e) F

-- ---- the test itself
above_zero : (m : ℕ) (e : ℤ) → le (fin false (suc m) e) zero_f ≡ false
unfolding le
above_zero m e =
    let p : 0 < suc m * up e = mul-pos (zero-lt-suc m) (up_pos e) in
    let z = zero-mul (down e) in
    rw (le-ltb (suc m * up e * 1) (0 * down e) (omega arith), ne_eqb (suc m * up e * 1) (0 * down e) (λ q. omega arith))

reached : (a b : ℕ) → b ≡ 0 → ltb 0 (a + b) || (eqb a b && (false || eqb a 0)) ≡ true
reached zero b z = rw z
reached (suc a) b z = rw (lt-ltb 0 (suc a + b) (omega arith))

at_or_below : (m : ℕ) (e : ℤ) → le (fin true m e) zero_f ≡ true
unfolding le
at_or_below m e = reached (m * up e * 1) (0 * down e) (zero-mul (down e))

-- ---- its two ways
turned : (f : Format) (x : Float) → T (fits f x) → le x zero_f ≡ true → sub f zero_f x ≡ abs_f x
unfolding le sub add neg abs_f
turned f nan F h = absurd (false≢true h)
turned f (inf true) F h = refl
turned f (inf false) F h = absurd (false≢true h)
turned f (fin true m e) F h = made f true m e (0 * 1 * down e + m * up e * 1) F (turned_fits f m e F) (omega arith) (minus_negative f m e)
turned f (fin false zero e) F h = made f false 0 e 0 F F (omega arith) (minus_zero f e)
turned f (fin false (suc m) e) F h = absurd (false≢true (sym (above_zero m e) ∙ h))

kept : (x : Float) → le x zero_f ≡ false → x ≡ abs_f x
unfolding le abs_f
kept nan h = refl
kept (inf true) h = absurd (false≢true (sym h))
kept (inf false) h = refl
kept (fin true m e) h = absurd (false≢true (sym h ∙ at_or_below m e))
kept (fin false m e) h = refl

pub returns-then-x : goal.returns-then-x
returns-then-x c = let held : T (fits binary64 c.args.x) = search rules in rw zero_is (turned binary64 c.args.x held (rw zero_is at c.if-x.true))

pub returns-else-x : goal.returns-else-x
returns-else-x c = kept c.args.x (rw zero_is at c.if-x.false)
