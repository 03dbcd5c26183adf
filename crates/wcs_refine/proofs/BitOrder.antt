-- Floats that are not below zero, nor -0, and that binary64 holds: they are ordered as their bits are, and squares, their sums and roots are such floats.
-- Assumes nothing.
use Rattle.std.proofs.Common.{◌≡◌, ℕ, zero, suc, ◌+◌, ◌*◌, ◌^◌, ◌≤◌, max, Bool, true, false, cond, not, ◌&&◌, ◌||◌, T, eqb, ltb, sym, refl, ap, ◌∙◌, subst, inl, inr, le_of_eq, le_of_lt, eq-or-lt_of_le, arith, eqb→eq, ltb→lt, nltb→le}
use lib.Dec.{eqb_refl}
use lib.Ieee.{Float, nan, inf, fin, Format, binary64, prec, emax, low, up, down, fits, is_nan, to_bits, of_bits, lt, eq, le, odd, units, round, add, mul, sum}
use lib.Ieee.Bits.{of_bits-to_bits}
use lib.Ieee.Fits.{two, and_i, and_l, add-fits, mul-fits}
use Rattle.rounding.specs.Root.{root, root_of, place}
use Rattle.rounding.specs.Rounded.{Holds}
use Rattle.rounding.specs.Methods.{negative, max_f}
use Rattle.rounding.specs.Arith.{◌⊕◌, ◌⊗◌, zero64}
use Rattle.rounding.proofs.Outer.{zero_is, root_fits}
use Rattle.rounding.proofs.Magnitude.{Sized, sized, sized_bits, sized_lt, sized_eq, pattern, pattern_lt}

-- neither a NaN, nor a number with the sign set
abbrev pub unsigned : Float → Bool
unsigned nan = false
unsigned (inf s) = not s
unsigned (fin s m e) = not s

pub record Plain (x : Float) : Type 0 where
  pub sign : T (unsigned x)
  pub held : T (fits binary64 x)

abbrev pub bits : Float → ℕ
bits = to_bits binary64

-- ---- the order is that of the bits
is_number : (x : Float) → T (unsigned x) → T (not (is_nan x))
unfolding is_nan
is_number nan t = elim t [ ]
is_number (inf s) t = tt
is_number (fin s m e) t = tt

no_sign : (x : Float) → T (unsigned x) → negative x ≡ false
unfolding negative
no_sign nan t = elim t [ ]
no_sign (inf true) t = elim t [ ]
no_sign (inf false) t = refl
no_sign (fin true m e) t = elim t [ ]
no_sign (fin false m e) t = refl

in_units : (x : Float) → Plain x → (a : ℕ) × Holds 53 a × Sized binary64 x false a
in_units x p =
    let z = sized binary64 x p.held (is_number x p.sign) in
    (z.0, z.1, subst (λ (s : Bool). Sized binary64 x s z.0) (no_sign x p.sign) z.2)

module _ (x y : Float) (p : Plain x) (q : Plain y) where
  abbrev a : ℕ
  a = (in_units x p).0

  abbrev b : ℕ
  b = (in_units y q).0

  bits_x : bits x ≡ pattern 53 a
  bits_x = sized_bits binary64 x false a (in_units x p).2 ∙ omega arith

  bits_y : bits y ≡ pattern 53 b
  bits_y = sized_bits binary64 y false b (in_units y q).2 ∙ omega arith

  up_to : a ≤ b → bits x ≤ bits y
  up_to h = elim (eq-or-lt_of_le h) [
    | inl e ↦ le_of_eq (bits_x ∙ ap (pattern 53) e ∙ sym bits_y)
    | inr l ↦ omega (arith, pattern_lt 53 a b (two binary64) (in_units x p).1 (in_units y q).1 l, bits_x, bits_y)
  ]

  lt_is : lt x y ≡ ltb a b
  lt_is = sized_lt binary64 x y false false a b (in_units x p).2 (in_units y q).2

  pub lt_bits : T (lt x y) → bits x ≤ bits y
  lt_bits t = up_to (le_of_lt (ltb→lt a b (subst T lt_is t)))

  pub le_bits : T (le x y) → bits x ≤ bits y
  unfolding le
  le_bits t = go (lt x y) (eq x y) refl refl t
    where
      go : (u v : Bool) → lt x y ≡ u → eq x y ≡ v → T (u || v) → bits x ≤ bits y
      go true v e g t = lt_bits (subst T (sym e) tt)
      go false true e g t =
          let s : eq x y ≡ eqb a b && true = sized_eq binary64 x y false false a b (in_units x p).2 (in_units y q).2 in
          up_to (le_of_eq (eqb→eq a b (and_l (eqb a b) true (subst T s (subst T (sym g) tt)))))
      go false false e g t = elim t [ ]

pub not_lt_bits : (x y : Float) → Plain x → Plain y → T (not (lt x y)) → bits y ≤ bits x
not_lt_bits x y p q t = up_to y x q p (nltb→le (in_units x p).0 (in_units y q).0 (subst (λ (u : Bool). T (not u)) (lt_is x y p q) t))

pub le_itself : (x : Float) → Plain x → T (le x x)
unfolding le
le_itself x p =
    let z = in_units x p in
    let s : eq x x ≡ eqb z.0 z.0 && true = sized_eq binary64 x x false false z.0 z.0 z.2 z.2 in
    go (lt x x) (eq x x) (subst T (sym s) (and_i (eqb z.0 z.0) true (eqb_refl z.0) tt))
  where
    go : (u v : Bool) → T v → T (u || v)
    go true v t = tt
    go false v t = t

pub by_bits : (x y : Float) → Plain x → Plain y → bits x ≡ bits y → x ≡ y
by_bits x y p q e = sym (of_bits-to_bits binary64 x p.held) ∙ ap (of_bits binary64) e ∙ of_bits-to_bits binary64 y q.held

-- ---- the greater of two
not_nan : (x : Float) → T (unsigned x) → is_nan x ≡ false
unfolding is_nan
not_nan nan t = elim t [ ]
not_nan (inf s) t = refl
not_nan (fin s m e) t = refl

pub max_plain : (x y : Float) → Plain x → Plain y → Plain (max_f x y) × (bits (max_f x y) ≡ max (bits x) (bits y))
unfolding max_f
max_plain x y p q = go (is_nan x) (lt x y) (not_nan x p.sign) refl
  where
    go : (n l : Bool) → n ≡ false → lt x y ≡ l → let m = cond n y (cond l y x) in Plain m × (bits m ≡ max (bits x) (bits y))
    go true l e h = absurd (subst (λ (b : Bool). T b) e tt)
    go false true e h = (q, omega (arith, lt_bits x y p q (subst T (sym h) tt)))
    go false false e h = (p, omega (arith, not_lt_bits x y p q (subst (λ (b : Bool). T (not b)) (sym h) tt)))

pub zero_plain : Plain zero64
zero_plain = subst Plain (sym (zero_is binary64)) (record { sign = tt; held = unfold fits in tt })

-- ---- squares, sums and roots
odd_unsigned : (d q k l : ℕ) → T (unsigned (odd d false q k l))
unfolding odd
odd_unsigned d zero k l = tt
odd_unsigned d (suc q) k l = tt

units_unsigned : (f : Format) (q k : ℕ) → T (unsigned (units f false q k))
unfolding units
units_unsigned f q k = go (ltb (q * 2 ^ k) (2 ^ (low f + suc (emax f))))
  where
    go : (b : Bool) → T (unsigned (cond b (odd (suc (prec f)) false q k (low f)) (inf false)))
    go true = odd_unsigned (suc (prec f)) q k (low f)
    go false = tt

round_unsigned : (f : Format) (m n : ℕ) → T (unsigned (round f false m n))
unfolding round
round_unsigned f m n = units_unsigned f _ _

abbrev pub numeric : Float → Bool
numeric nan = false
numeric (inf s) = true
numeric (fin s m e) = true

pub square_plain : (x : Float) → T (numeric x) → Plain (x ⊗ x)
square_plain x t = record { sign = go x t; held = mul-fits binary64 x x }
  where
    go : (x : Float) → T (numeric x) → T (unsigned (mul binary64 x x))
    go nan t = elim t [ ]
    go (inf true) t = unfold mul in tt
    go (inf false) t = unfold mul in tt
    go (fin true m e) t = unfold mul in round_unsigned binary64 (m * up e * (m * up e)) (down e * down e)
    go (fin false m e) t = unfold mul in round_unsigned binary64 (m * up e * (m * up e)) (down e * down e)

sum_unsigned : (f : Format) (m n d : ℕ) → T (unsigned (sum f false m false n d))
unfolding sum
sum_unsigned f m n d = round_unsigned f (m + n) d

pub add_plain : (x y : Float) → Plain x → Plain y → Plain (x ⊕ y)
add_plain x y p q = record { sign = go x y p.sign q.sign; held = add-fits binary64 x y }
  where
    go : (x y : Float) → T (unsigned x) → T (unsigned y) → T (unsigned (add binary64 x y))
    go nan _ p q = elim p [ ]
    go (inf true) _ p q = elim p [ ]
    go (inf false) nan p q = elim q [ ]
    go (inf false) (inf true) p q = elim q [ ]
    go (inf false) (inf false) p q = unfold add in tt
    go (inf false) (fin true n d) p q = elim q [ ]
    go (inf false) (fin false n d) p q = unfold add in tt
    go (fin true m e) _ p q = elim p [ ]
    go (fin false m e) nan p q = elim q [ ]
    go (fin false m e) (inf true) p q = elim q [ ]
    go (fin false m e) (fin true n d) p q = elim q [ ]
    go (fin false m e) (inf false) p q = unfold add in tt
    go (fin false m e) (fin false n d) p q = unfold add in sum_unsigned binary64 (m * up e * down d) (n * up d * down e) (down e * down d)

root_of_unsigned : (f : Format) (m n : ℕ) → T (unsigned (root_of f m n))
unfolding root_of place
root_of_unsigned f m n = units_unsigned f _ _

pub root_plain : (x : Float) → Plain x → Plain (root binary64 x)
root_plain nan p = absurd p.sign
root_plain (inf true) p = absurd p.sign
root_plain (inf false) p = unfold root in p
root_plain (fin true m e) p = absurd p.sign
root_plain (fin false zero e) p = unfold root in p
root_plain (fin false (suc m) e) p = record { sign = unfold root in root_of_unsigned binary64 (suc m * up e) (down e); held = (root_fits binary64 m e).0 }
