-- The greater of two roots is the root of the greater number, for floats that fit the format with a clear sign, as sums of squares are. Assumes nothing.
use Rattle.std.proofs.Common.{◌≡◌, ℕ, zero, suc, ◌+◌, ◌*◌, ◌^◌, ◌<◌, ◌≤◌, min, Bool, true, false, cond, not, T, ltb, ◌⊎◌, pos, sym, refl, ap, ◌∙◌, inl, inr, true≢false, mul-pos, arith, ltb-false, ltb-true, le-ltb}
use lib.Ieee.{Float, nan, inf, fin, Format, low, up, down, lt, is_nan, fits, of_bits, add, mul, sum, round}
use lib.Ieee.Bits.{of_bits-to_bits}
use lib.Ieee.Fits.{down_pos, inf-fits, add-fits}
use lib.Ieee.Scale.{overflow}
use Rattle.rounding.specs.Methods.{negative, max_f}
use Rattle.rounding.specs.Root.{root}
use Rattle.rounding.specs.Rounded.{FractionUnder, FractionOver}
use Rattle.rounding.proofs.Magnitude.{Sized, sized, sized_bits, sized_lt}
use Rattle.rounding.proofs.Monotone.{rounded_sized, sizes_le, le_sizes, zero_sized, root_sized, root_rises}
use Rattle.rounding.proofs.Outer.{zero_is, root_fits}
use Rattle.rounding.proofs.Rounding.{round_rounded}

-- a float of the format, a NaN or with a clear sign
abbrev pub Plain : Format → Float → Type 0
Plain f x = T (fits f x) × (negative x ≡ false)

-- ---- the size and the sign determine a float
sized_same : (f : Format) (x y : Float) (s : Bool) (a : ℕ) → T (fits f x) → T (fits f y) → Sized f x s a → Sized f y s a → x ≡ y
sized_same f x y s a F G z w = sym (of_bits-to_bits f x F) ∙ ap (of_bits f) (sized_bits f x s a z ∙ sym (sized_bits f y s a w)) ∙ of_bits-to_bits f y G

sized_sign : (f : Format) (x : Float) (s : Bool) (a : ℕ) → Sized f x s a → negative x ≡ s
unfolding negative
sized_sign f nan s a z = absurd z
sized_sign f (inf t) s a z = z.0
sized_sign f (fin t m e) s a z = z.0.0

sized_number : (f : Format) (x : Float) (s : Bool) (a : ℕ) → Sized f x s a → is_nan x ≡ false
unfolding is_nan
sized_number f nan s a z = absurd z
sized_number f (inf t) s a z = refl
sized_number f (fin t m e) s a z = refl

-- ---- the root of a number with a clear sign is one
record Clear (f : Format) (x : Float) : Type 0 where
  fitting : T (fits f x)
  size : ℕ
  is : Sized f x false size

clear : (f : Format) (x : Float) → Plain f x → T (not (is_nan x)) → Clear f x
clear f x (F, n) N = let z = sized f x F N in record { fitting = F; size = z.0; is = rw n at z.2 }

clear_root : (f : Format) (x : Float) → Plain f x → T (not (is_nan x)) → Clear f (root f x)
unfolding negative is_nan root
clear_root f nan P N = absurd N
clear_root f (inf true) P N = absurd (true≢false P.1)
clear_root f (inf false) P N = record { fitting = inf-fits f false; size = overflow f; is = (refl, refl) }
clear_root f (fin true m e) P N = absurd (true≢false P.1)
clear_root f (fin false zero e) P N = record { fitting = P.0; size = 0; is = zero_sized f false e }
clear_root f (fin false (suc m) e) P N = let z = root_sized f m e in record { fitting = (root_fits f m e).0; size = z.0; is = z.1 }

-- ---- two numbers with clear signs
module _ (f : Format) (x y : Float) (X : Clear f x) (Y : Clear f y) (R : Clear f (root f x)) (S : Clear f (root f y)) where
  rises : X.size ≤ Y.size → R.size ≤ S.size
  rises h =
      let o : lt x (fin false 0 (pos 0)) ≡ ltb X.size 0 = sized_lt f x (fin false 0 (pos 0)) false false X.size 0 X.is (zero_sized f false (pos 0)) in
      let z : lt x (of_bits f 0) ≡ false = ap (lt x) (zero_is f) ∙ o ∙ le-ltb X.size 0 (omega arith) in
      le_sizes f (root f x) (root f y) R.size S.size R.is S.is (root_rises f x y z (sizes_le f x y X.size Y.size X.is Y.is h))

module _ (f : Format) (x y : Float) (X : Clear f x) (Y : Clear f y) (R : Clear f (root f x)) (S : Clear f (root f y)) where
  numbers : max_f (root f x) (root f y) ≡ root f (max_f x y)
  unfolding max_f
  numbers =
      let l : lt x y ≡ ltb X.size Y.size = sized_lt f x y false false X.size Y.size X.is Y.is in
      let k : lt (root f x) (root f y) ≡ ltb R.size S.size = sized_lt f (root f x) (root f y) false false R.size S.size R.is S.is in
      rw (sized_number f x false X.size X.is, sized_number f (root f x) false R.size R.is, l, k)
      (go (ltb X.size Y.size) (ltb R.size S.size) refl refl)
    where
      go : (u v : Bool) → ltb X.size Y.size ≡ u → ltb R.size S.size ≡ v → cond v (root f y) (root f x) ≡ root f (cond u y x)
      go true true p q = refl
      go true false p q =
          let a = ltb-true X.size Y.size p in
          let b = ltb-false R.size S.size q in
          let c : R.size ≤ S.size = rises f x y X Y R S (omega arith) in
          let e : S.size ≡ R.size = omega arith in
          sized_same f (root f x) (root f y) false R.size R.fitting S.fitting R.is (rw e at S.is)
      go false true p q =
          let a = ltb-false X.size Y.size p in
          let b = ltb-true R.size S.size q in
          let c : S.size ≤ R.size = rises f y x Y X S R (omega arith) in
          absurd (omega arith)
      go false false p q = refl

-- ---- and a NaN, which counts for nothing
past_nan : (x : Float) → lt x nan ≡ false
unfolding lt
past_nan nan = refl
past_nan (inf s) = refl
past_nan (fin s m e) = refl

number_or_nan : (x : Float) → (x ≡ nan) ⊎ T (not (is_nan x))
unfolding is_nan
number_or_nan nan = inl refl
number_or_nan (inf s) = inr tt
number_or_nan (fin s m e) = inr tt

pub root_max : (f : Format) (x y : Float) → Plain f x → Plain f y → max_f (root f x) (root f y) ≡ root f (max_f x y)
unfolding max_f is_nan root
root_max f x y P Q = go (number_or_nan x) (number_or_nan y)
  where
    go : (x ≡ nan) ⊎ T (not (is_nan x)) → (y ≡ nan) ⊎ T (not (is_nan y)) → max_f (root f x) (root f y) ≡ root f (max_f x y)
    go (inl e) n = rw e
    go (inr m) (inl e) =
        let X = clear f x P m in
        let R = clear_root f x P m in
        rw (e, sized_number f x false X.size X.is, sized_number f (root f x) false R.size R.is, past_nan x, past_nan (root f x))
    go (inr m) (inr n) = numbers f x y (clear f x P m) (clear f y Q n) (clear_root f x P m) (clear_root f y Q n)

-- ---- what has a clear sign
pub plain_max : (f : Format) (x y : Float) → Plain f x → Plain f y → Plain f (max_f x y)
unfolding max_f
plain_max f x y P Q = either (is_nan x) y (cond (lt x y) y x) Q (either (lt x y) y x Q P)
  where
    either : (b : Bool) (x y : Float) → Plain f x → Plain f y → Plain f (cond b x y)
    either true x y P Q = P
    either false x y P Q = Q

rounded_plain : (f : Format) (n d : ℕ) → 0 < d → negative (round f false n d) ≡ false
rounded_plain f n d p =
    let r = round_rounded f false n d p in
    sized_sign f (round f false n d) false (min r.units (overflow f))
    (rounded_sized f (FractionUnder (n * 2 ^ low f) d) (FractionOver (n * 2 ^ low f) d) false (round f false n d) r)

square_plain : (f : Format) (x : Float) → negative (mul f x x) ≡ false
unfolding mul negative
square_plain f nan = refl
square_plain f (inf true) = refl
square_plain f (inf false) = refl
square_plain f (fin true m e) = rounded_plain f (m * up e * (m * up e)) (down e * down e) (mul-pos (down_pos e) (down_pos e))
square_plain f (fin false m e) = rounded_plain f (m * up e * (m * up e)) (down e * down e) (mul-pos (down_pos e) (down_pos e))

sum_plain : (f : Format) (x y : Float) → negative x ≡ false → negative y ≡ false → negative (add f x y) ≡ false
unfolding add sum negative
sum_plain f nan y p q = refl
sum_plain f (inf s) nan p q = refl
sum_plain f (inf true) (inf t) p q = absurd (true≢false p)
sum_plain f (inf false) (inf true) p q = absurd (true≢false q)
sum_plain f (inf false) (inf false) p q = refl
sum_plain f (inf s) (fin t n d) p q = p
sum_plain f (fin s m e) nan p q = refl
sum_plain f (fin s m e) (inf t) p q = q
sum_plain f (fin true m e) (fin t n d) p q = absurd (true≢false p)
sum_plain f (fin false m e) (fin true n d) p q = absurd (true≢false q)
sum_plain f (fin false m e) (fin false n d) p q = rounded_plain f (m * up e * down d + n * up d * down e) (down e * down d) (mul-pos (down_pos e) (down_pos d))

pub plain_squares : (f : Format) (x y : Float) → Plain f (add f (mul f x x) (mul f y y))
plain_squares f x y = (add-fits f (mul f x x) (mul f y y), sum_plain f (mul f x x) (mul f y y) (square_plain f x) (square_plain f y))

pub plain_zero : (f : Format) → Plain f (of_bits f 0)
unfolding negative fits
plain_zero f = rw zero_is (tt, refl)

pub zero_root : (f : Format) → root f (of_bits f 0) ≡ of_bits f 0
unfolding root
zero_root f = ap (root f) (zero_is f) ∙ sym (zero_is f)
