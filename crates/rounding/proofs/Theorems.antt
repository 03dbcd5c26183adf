-- The theorems on rounding: the root at both formats and the narrowing are IEEE 754's, to nearest with ties to even, and that determines the float.
-- specs/Ieee754.antt and specs/Table.antt have the statements. Assumes nothing.
use Rattle.std.proofs.Common.{◌≡◌, ℕ, zero, suc, ◌*◌, ◌^◌, ◌≤◌, Bool, true, false, T, ℤ, pos, sym, refl, ◌∙◌, le_trans, arith, pow_pos}
use lib.Ieee.{nan, inf, fin, Format, binary32, low, up, down, fits, round}
use lib.Ieee.Fits.{down_pos, round-fits}
use Rattle.rounding.specs.Root.{root}
use Rattle.rounding.specs.Narrow.{narrowed}
use Rattle.rounding.specs.Ieee754.{RootRounded, RootRoundedFloat, RootMonotone, NarrowRounded, NarrowRoundedFloat, RoundedUnique, RoundedFloatUnique, RootedUnder, RootedOver, ExactUnder, ExactOver}
use Rattle.rounding.specs.Table.{RootIs, RootOnly, NarrowIs, NarrowOnly}
use Rattle.rounding.proofs.Outer.{root_fits}
use Rattle.rounding.proofs.Rounding.{root_of_rounded, squares_rise, squares_back, round_rounded, multiples_rise, multiples_back}
use Rattle.rounding.proofs.Monotone.{root_rises}
use Rattle.rounding.proofs.Unique.{one_rounded}
use Rattle.rounding.proofs.Floats.{known_float, one_float}
use Rattle.rounding.proofs.Values.{same_value, rounded_exact}

none : (d A : ℕ) → 0 * d ≤ A
none d A = omega arith

pub root_rounded : RootRounded
unfolding root
root_rounded f m e = root_of_rounded f (suc m * up e) (down e) (down_pos e)

pub narrow_rounded : NarrowRounded
unfolding narrowed
narrow_rounded s m e = round_rounded binary32 s (m * up e) (down e) (down_pos e)

pub root_rounded_float : RootRoundedFloat
root_rounded_float f m e =
    known_float (4 * (suc m * up e * 4 ^ low f)) (λ t. t * t * down e) (none (down e) (4 * (suc m * up e * 4 ^ low f))) (squares_rise (down e)) (squares_back (down e) (down_pos e)) f false (root f (fin false (suc m) e)) (root_fits f m e).0 (root_rounded f m e)

pub root_monotone : RootMonotone
root_monotone f x y n h = root_rises f x y n h

pub narrow_rounded_float : NarrowRoundedFloat
unfolding narrowed
narrow_rounded_float s m e =
    known_float (2 * (m * up e * 2 ^ 149)) (λ t. t * down e) (none (down e) (2 * (m * up e * 2 ^ 149))) (multiples_rise (down e)) (multiples_back (down e) (down_pos e)) binary32 s (narrowed (fin s m e)) (round-fits binary32 s (m * up e) (down e)) (narrow_rounded s m e)

pub rounded_unique : RoundedUnique
rounded_unique f Under Over apart s r v R S x y = one_rounded f Under Over apart s r v R S x y

pub rounded_float_unique : RoundedFloatUnique
rounded_float_unique f Under Over apart s r v x y = one_float f Under Over apart s r v x y

-- ---- the table

pub root_is : RootIs
unfolding root
root_is f nan = refl
root_is f (inf false) = refl
root_is f (inf true) = refl
root_is f (fin false zero e) = refl
root_is f (fin true zero e) = refl
root_is f (fin true (suc m) e) = refl
root_is f (fin false (suc m) e) = root_rounded_float f m e

-- what is at most the root's middle and what is at least it are apart; so for the number itself
roots_apart : (f : Format) (m : ℕ) (e : ℤ) (s t : ℕ) → RootedUnder f m e t → RootedOver f m e s → t ≤ s
roots_apart f m e s t u o = squares_back (down e) (down_pos e) t s (le_trans u o)

exact_apart : (f : Format) (m : ℕ) (e : ℤ) (s t : ℕ) → ExactUnder f m e t → ExactOver f m e s → t ≤ s
exact_apart f m e s t u o = multiples_back (down e) (down_pos e) t s (le_trans u o)

pub root_only : RootOnly
unfolding root
root_only f nan r h = h
root_only f (inf false) r h = h
root_only f (inf true) r h = h
root_only f (fin false zero e) r h = h
root_only f (fin true zero e) r h = h
root_only f (fin true (suc m) e) r h = h
root_only f (fin false (suc m) e) r h =
    rounded_float_unique f (RootedUnder f (suc m) e) (RootedOver f (suc m) e) (roots_apart f (suc m) e) false r (root f (fin false (suc m) e)) h (root_rounded_float f m e)

-- 0 * 2 ^ e is rounded to a zero
narrow_zero : (s : Bool) (e : ℤ) → narrowed (fin s zero e) ≡ fin s zero (pos 0)
unfolding narrowed
narrow_zero s e =
    same_value binary32 s 0 (round binary32 s (0 * up e) (down e)) (fin s 0 (pos 0)) (round-fits binary32 s (0 * up e) (down e)) zero_fits
    (rounded_exact binary32 s (0 * up e) (down e) 0 (down_pos e) (record { q = 0; k = 0; few = pow_pos 24; is = refl }) (pow_pos 277) (nothing (up e) (2 ^ 149) (down e)))
    (refl, nothing 1 (2 ^ 149) 1)
  where
    nothing : (a c d : ℕ) → 0 * a * c ≡ 0 * d
    nothing a c d = omega arith

    zero_fits : T (fits binary32 (fin s 0 (pos 0)))
    zero_fits = unfold fits in tt

pub narrow_is : NarrowIs
unfolding narrowed
narrow_is nan = refl
narrow_is (inf s) = refl
narrow_is (fin s zero e) = narrow_zero s e
narrow_is (fin s (suc m) e) = narrow_rounded_float s (suc m) e

pub narrow_only : NarrowOnly
unfolding narrowed
narrow_only nan r h = h
narrow_only (inf s) r h = h
narrow_only (fin s zero e) r h = h ∙ sym (narrow_zero s e)
narrow_only (fin s (suc m) e) r h =
    rounded_float_unique binary32 (ExactUnder binary32 (suc m) e) (ExactOver binary32 (suc m) e) (exact_apart binary32 (suc m) e) s r (narrowed (fin s (suc m) e)) h (narrow_rounded_float s (suc m) e)
