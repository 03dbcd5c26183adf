-- `x != x`, the code's test for a NaN, is that test. Assumes nothing.
use Rattle.std.proofs.Common.{◌≡◌, ◌+◌, ◌*◌, ◌/◌, Bool, true, false, not, T, sym, refl, ◌∙◌, subst, eq-eqb}
use lib.Ieee.{Float, Format, nan, inf, fin, ne, eq, is_nan, ones, hid, to_bits}
use lib.Ieee.Compare.{differs_from_itself}

pub differs : (x : Float) → ne x x ≡ is_nan x
unfolding ne eq is_nan
differs nan = refl
differs (inf true) = refl
differs (inf false) = refl
differs (fin true m e) = rw (eq-eqb _ _ refl)
differs (fin false m e) = rw (eq-eqb _ _ refl)

-- the test passed: x is the NaN
pub at_nan : (x : Float) → ne x x ≡ true → x ≡ nan
at_nan x h = differs_from_itself x (subst T (sym h) tt)

-- it failed: x is a number or an infinity
pub no_nan : (x : Float) → ne x x ≡ false → T (not (is_nan x))
no_nan x h = subst (λ (b : Bool). T (not b)) (sym (sym (differs x) ∙ h)) tt

-- the test by name
pub is_nan_lem : (x : Float) → is_nan x ≡ true → nan ≡ x
unfolding is_nan
is_nan_lem nan h = refl
is_nan_lem (inf s) h = cc
is_nan_lem (fin s m e) h = cc

-- the one NaN is written as the pattern with its first digit set
pub nan_bits_lem : (f : Format) (x : Float) → x ≡ nan → ones f * hid f + hid f / 2 ≡ to_bits f x
unfolding to_bits
nan_bits_lem f x h = rw h
