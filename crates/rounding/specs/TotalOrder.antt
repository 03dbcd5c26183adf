-- The order of total_cmp is a total order of the floats of binary64, and it is the order by value with -0 before +0 and the NaN last. These are the
-- statements; `proofs/TotalOrder.antt` proves each under the same name in small letters. `fits binary64 x` says that binary64 holds x, as it does
-- every `f64`. Assumes nothing.
use Rattle.std.specs.Prelude.{◌≡◌, true, T, ◌⊎◌, Float}
use Rattle.std.specs.Float.{binary64}
use Rattle.std.specs.Float.Ieee.{fits}
use Rattle.rounding.specs.Methods.{total_le, value_le}

-- Each float is not after itself,
abbrev pub Reflexive : Type 0
Reflexive = (x : Float) → total_le x x ≡ true

-- the order goes on from one to the next,
abbrev pub Transitive : Type 0
Transitive = (x y z : Float) → total_le x y ≡ true → total_le y z ≡ true → total_le x z ≡ true

-- and of any two floats one is not after the other.
abbrev pub Total : Type 0
Total = (x y : Float) → (total_le x y ≡ true) ⊎ (total_le y x ≡ true)

-- Two floats of which neither is before the other are the same, the sign of a zero included.
abbrev pub Antisymmetric : Type 0
Antisymmetric = (x y : Float) → T (fits binary64 x) → T (fits binary64 y) →
    total_le x y ≡ true → total_le y x ≡ true → x ≡ y

-- The order of the patterns is that of the values.
abbrev pub ByValue : Type 0
ByValue = (x y : Float) → T (fits binary64 x) → T (fits binary64 y) → total_le x y ≡ value_le x y
