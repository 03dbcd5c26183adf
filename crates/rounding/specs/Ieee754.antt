-- The theorems on rounding, as statements; `proofs/Theorems.antt` proves each under the same name in small letters. Definitions only.
-- 01: "Square root: IEEE 754, to nearest, ties to even, f64 and f32. Narrowing f64 to f32 the same. Both are proved over whole numbers." What holds of
-- every kind of float, by rows, stands in Table.antt. Assumes nothing.
use Rattle.std.specs.Prelude.{◌≡◌, ℕ, suc, ◌*◌, ◌^◌, ◌≤◌, Bool, true, false, T, ℤ, from_bits, Float}
use Rattle.std.specs.Float.{fin, Format, binary32}
use Rattle.std.specs.Float.Ieee.{low, up, down, fits, lt, le}
use Rattle.rounding.specs.Root.{root}
use Rattle.rounding.specs.Narrow.{narrowed}
use Rattle.rounding.specs.Rounded.{Rounded, RoundedFloat, FractionUnder, FractionOver, RootUnder, RootOver}

-- The root of m * 2 ^ e, in units of f, is at least t / 2,
abbrev pub RootedUnder : Format → ℕ → ℤ → ℕ → Type 0
RootedUnder f m e = RootUnder (m * up e * 4 ^ low f) (down e)

-- and it is at most t / 2 (`Under` and `Over` of Rounded.antt).
abbrev pub RootedOver : Format → ℕ → ℤ → ℕ → Type 0
RootedOver f m e = RootOver (m * up e * 4 ^ low f) (down e)

-- m * 2 ^ e itself, in units of f, is at least t / 2,
abbrev pub ExactUnder : Format → ℕ → ℤ → ℕ → Type 0
ExactUnder f m e = FractionUnder (m * up e * 2 ^ low f) (down e)

-- and it is at most t / 2.
abbrev pub ExactOver : Format → ℕ → ℤ → ℕ → Type 0
ExactOver f m e = FractionOver (m * up e * 2 ^ low f) (down e)

-- The root of a finite number above zero is rounded to nearest, ties to even, in either format: over whole numbers of units,
abbrev pub RootRounded : Type 0
RootRounded = (f : Format) (m : ℕ) (e : ℤ) →
    Rounded f (RootedUnder f (suc m) e) (RootedOver f (suc m) e) false (root f (fin false (suc m) e))

-- and over floats.
abbrev pub RootRoundedFloat : Type 0
RootRoundedFloat = (f : Format) (m : ℕ) (e : ℤ) →
    RoundedFloat f (RootedUnder f (suc m) e) (RootedOver f (suc m) e) false (root f (fin false (suc m) e))

-- A larger number has no smaller root: the root keeps the order of the numbers that are not below zero.
abbrev pub RootMonotone : Type 0
RootMonotone = (f : Format) (x y : Float) → lt x (from_bits f 0) ≡ false → le x y ≡ true → le (root f x) (root f y) ≡ true

-- Narrowing rounds any finite number to nearest, ties to even, in f32: over whole numbers of units,
abbrev pub NarrowRounded : Type 0
NarrowRounded = (s : Bool) (m : ℕ) (e : ℤ) →
    Rounded binary32 (ExactUnder binary32 m e) (ExactOver binary32 m e) s (narrowed (fin s m e))

-- and over floats.
abbrev pub NarrowRoundedFloat : Type 0
NarrowRoundedFloat = (s : Bool) (m : ℕ) (e : ℤ) →
    RoundedFloat binary32 (ExactUnder binary32 m e) (ExactOver binary32 m e) s (narrowed (fin s m e))

-- `Rounded` determines the float, of any y whatever: two floats that fit and are both y rounded are the same.
abbrev pub RoundedUnique : Type 1
RoundedUnique = (f : Format) (Under Over : ℕ → Type 0) → ((s t : ℕ) → Under t → Over s → t ≤ s) →
    (s : Bool) (r v : Float) → T (fits f r) → T (fits f v) → Rounded f Under Over s r → Rounded f Under Over s v → r ≡ v

-- So does `RoundedFloat`, which says of itself that the float fits.
abbrev pub RoundedFloatUnique : Type 1
RoundedFloatUnique = (f : Format) (Under Over : ℕ → Type 0) → ((s t : ℕ) → Under t → Over s → t ≤ s) →
    (s : Bool) (r v : Float) → RoundedFloat f Under Over s r → RoundedFloat f Under Over s v → r ≡ v
