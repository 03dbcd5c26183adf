-- IEEE 754-2019 as one table: what the square root of each kind of float is (5.4.1, 6.1 to 6.3, 7.2), and what each kind is when it is narrowed to f32
-- (5.4.2). No algorithm stands here, only what a result r has to be. `proofs/Theorems.antt` proves each statement under the same name in small letters.
-- A float is a NaN, an infinity, a zero, or a number below or above zero (lib.Ieee): `fin s m e` is m * 2 ^ e, negative where s is true. A zero is
-- m = 0. A format writes it with e = 0 and with no other e, but the rows for a zero hold of every e. Assumes nothing.
use Rattle.std.specs.Prelude.{◌≡◌, zero, suc, true, false, pos, Float}
use Rattle.std.specs.Float.{nan, inf, fin, Format, binary32}
use Rattle.rounding.specs.Root.{root}
use Rattle.rounding.specs.Narrow.{narrowed}
use Rattle.rounding.specs.Rounded.{RoundedFloat}
use Rattle.rounding.specs.Ieee754.{RootedUnder, RootedOver, ExactUnder, ExactOver}

-- r is the square root of x in the format f.
abbrev pub IsRoot : Format → Float → Float → Type 0
-- a NaN stays one
IsRoot f nan r = r ≡ nan
-- plus infinity is its own root, and minus infinity has none
IsRoot f (inf false) r = r ≡ inf false
IsRoot f (inf true) r = r ≡ nan
-- a zero of either sign is its own root
IsRoot f (fin s zero e) r = r ≡ fin s zero e
-- a number below zero has none
IsRoot f (fin true (suc m) e) r = r ≡ nan
-- of a number above zero: its root, rounded to the nearest float, ties to even
IsRoot f (fin false (suc m) e) r = RoundedFloat f (RootedUnder f (suc m) e) (RootedOver f (suc m) e) false r

-- `root`, which the contract of `sqrt` cites, is it, for every kind of float and every format.
abbrev pub RootIs : Type 0
RootIs = (f : Format) (x : Float) → IsRoot f x (root f x)

-- And nothing else is.
abbrev pub RootOnly : Type 0
RootOnly = (f : Format) (x r : Float) → IsRoot f x r → r ≡ root f x

-- r is x narrowed to f32.
abbrev pub IsNarrowed : Float → Float → Type 0
-- a NaN stays one
IsNarrowed nan r = r ≡ nan
-- an infinity of either sign stays
IsNarrowed (inf s) r = r ≡ inf s
-- a zero of either sign stays, written as a format writes it
IsNarrowed (fin s zero e) r = r ≡ fin s zero (pos 0)
-- a number below or above zero is rounded to the nearest f32, ties to even, and keeps its sign, also where that is a zero or an infinity
IsNarrowed (fin s (suc m) e) r =
    RoundedFloat binary32 (ExactUnder binary32 (suc m) e) (ExactOver binary32 (suc m) e) s r

-- `narrowed`, which the contract of `narrow` cites, is it, for every kind of float.
abbrev pub NarrowIs : Type 0
NarrowIs = (x : Float) → IsNarrowed x (narrowed x)

-- And nothing else is.
abbrev pub NarrowOnly : Type 0
NarrowOnly = (x r : Float) → IsNarrowed x r → r ≡ narrowed x
