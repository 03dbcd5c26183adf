-- 01, "Square root: IEEE 754, to nearest, ties to even, f64 and f32". Definitions only.
-- A float is m * 2 ^ e (`fin s m e` of lib.Ieee). A format's unit is its smallest value, 2 ^ -low. Every finite value of the format is a whole
-- number of units with at most `prec` leading digits. So a number is rounded in two steps: keep the leading digits of its whole part in units,
-- then go up by one in the last digit kept where the number lies past the middle, or on it with that digit odd. Assumes nothing.
use Rattle.std.specs.Prelude.{ℕ, zero, suc, ◌+◌, ◌-◌, ◌*◌, ◌/◌, ◌^◌, Bool, false, cond, nat_le, Float}
use Prim.Native.Nat.{compare, Ordering}
use Rattle.std.specs.Float.{nan, inf, fin, Format}
use Rattle.std.specs.Float.Ieee.{prec, low, up, down, size, nearest, units}

-- The largest whole number whose square is at most n, for an n below 4 ^ d: two binary digits of n give one of the root.
unfoldable pub root_digits : ℕ → ℕ → ℕ
root_digits zero n = 0
root_digits (suc d) n = let r = 2 * root_digits d (n / 4) in cond (nat_le (suc r * suc r) n) (suc r) r

-- The largest whole number whose square is at most n.
unfoldable pub whole_root : ℕ → ℕ
unfolding root_digits
whole_root n = root_digits (size n) n

-- A number y of units, rounded to the format f with the sign s. w is the whole part of y, and `o t` says how y compares with t / 2:
-- the middle between q and q + 1, each times 2 ^ k, is (2 q + 1) * 2 ^ k / 2. `nearest` and `units` are lib.Ieee's.
unfoldable pub place : Format → Bool → ℕ → (ℕ → Ordering) → Float
unfolding size units
place f s w o =
    let k = size w - prec f in
    let q = w / 2 ^ k in
    units f s (nearest q (o ((2 * q + 1) * 2 ^ k))) k

-- The root of num / den. In units of f it is the root of n / den, and it compares with t / 2 as 4 n compares with t * t * den.
unfoldable pub root_of : Format → ℕ → ℕ → Float
unfolding place whole_root
root_of f num den = let n = num * 4 ^ low f in place f false (whole_root (n / den)) (λ t. compare (4 * n) (t * t * den))

-- The square root of a float in the format f. A zero keeps its sign; below zero there is no root.
unfoldable pub root : Format → Float → Float
unfolding root_of
root f nan = nan
root f (inf s) = cond s nan (inf false)
root f (fin s zero e) = fin s zero e
root f (fin s (suc m) e) = cond s nan (root_of f (suc m * up e) (down e))
