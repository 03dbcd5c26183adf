-- The methods of Rust's f64 as the run uses them, of every float, a NaN too. Definitions only.
-- `fin s m e` is m * 2 ^ e, negative where s is true, and `nan` stands for every NaN. Assumes nothing.
use Rattle.std.specs.Prelude.{ℕ, ◌+◌, ◌-◌, Bool, true, false, cond, not, ◌||◌, is_nan, nat_le, nat_lt, to_bits, Float}
use Prim.Native.Nat
use Prim.Native.Nat.{compare}
use Rattle.std.specs.Float.{nan, inf, fin, binary64}
use Rattle.std.specs.Float.Ieee.{lt, eq}
use Rattle.std.specs.declared.cmp.Ordering.{Ordering}
use Rattle.std.specs.declared.cmp.Ordering.TheVariants.{Less, Equal, Greater}

-- f64::is_sign_negative, of every number and zero; the one NaN counts as having no sign.
unfoldable pub negative : Float → Bool
negative nan = false
negative (inf s) = s
negative (fin s m e) = s

-- f64::abs
unfoldable pub abs_f : Float → Float
abs_f nan = nan
abs_f (inf s) = inf false
abs_f (fin s m e) = fin false m e

-- f64::is_finite
unfoldable pub is_finite : Float → Bool
is_finite nan = false
is_finite (inf s) = false
is_finite (fin s m e) = true

-- a.max(b): the other where one is a NaN, and a where they are equal.
unfoldable pub max_f : Float → Float → Float
max_f a b = cond (is_nan a) b (cond (lt a b) b a)

-- a.min(b), the same.
unfoldable pub min_f : Float → Float → Float
min_f a b = cond (is_nan a) b (cond (lt b a) b a)

-- x.clamp(lo, hi): a NaN stays. Rust panics where lo is not at most hi; here lo is looked at first.
unfoldable pub clamp_f : Float → Float → Float → Float
clamp_f x lo hi = cond (lt x lo) lo (cond (lt hi x) hi x)

-- f64::total_cmp compares the bit patterns, a set sign turning the order of the other bits round. As whole numbers: the pattern, with the
-- sign's bit turned where it is clear, and every bit turned where it is set. The one NaN comes after every number.
unfoldable pub total_key : Float → ℕ
total_key x =
    cond (is_nan x) 0xFFFFFFFFFFFFFFFF
    (cond (nat_lt (to_bits binary64 x) 0x8000000000000000)
    (to_bits binary64 x + 0x8000000000000000)
    (0xFFFFFFFFFFFFFFFF - to_bits binary64 x))

-- Rust's Ordering, from how two whole numbers compare.
abbrev pub order_of : Nat.Ordering → Ordering
order_of Nat.Ordering.lt = Less
order_of Nat.Ordering.eq = Equal
order_of Nat.Ordering.gt = Greater

-- x is not after y in the order of total_cmp.
unfoldable pub total_le : Float → Float → Bool
unfolding total_key
total_le x y = nat_le (total_key x) (total_key y)

-- f64::total_cmp itself.
unfoldable pub total_cmp : Float → Float → Ordering
unfolding total_key
total_cmp x y = order_of (compare (total_key x) (total_key y))

-- The same order without bit patterns: by value, -0 before +0, and the NaN after all.
unfoldable pub value_le : Float → Float → Bool
value_le x y =
    cond (is_nan y) true
    (cond (is_nan x) false (cond (lt x y) true (cond (eq x y) (negative x || not (negative y)) false)))
