-- By proofs/Newton.antt.
use Rattle.std.proofs.Common.{◌≡◌, ℕ, ◌+◌, ◌-◌, ◌*◌, ◌/◌, ◌^◌, ◌<◌, ◌≤◌, ◌⊎◌, ap, mul-le-mul, arith}
use Rattle.rounding.specs.Root.{whole_root}
use Rattle.rounding.proofs.Place.{root_is, root_lt, square_suc}
use Rattle.rounding.proofs.Newton.{Settled, settle}
use Rattle.rounding.proofs.whole_root.settled.Goals as goal

abbrev Near : ℕ → ℕ → Type 0
Near m near = (whole_root m ≤ near) × (near ≤ whole_root m + 1)

-- s is the root or one more, and below 2 ^ 32
near : (n m : ℕ) → m < 2 ^ 64 → Near m n → (whole_root m ≤ n - n / 2 ^ 32) × (n - n / 2 ^ 32 ≤ whole_root m + 1) × (n - n / 2 ^ 32 ≤ 2 ^ 32 - 1)
near n m f p = let r : whole_root m < 2 ^ 32 = root_lt m (2 ^ 32) f in (omega arith, omega arith, omega arith)

square_small : (n m : ℕ) → m < 2 ^ 64 → Near m n → (n - n / 2 ^ 32) * (n - n / 2 ^ 32) ≤ (2 ^ 32 - 1) * (2 ^ 32 - 1)
square_small n m f p = let b = (near n m f p).2 in mul-le-mul b b

known : (n m t : ℕ) → m < 2 ^ 64 → Near m n
    → ((t ≡ 1) × (m < (n - n / 2 ^ 32) * (n - n / 2 ^ 32))) ⊎ ((t ≡ 0) × ((n - n / 2 ^ 32) * (n - n / 2 ^ 32) ≤ m)) → Settled m (n - n / 2 ^ 32) t
known n m t f p b = let q = near n m f p in settle m (n - n / 2 ^ 32) t q.0 q.1 b

pub overflow_mul-square : goal.overflow_mul-square
overflow_mul-square c = omega (arith, square_small c.args.near c.args.m c.ranges.m.fits c.requires)

pub overflow_add-result : goal.overflow_add-result
overflow_add-result c =
    omega (arith, square_small c.args.near c.args.m c.ranges.m.fits c.requires, (known c.args.near c.args.m c.below-t.result c.ranges.m.fits c.requires c.below-t.ensures).few)

pub overflow_mul-result : goal.overflow_mul-result
overflow_mul-result c = omega (arith, (near c.args.near c.args.m c.ranges.m.fits c.requires).2)

pub overflow_mul-result-2 : goal.overflow_mul-result-2
overflow_mul-result-2 c =
    let k = known c.args.near c.args.m c.below-t.result c.ranges.m.fits c.requires c.below-t.ensures in
    omega (arith, square_small c.args.near c.args.m c.ranges.m.fits c.requires, k.few, k.room)

pub overflow_sub-result-3 : goal.overflow_sub-result-3
overflow_sub-result-3 c =
    let k = known c.args.near c.args.m c.below-t.result c.ranges.m.fits c.requires c.below-t.ensures in
    omega (arith, k.square, (root_is c.args.m).0)

pub returns : goal.returns
returns c =
    let m = c.args.m in
    let r = whole_root m in
    let s = c.args.near - c.args.near / 2 ^ 32 in
    let t = c.below-t.result in
    let k = known c.args.near m t c.ranges.m.fits c.requires c.below-t.ensures in
    let q : (s - t) * (s - t) ≡ r * r = ap (λ (x : ℕ). x * x) k.root in
    omega (arith, k.square, (root_is m).0)

pub invariant_of-result : goal.invariant_of-result
invariant_of-result c =
    let m = c.args.m in
    let k = known c.args.near m c.below-t.result c.ranges.m.fits c.requires c.below-t.ensures in
    omega (arith, k.square, k.root, (root_is m).1, square_suc (whole_root m))
