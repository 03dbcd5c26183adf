-- `farthest_of` meets its contract. The invariant: the root of the greatest square so far, with the spots that are left, gives the greatest distance of all.
-- Assumes nothing.
use Prim.Native.Nat.{ℕ, ◌-◌}
use mathlib.Core.Path.{◌≡◌, ◌∙◌, ap}
use native.Mathlib.Omega.{arith}
use lib.Ieee.{binary64}
use Rattle.rounding.specs.Arith.{zero64}
use Rattle.rounding.specs.Root.{root}
use Rattle.rounding.proofs.RootMax.{plain_zero, zero_root}
use Rattle.entry.specs.Fixed.{farthest}
use Rattle.entry.proofs.StartPoses.{far_next, far_done}
use borrow.Author.Rules.{rules}
use Rattle.entry.proofs.head.farthest_of.Goals as goal

pub loop-i-init : goal.loop-i-init
loop-i-init c =
    let n = c.args.n in
    let s = c.args.spots.now in
    let e : n - 0 ≡ n = omega arith in
    (search rules, plain_zero binary64, ap (λ (k : ℕ). farthest s 0 k (root binary64 zero64)) e ∙ ap (farthest s 0 n) (zero_root binary64))

pub loop-i-preserved : goal.loop-i-preserved
loop-i-preserved c =
    let s = c.args.spots.now in
    let n = c.args.n in
    let l = c.loop-i in
    let next = far_next s n l.i l.square l.invariant.1 l.invariant.2 c.loop-i-test.true c.spot_at-s.ensures c.max-square.ensures in
    (search rules, next.0, next.1)

pub returns : goal.returns
returns c =
    let s = c.args.spots.now in
    let n = c.args.n in
    let l = c.loop-i in
    far_done s n l.i l.square l.invariant.1 l.invariant.2 c.loop-i-test.false c.sqrt.ensures
