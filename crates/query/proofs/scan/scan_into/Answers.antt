-- `scan::scan_into` meets its contract. The invariant: the directions listed so far stand at the front, and with those to come they are all. Assumes nothing.
use mathlib.Core.Path.{◌≡◌, refl, ap}
use mathlib.Core.Bool.{true, false, cond}
use mathlib.Core.List.{List, [], ◌∷◌}
use Prim.Native.Nat.{ℕ, zero, suc, ◌+◌, ◌*◌, ◌-◌, ◌≤◌, ◌<◌}
use native.Mathlib.Omega.{arith}
use lib.Ieee.{Float, le}
use lib.ListN.{length, set}
use Rattle.fit.specs.Rows.{direction_at}
use Rattle.solve.specs.Vector.{at}
use Rattle.query.specs.Query.{dot32, scanned}
use Rattle.query.specs.Listing.{Fronted}
use Rattle.query.proofs.Listed.{Writing, onward, front_push, front_many, front_whole, scan_next, scan_not, scan_none}
use Rattle.query.proofs.scan.scan_into.Goals as goal
use Rattle.query.proofs.scan.scan_into.Goals.{then-least-d, else-least-d}

-- what the loop keeps: with j directions looked at, k of them are listed in m, which was o
abbrev Stands : List Float → Float → List ℕ → ℕ → Float → Float → Float → List ℕ → ℕ → ℕ → Type 0
Stands ds least o n x y z m k j =
    (k ≤ j) × (n ≤ length o) × (3 * n ≤ length ds)
    × Writing 0 k m o (scanned ds (x ∷ y ∷ z ∷ []) least j (n - j)) (scanned ds (x ∷ y ∷ z ∷ []) least 0 n)

module _ (ds : List Float) (least : Float) (o : List ℕ) (n : ℕ) (x y z : Float) (m : List ℕ) (k j : ℕ) (inv : Stands ds least o n x y z m k j) where
  took : j < n → le least (dot32 (x ∷ y ∷ z ∷ []) (direction_at ds j)) ≡ true → Stands ds least o n x y z (set m k j) (k + 1) (j + 1)
  took h b =
      let w : Writing 0 k m o (j ∷ scanned ds (x ∷ y ∷ z ∷ []) least (j + 1) (n - (j + 1))) (scanned ds (x ∷ y ∷ z ∷ []) least 0 n) =
      onward (scan_next ds (x ∷ y ∷ z ∷ []) least n j h b) inv.3 in
      (omega arith, inv.1, inv.2, front_push k m o j w (omega (arith, w.long)))

  passed : j < n → le least (dot32 (x ∷ y ∷ z ∷ []) (direction_at ds j)) ≡ false → Stands ds least o n x y z m k (j + 1)
  passed h b = (omega arith, inv.1, inv.2, onward (scan_not ds (x ∷ y ∷ z ∷ []) least n j h b) inv.3)

  ended : j ≤ n → n ≤ j → Fronted (scanned ds (x ∷ y ∷ z ∷ []) least 0 n) o m k
  ended low h =
      let w : Writing 0 k m o [] (scanned ds (x ∷ y ∷ z ∷ []) least 0 n) = onward (scan_none ds (x ∷ y ∷ z ∷ []) least n j h) inv.3 in
      let r : k ≤ length m = omega (arith, w.long) in
      record {
        count = front_many k m o w r;
        list = front_whole k m o w r;
      }

-- the definition reads the axis component by component
by_parts : (ds axis : List Float) (least : Float) (j n : ℕ) → scanned ds (at axis 0 ∷ at axis 1 ∷ at axis 2 ∷ []) least j n ≡ scanned ds axis least j n
unfolding scanned dot32
by_parts ds axis least j zero = refl
by_parts ds axis least j (suc n) = ap (λ (more : List ℕ). cond (le least (dot32 axis (direction_at ds j))) (j ∷ more) more) (by_parts ds axis least (suc j) n)

pub loop-j-preserved : goal.loop-j-preserved
unfolding dot32 direction_at
loop-j-preserved c =
    let a = c.args in
    let n = c.min-n.result in
    let l = c.loop-j in
    let h = c.loop-j-test.true in
    elim c.if-least-d.branch [
      | then-least-d w ↦ rw (w.out-is, w.k-is) (took a.directions.now a.least a.out.now n (at a.axis 0) (at a.axis 1) (at a.axis 2) l.out l.k l.j l.invariant h w.if-least-d.true)
      | else-least-d w ↦ rw (w.out-is, w.k-is) (passed a.directions.now a.least a.out.now n (at a.axis 0) (at a.axis 1) (at a.axis 2) l.out l.k l.j l.invariant h w.if-least-d.false)
    ]
