-- The checks stage by stage, and what passing them says. Assumes nothing.
use mathlib.Core.Path.{◌≡◌, ◌∙◌, sym, refl}
use mathlib.Core.Bool.{Bool, true, false, cond, ◌&&◌}
use Prim.Native.Nat.{ℕ, zero, suc, ◌/◌, ◌≤◌, ◌<◌}
use native.Mathlib.Omega.{arith}
use borrow.Author.Tests.{leb-true}
use lib.Dec.{leb}
use Rattle.panel.specs.Spots.{spot_numbers}
use Rattle.entry.specs.Check.{divides, few, counts_refused, or_else}

-- ---- one stage after another

-- a stage that refuses
pub stops : (a b : ℕ) {x : ℕ} → x ≡ a → (x ≡ 0 → ⊥) → x ≡ or_else a b
unfolding or_else
stops zero b e h = absurd (h e)
stops (suc a) b e h = e

-- a stage that does not
pub goes : (a b : ℕ) {x r : ℕ} → x ≡ a → x ≡ 0 → r ≡ b → r ≡ or_else a b
unfolding or_else
goes zero b e z f = f
goes (suc a) b e z f = absurd (omega arith)

-- neither of two does
pub both_pass : (a b : ℕ) → or_else a b ≡ 0 → (a ≡ 0) × (b ≡ 0)
unfolding or_else
both_pass zero b h = (refl, h)
both_pass (suc a) b h = absurd (omega arith)

-- ---- what passes the checks

-- a check that passes, and what comes after it
pub check_passed : (a : Bool) (x n : ℕ) → 0 < n → cond a x n ≡ 0 → (a ≡ true) × (x ≡ 0)
check_passed true x n p h = (refl, h)
check_passed false x n p h = absurd (omega arith)

pub counts_passed : (spots matches directions rounds : ℕ) → counts_refused spots matches directions rounds ≡ 0
    → (divides spots matches directions ≡ true) × (few (spots / spot_numbers) (matches / 2) (directions / 3) rounds ≡ true)
unfolding counts_refused
counts_passed spots matches directions rounds h =
    let b = few (spots / spot_numbers) (matches / 2) (directions / 3) rounds in
    let p = check_passed (divides spots matches directions) (cond b 0 6) 5 (omega arith) h in
    (p.0, (check_passed b 0 6 (omega arith) p.1).0)

pub and_left : (a b : Bool) → a && b ≡ true → a ≡ true
and_left true b h = refl
and_left false b h = h

pub and_right : (a b : Bool) → a && b ≡ true → b ≡ true
and_right true b h = h
and_right false b h = cc

pub few_bounds : (s m d rounds : ℕ) → few s m d rounds ≡ true → (s ≤ 4096) × (m ≤ 4096) × (d ≤ 65536) × (rounds ≤ 64)
unfolding few
few_bounds s m d rounds h =
    let a = leb s 4096 in
    let b = leb m 4096 in
    let e = leb d 65536 in
    let abe = and_left (a && b && e) (leb rounds 64) h in
    let ab = and_left (a && b) e abe in (
      leb-true s 4096 (and_left a b ab),
      leb-true m 4096 (and_right a b ab),
      leb-true d 65536 (and_right (a && b) e abe),
      leb-true rounds 64 (and_right (a && b && e) (leb rounds 64) h),
    )

-- what the names are checked with
pub counted_bounds : (spots matches directions rounds : ℕ) {x : ℕ} → x ≡ counts_refused spots matches directions rounds → x ≡ 0
    → (spots / spot_numbers ≤ 4096) × (matches / 2 ≤ 4096) × (directions / 3 ≤ 65536)
counted_bounds spots matches directions rounds f z =
    let b = few_bounds (spots / spot_numbers) (matches / 2) (directions / 3) rounds (counts_passed spots matches directions rounds (sym f ∙ z)).1 in
    (b.0, b.1, b.2)
