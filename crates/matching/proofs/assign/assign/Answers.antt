-- `assign` offers pairs in turn. The invariant: what was taken, with what is still to be offered, is what it is to be in the end.
use mathlib.Core.Path.{◌≡◌}
use mathlib.Core.List.{List}
use Prim.Native.Nat.{ℕ, suc, ◌+◌, ◌-◌, ◌*◌, ◌<◌, ◌≤◌}
use native.Mathlib.Omega.{arith}
use lib.ListN.{get_or}
use Rattle.matching.specs.Layout.{marks, Taking, taking, offered, offers}
use Rattle.matching.proofs.assign.assign.Goals as goal

-- one pair more was offered
one_more : (np marked : ℕ) (ix : List ℕ) (k e : ℕ) (s s' end : Taking) → k < e → offers np marked ix k (e - k) s ≡ end
    → s' ≡ offered np marked s (get_or ix (2 * k) 0) (get_or ix (2 * k + 1) 0) → offers np marked ix (k + 1) (e - (k + 1)) s' ≡ end
unfolding offers
one_more np marked ix k e s s' end h inv did =
    let p : e - k ≡ suc (e - suc k) = omega arith in
    let q : k + 1 ≡ suc k = omega arith in
    rw (q, did) (rw p at inv)

ended : (np marked : ℕ) (ix : List ℕ) (k e : ℕ) (s end : Taking) → e ≤ k → offers np marked ix k (e - k) s ≡ end → s ≡ end
unfolding offers
ended np marked ix k e s end h inv =
    let p : e - k ≡ 0 = omega arith in
    rw p at inv

pub offer-t-requires : goal.offer-t-requires
offer-t-requires c =
    let l = c.loop-k in
    let a = c.args in
    let from = c.begin-from.result in
    let e : from + (l.k - from) ≡ l.k = omega arith in
    (rw (← c.begin-from.ensures.0, e) at (c.requires.1 (l.k - from) (omega arith)), omega (arith, l.invariant.0, a.n.few, a.c.now.few, a.c.now.fits, c.well_formed))

pub loop-k-preserved : goal.loop-k-preserved
loop-k-preserved c =
    let l = c.loop-k in
    let r = c.offer-t in
    let a = c.args in
    let end = c.begin-from.result + a.c.now.n in (
      omega (arith, r.ensures.0, l.invariant.0),
      one_more a.n.spots (marks a.n) a.c.now.indices.now l.k end (taking l.t l.work) (taking r.result r.new.work) _ c.loop-k-test.true l.invariant.1 r.ensures.1,
    )
