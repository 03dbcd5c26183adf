-- `residuals::clipping::compact` meets its contract. The invariant: the first k places are those kept so far, with those that are left they are all, and
-- the places from k on are as they came. Assumes nothing.
use mathlib.Core.Path.{◌≡◌, sym, ap, ◌∙◌}
use mathlib.Core.Bool.{true, false}
use mathlib.Core.List.{List, ◌++◌, append_assoc, append-nil}
use Prim.Native.Nat.{ℕ, ◌+◌, ◌*◌, ◌/◌, ◌-◌, ◌≤◌, ◌<◌}
use native.Mathlib.Omega.{arith}
use lib.Ieee.{Float, nan}
use lib.ListN.{length, get_or, set, take, drop, length-set}
use Rattle.residuals.specs.Residual.{keeps, kept_from}
use Rattle.residuals.proofs.Kept.{kept_next, kept_not, kept_none, unwritten, pair_front, pair_back, front_done}
use Rattle.residuals.proofs.clipping.compact.Goals as goal
use Rattle.residuals.proofs.clipping.compact.Goals.{then-kept_at, else-kept_at}

-- what the loop keeps, of the residuals rs and the matches o: with i of them passed and k places kept, m is as it stands
abbrev Stands : Float → List Float → List ℕ → List ℕ → ℕ → ℕ → Type 0
Stands t rs o m k i =
    (length m ≡ length o) × (k ≤ 2 * i) × (drop k m ≡ drop k o)
    × (take k m ++ kept_from t rs o i (length o / 2 - i) ≡ kept_from t rs o 0 (length o / 2))

-- a turn that keeps the match, and one that does not
module _ (t : Float) (rs : List Float) (o m : List ℕ) (k i : ℕ) (inv : Stands t rs o m k i) (h : i < length o / 2) where
  taken : keeps t (get_or rs i nan) ≡ true
      → Stands t rs o (set (set m k (get_or m (2 * i) 0)) (k + 1) (get_or m (2 * i + 1) 0)) (k + 2) (i + 1)
  taken e =
      let x : get_or m (2 * i) 0 ≡ get_or o (2 * i) 0 = unwritten m o k inv.2 (2 * i) (omega arith) in
      let y : get_or m (2 * i + 1) 0 ≡ get_or o (2 * i + 1) 0 = unwritten m o k inv.2 (2 * i + 1) (omega arith) in
      let room : k + 1 < length m = omega arith in (
        simp length-set inv.0,
        omega arith,
        pair_back m o k inv.2 (get_or m (2 * i) 0) (get_or m (2 * i + 1) 0),
        rw (pair_front m o k inv.2 (get_or m (2 * i) 0) (get_or m (2 * i + 1) 0) room, append_assoc, x, y, ← kept_next t rs o (length o / 2) i h e) inv.3,
      )

  passed : keeps t (get_or rs i nan) ≡ false → Stands t rs o m k (i + 1)
  passed e = (inv.0, omega arith, inv.2, rw (← kept_not t rs o (length o / 2) i h e) inv.3)

-- after the last one
done : (t : Float) (rs : List Float) (o m : List ℕ) (k i : ℕ) → Stands t rs o m k i → i ≤ length o / 2 → length o / 2 ≤ i
    → m ≡ kept_from t rs o 0 (length o / 2) ++ drop (length (kept_from t rs o 0 (length o / 2))) o
done t rs o m k i inv b h =
    front_done m o k inv.2 (omega arith)
    (sym (append-nil (take k m)) ∙ ap (λ (z : List ℕ). take k m ++ z) (sym (kept_none t rs o (length o / 2) i h)) ∙ inv.3)

pub loop-i-preserved : goal.loop-i-preserved
loop-i-preserved c =
    let a = c.args in
    let l = c.loop-i in
    let h = c.loop-i-test.true in
    let t = a.threshold in
    let rs = a.residuals.now in
    let o = a.matches.now in
    elim c.if-kept_at.branch [
      | then-kept_at w ↦ rw (w.matches-is, w.k-is) (taken t rs o l.matches l.k l.i l.invariant h (sym c.kept_at.ensures ∙ w.if-kept_at.true))
      | else-kept_at w ↦ rw (w.matches-is, w.k-is) (passed t rs o l.matches l.k l.i l.invariant h (sym c.kept_at.ensures ∙ w.if-kept_at.false))
    ]

pub returns : goal.returns
returns c =
    let a = c.args in
    let l = c.loop-i in
    done a.threshold a.residuals.now a.matches.now l.matches l.k l.i l.invariant (omega arith) (omega arith)
