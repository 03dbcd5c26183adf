-- `Projection::prune_in_place` meets its contract. The invariant: those that reach the panel so far stand at the front, and with those to come they are all.
-- Assumes nothing.
use mathlib.Core.Path.{◌≡◌, sym, ap, subst, ◌∙◌}
use mathlib.Core.Bool.{true, false}
use mathlib.Core.List.{List, []}
use Prim.Native.Nat.{ℕ, ◌+◌, ◌≤◌, ◌<◌}
use native.Mathlib.Omega.{arith}
use lib.ListN.{length, get_or, set}
use lib.Seq.{slice, slice_empty}
use Rattle.query.specs.Listing.{Fronted, falls, standing}
use Rattle.query.specs.declared.Fall.{Fall}
use Rattle.query.proofs.Listed.{Writing, onward, front_push, behind, front_many, front_whole, next_stands, next_off}
use borrow.Author.Rules.{rules}
use Rattle.query.proofs.Projection.prune_in_place.Goals as goal
use Rattle.query.proofs.Projection.prune_in_place.Goals.{then-f, else-f}

-- one number more, of n, m being the list as it is and o as it was
module _ (f : ℕ → Fall) (n : ℕ) (o m : List ℕ) (k i : ℕ) (low : k ≤ i) (h : i < n) (fits : n ≤ length o)
    (w : Writing 0 k m o (standing f (slice i n o)) (standing f o)) where
  same : get_or m i 0 ≡ get_or o i 0
  same = behind 0 k m o w (omega arith) i 0 (omega arith)

  took : {q : Fall} → q ≡ f (get_or m i 0) → q.inside ≡ true → Writing 0 (k + 1) (set m k (get_or m i 0)) o (standing f (slice (i + 1) n o)) (standing f o)
  took {q} e b =
      let t : (f (get_or o i 0)).inside ≡ true = ap (λ (j : ℕ). (f j).inside) (sym same) ∙ ap (λ (p : Fall). p.inside) (sym e) ∙ b in
      subst (λ (a : ℕ). Writing 0 (k + 1) (set m k a) o (standing f (slice (i + 1) n o)) (standing f o)) (sym same)
      (front_push k m o (get_or o i 0) (onward (next_stands f n i o h fits t) w) (omega arith))

  passed : {q : Fall} → q ≡ f (get_or m i 0) → q.inside ≡ false → Writing 0 k m o (standing f (slice (i + 1) n o)) (standing f o)
  passed {q} e b =
      let t : (f (get_or o i 0)).inside ≡ false = ap (λ (j : ℕ). (f j).inside) (sym same) ∙ ap (λ (p : Fall). p.inside) (sym e) ∙ b in
      onward (next_off f n i o h fits t) w

ended : (f : ℕ → Fall) (n : ℕ) (o m : List ℕ) (k i : ℕ) → k ≤ i → i ≤ n → n ≤ i → n ≤ length o → Writing 0 k m o (standing f (slice i n o)) (standing f o)
    → Fronted (standing f o) o m k
unfolding standing
ended f n o m k i low u v fits w₀ =
    let e : i ≡ n = omega arith in
    let none : standing f (slice i n o) ≡ [] = ap (λ (j : ℕ). standing f (slice j n o)) e ∙ ap (standing f) (slice_empty n o) in
    let w = onward none w₀ in
    let r : k ≤ length m = omega arith in
    record { count = front_many k m o w r; list = front_whole k m o w r }

pub loop-i-preserved : goal.loop-i-preserved
loop-i-preserved c =
    let a = c.args in
    let l = c.loop-i in
    let h = c.loop-i-test.true in
    let f = falls a.self.now in
    let o = a.listed.now in
    let fits : length o ≤ length o = omega arith in
    elim c.if-f.branch [
      | then-f w ↦ rw (w.listed-is, w.k-is) (omega arith, took f (length o) o l.listed l.k l.i l.invariant.0 h fits l.invariant.1 c.fall_at-f.ensures w.if-f.true)
      | else-f w ↦ rw (w.listed-is, w.k-is) (omega arith, passed f (length o) o l.listed l.k l.i l.invariant.0 h fits l.invariant.1 c.fall_at-f.ensures w.if-f.false)
    ]

pub returns : goal.returns
returns c =
    let a = c.args in
    let l = c.loop-i in
    let o = a.listed.now in
    let fits : length o ≤ length o = omega arith in
    ended (falls a.self.now) (length o) o l.listed l.k l.i l.invariant.0 (omega arith) (search rules) fits l.invariant.1
