-- `predict::predict_into` meets its contract. The invariant: those that reach the panel so far stand where they are to, as their points do, and with
-- those to come they are all. Assumes nothing.
use Rattle.std.proofs.Common.{◌≡◌, ℕ, ◌+◌, ◌-◌, ◌*◌, ◌<◌, ◌≤◌, true, false, ◌⊎◌, List, [], ◌∷◌, length, get_or, take, set, sym, ap, ◌∙◌, subst, inl, inr, ⊎_elim, arith, length-set, get_or-drop, get_or-take, ext_get_or, rules}
use lib.Ieee.{Float}
use lib.Seq.{slice, slice_empty, length-slice}
use Rattle.query.specs.Listing.{falls, standing}
use Rattle.wcs_refine.specs.Listing.{Told, points}
use Rattle.query.specs.declared.Fall.{Fall}
use Rattle.query.proofs.Listed.{Writing, onward, push, in_front, behind, how_many, whole, front_push, front_whole, next_stands, next_off}
use Rattle.wcs_refine.proofs.Listed.{next_points, next_no_points}
use Rattle.wcs_refine.proofs.predict.predict_into.Goals as goal
use Rattle.wcs_refine.proofs.predict.predict_into.Goals.{then-f, else-f}

-- a place of the n numbers is not written to
module _ (start n to : ℕ) (apart : (start + n ≤ to) ⊎ (to + n ≤ start)) (o m : List ℕ) (k i : ℕ) (low : k ≤ n) (room : to + n ≤ length o)
    {rest all : List ℕ} (w : Writing to k m o rest all) where
  unread : i < n → (to + k ≤ start + i) ⊎ (start + i < to) → get_or m (start + i) 0 ≡ get_or o (start + i) 0
  unread h side =
      ⊎_elim
      (λ (p : to + k ≤ start + i). behind to k m o w (omega arith) (start + i) 0 p)
      (λ (p : start + i < to). in_front to k m o w (omega arith) (start + i) 0 p)
      side

-- one number more
module _ (f : ℕ → Fall) (start n to : ℕ) (o m : List ℕ) (xo xm : List Float) (k i : ℕ) (low : k ≤ i) (h : i < n) (fits : start + n ≤ length o)
    (room : to + n ≤ length o) (points_room : 2 * n ≤ length xo)
    (same : get_or m (start + i) 0 ≡ get_or o (start + i) 0)
    (w : Writing to k m o (standing f (slice (start + i) (start + n) o)) (standing f (slice start (start + n) o)))
    (v : Writing 0 (2 * k) xm xo (points f (slice (start + i) (start + n) o)) (points f (slice start (start + n) o))) where
  step : start + i + 1 ≡ start + (i + 1)
  step = omega arith

  below : start + i < start + n
  below = omega arith

  took : {q : Fall} → q ≡ f (get_or m (start + i) 0) → q.inside ≡ true
      → Writing to (k + 1) (set m (to + k) (get_or m (start + i) 0)) o (standing f (slice (start + (i + 1)) (start + n) o)) (standing f (slice start (start + n) o))
  took {q} e b =
      let t : (f (get_or o (start + i) 0)).inside ≡ true = ap (λ (j : ℕ). (f j).inside) (sym same) ∙ ap (λ (p : Fall). p.inside) (sym e) ∙ b in
      subst (λ (a : ℕ). Writing to (k + 1) (set m (to + k) a) o (standing f (slice (start + (i + 1)) (start + n) o)) (standing f (slice start (start + n) o))) (sym same)
      (push to k m o (get_or o (start + i) 0)
      (onward (next_stands f (start + n) (start + i) o below fits t ∙ ap (λ (j : ℕ). get_or o (start + i) 0 ∷ standing f (slice j (start + n) o)) step) w) (omega arith))

  drew : {q : Fall} → q ≡ f (get_or m (start + i) 0) → q.inside ≡ true
      → Writing 0 (2 * (k + 1)) (set (set xm (2 * k) q.x) (2 * k + 1) q.y) xo (points f (slice (start + (i + 1)) (start + n) o)) (points f (slice start (start + n) o))
  drew {q} e b =
      let t : (f (get_or o (start + i) 0)).inside ≡ true = ap (λ (j : ℕ). (f j).inside) (sym same) ∙ ap (λ (p : Fall). p.inside) (sym e) ∙ b in
      let u : f (get_or o (start + i) 0) ≡ q = ap f (sym same) ∙ sym e in
      let next : points f (slice (start + i) (start + n) o) ≡ q.x ∷ q.y ∷ points f (slice (start + (i + 1)) (start + n) o) =
      next_points f (start + n) (start + i) o below fits t ∙ ap (λ (p : Fall). p.x ∷ p.y ∷ points f (slice (start + i + 1) (start + n) o)) u
      ∙ ap (λ (j : ℕ). q.x ∷ q.y ∷ points f (slice j (start + n) o)) step in
      let two : 2 * k + 1 + 1 ≡ 2 * (k + 1) = omega arith in
      let one = front_push (2 * k) xm xo q.x (onward next v) (omega arith) in
      let r : 2 * k + 1 < length (set xm (2 * k) q.x) = simp length-set (omega arith) in
      subst (λ (j : ℕ). Writing 0 j (set (set xm (2 * k) q.x) (2 * k + 1) q.y) xo (points f (slice (start + (i + 1)) (start + n) o)) (points f (slice start (start + n) o))) two
      (front_push (2 * k + 1) (set xm (2 * k) q.x) xo q.y one r)

  passed : {q : Fall} → q ≡ f (get_or m (start + i) 0) → q.inside ≡ false
      → (Writing to k m o (standing f (slice (start + (i + 1)) (start + n) o)) (standing f (slice start (start + n) o)))
      × (Writing 0 (2 * k) xm xo (points f (slice (start + (i + 1)) (start + n) o)) (points f (slice start (start + n) o)))
  passed {q} e b =
      let t : (f (get_or o (start + i) 0)).inside ≡ false = ap (λ (j : ℕ). (f j).inside) (sym same) ∙ ap (λ (p : Fall). p.inside) (sym e) ∙ b in (
        onward (next_off f (start + n) (start + i) o below fits t ∙ ap (λ (j : ℕ). standing f (slice j (start + n) o)) step) w,
        onward (next_no_points f (start + n) (start + i) o below fits t ∙ ap (λ (j : ℕ). points f (slice j (start + n) o)) step) v,
      )

-- where a place of the n numbers lies, when k of them are written
side : (start n to k i : ℕ) → (start + n ≤ to) ⊎ (to + n ≤ start) → k ≤ n → i < n → (to + k ≤ start + i) ⊎ (start + i < to)
side start n to k i apart low h = ⊎_elim (λ (p : start + n ≤ to). inr (omega arith)) (λ (p : to + n ≤ start). inl (omega arith)) apart

ended : (f : ℕ → Fall) (start n to : ℕ) (o m : List ℕ) (xo xm : List Float) (k i : ℕ) → k ≤ i → i ≤ n → n ≤ i → (start + n ≤ to) ⊎ (to + n ≤ start)
    → start + n ≤ length o → to + n ≤ length o → 2 * n ≤ length xo
    → Writing to k m o (standing f (slice (start + i) (start + n) o)) (standing f (slice start (start + n) o))
    → Writing 0 (2 * k) xm xo (points f (slice (start + i) (start + n) o)) (points f (slice start (start + n) o))
    → Told f start n to o m xo xm k
unfolding standing points
ended f start n to o m xo xm k i low u v apart fits room points_room w₀ x₀ =
    let e : start + i ≡ start + n = omega arith in
    let none : slice (start + i) (start + n) o ≡ [] = ap (λ (j : ℕ). slice j (start + n) o) e ∙ slice_empty (start + n) o in
    let w = onward (ap (standing f) none) w₀ in
    let x = onward (ap (points f) none) x₀ in
    let r : to + k ≤ length m = omega arith in
    let s : 2 * k ≤ length xm = omega arith in
    let long : start + n ≤ length m = omega arith in
    let size : start + n - start ≡ n = omega arith in
    record {
      count = how_many to k m o w r;
      ids = whole to k m o w r;
      xy = front_whole (2 * k) xm xo x s;
      unchanged =
          ext_get_or 0 (slice start (start + n) m) (slice start (start + n) o) (length-slice start (start + n) m long ∙ sym (length-slice start (start + n) o fits))
          (λ j p.
          let q : j < n = omega (arith, length-slice start (start + n) m long) in
          let q' : start + j < start + n = omega arith in
          get_or-drop start (take (start + n) m) j 0 ∙ get_or-take (start + n) m (start + j) 0 q'
          ∙ unread start n to apart o m k j (omega arith) room w q (side start n to k j apart (omega arith) q)
          ∙ sym (get_or-drop start (take (start + n) o) j 0 ∙ get_or-take (start + n) o (start + j) 0 q'));
    }

pub loop-i-preserved : goal.loop-i-preserved
loop-i-preserved c =
    let a = c.args in
    let l = c.loop-i in
    let h = c.loop-i-test.true in
    let f = falls a.projection.now in
    let o = a.numbers.now in
    let low : l.k ≤ a.n = omega arith in
    let same = unread a.from a.n a.to c.requires.0 o l.numbers l.k l.i low c.requires.2 l.invariant.2 h
    (⊎_elim (λ (p : a.from + a.n ≤ a.to). inr (omega arith)) (λ (p : a.to + a.n ≤ a.from). inl (omega arith)) c.requires.0) in
    elim c.if-f.branch [
      | then-f w ↦ rw (w.numbers-is, w.xy-is, w.k-is) (
        omega arith,
        omega arith,
        took f a.from a.n a.to o l.numbers a.xy.now l.xy l.k l.i l.invariant.1 h c.requires.1 c.requires.2 c.requires.3 same l.invariant.2 l.invariant.3 c.fall_at-f.ensures w.if-f.true,
        drew f a.from a.n a.to o l.numbers a.xy.now l.xy l.k l.i l.invariant.1 h c.requires.1 c.requires.2 c.requires.3 same l.invariant.2 l.invariant.3 c.fall_at-f.ensures w.if-f.true,
      )
      | else-f w ↦
          let p = passed f a.from a.n a.to o l.numbers a.xy.now l.xy l.k l.i l.invariant.1 h c.requires.1 c.requires.2 c.requires.3 same l.invariant.2 l.invariant.3 c.fall_at-f.ensures w.if-f.false in
          rw (w.numbers-is, w.xy-is, w.k-is) (omega arith, omega arith, p.0, p.1)
    ]

pub returns : goal.returns
returns c =
    let a = c.args in
    let l = c.loop-i in
    ended (falls a.projection.now) a.from a.n a.to a.numbers.now l.numbers a.xy.now l.xy l.k l.i
    l.invariant.1 l.invariant.0 (search rules) c.requires.0 c.requires.1 c.requires.2 c.requires.3 l.invariant.2 l.invariant.3
