use Rattle.std.proofs.Common.{◌≡◌, ℕ, ◌+◌, ◌<◌, ◌≤◌, List, [], ◌∷◌, ◌++◌, length, get_or, drop, set, sym, ap, ◌∙◌, subst, add-one, arith}
use Rattle.std.proofs.Math.Seq.{slice, slice-cons, slice_empty, length-slice}
use Rattle.query.proofs.Listed.{Writing, onward, front_push, behind, front_whole}
use Rattle.wcs_refine.proofs.associating.bring_forward.Goals as goal

-- one number more
step : (a n i : ℕ) (m o : List ℕ) → i < n → a + n ≤ length o → Writing 0 i m o (slice (a + i) (a + n) o) (slice a (a + n) o)
    → Writing 0 (i + 1) (set m i (get_or m (a + i) 0)) o (slice (a + (i + 1)) (a + n) o) (slice a (a + n) o)
step a n i m o h fits w =
    let p : a + i < a + n = omega arith in
    let next : a + (i + 1) ≡ a + i + 1 = omega arith in
    let same : get_or m (a + i) 0 ≡ get_or o (a + i) 0 = behind 0 i m o w (omega (arith, w.long)) (a + i) 0 (omega arith) in
    let cut : slice (a + i) (a + n) o ≡ get_or o (a + i) 0 ∷ slice (a + (i + 1)) (a + n) o =
    slice-cons (a + i) (a + n) o 0 p fits ∙ ap (λ (k : ℕ). get_or o (a + i) 0 ∷ slice k (a + n) o) (sym (add-one (a + i)) ∙ sym next) in
    subst (λ (v : ℕ). Writing 0 (i + 1) (set m i v) o (slice (a + (i + 1)) (a + n) o) (slice a (a + n) o)) (sym same)
    (front_push i m o (get_or o (a + i) 0) (onward cut w) (omega (arith, w.long)))

ended : (a n i : ℕ) (m o : List ℕ) → i ≤ n → n ≤ i → a + n ≤ length o → Writing 0 i m o (slice (a + i) (a + n) o) (slice a (a + n) o)
    → m ≡ slice a (a + n) o ++ drop n o
ended a n i m o u v fits w =
    let e : i ≡ n = omega arith in
    let none : slice (a + i) (a + n) o ≡ [] = ap (λ (j : ℕ). slice (a + j) (a + n) o) e ∙ slice_empty (a + n) o in
    let many : length (slice a (a + n) o) ≡ n = omega (arith, length-slice a (a + n) o fits) in
    front_whole i m o (onward none w) (omega (arith, w.long)) ∙ ap (λ (j : ℕ). slice a (a + n) o ++ drop j o) many

pub loop-i-preserved : goal.loop-i-preserved
loop-i-preserved c =
    let a = c.args in
    let l = c.loop-i in
    step a.from a.n l.i l.numbers a.numbers.now c.loop-i-test.true c.requires.1 l.invariant
