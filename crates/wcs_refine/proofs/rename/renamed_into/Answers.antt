-- `rename::renamed_into` meets its contract. The invariant: the matches renamed so far stand at the front, and with those to come they are all.
-- Assumes nothing.
use Rattle.std.proofs.Common.{◌≡◌, ℕ, ◌+◌, ◌*◌, ◌/◌, ◌<◌, ◌≤◌, List, [], ◌∷◌, ◌++◌, length, get_or, drop, set, ap, ◌∙◌, subst, arith, length-set}
use Rattle.std.proofs.lemmas.List.{take_all}
use lib.Seq.{slice, slice_empty}
use Rattle.wcs_refine.specs.Listing.{renamed_by}
use Rattle.query.proofs.Listed.{Writing, onward, front_push, front_many, front_whole}
use Rattle.wcs_refine.proofs.TableSteps.{two_more}
use Rattle.wcs_refine.proofs.rename.renamed_into.Goals as goal

module _ (known ms o m : List ℕ) (t i : ℕ) (fits : 0 + 2 * t ≤ length ms) where
  module _ (h : i < t) (room : 2 * t ≤ length m)
      (w : Writing 0 (2 * i) m o (renamed_by known (slice (0 + 2 * i) (0 + 2 * t) ms)) (renamed_by known (slice 0 (0 + 2 * t) ms))) where
    abbrev rest : List ℕ
    rest = renamed_by known (slice (0 + 2 * (i + 1)) (0 + 2 * t) ms)

    abbrev all : List ℕ
    all = renamed_by known (slice 0 (0 + 2 * t) ms)

    next : renamed_by known (slice (0 + 2 * i) (0 + 2 * t) ms) ≡ get_or ms (2 * i) 0 ∷ get_or known (get_or ms (2 * i + 1) 0) 0 ∷ rest
    unfolding renamed_by
    next =
        let a : 0 + 2 * i ≡ 2 * i = omega arith in
        ap (renamed_by known) (two_more ms 0 i (0 + 2 * t) (omega arith) fits)
        ∙ ap (λ (j : ℕ). get_or ms j 0 ∷ get_or known (get_or ms (j + 1) 0) 0 ∷ rest) a

    pub step : Writing 0 (2 * (i + 1)) (set (set m (2 * i) (get_or ms (2 * i) 0)) (2 * i + 1) (get_or known (get_or ms (2 * i + 1) 0) 0)) o rest all
    step =
        let x = get_or ms (2 * i) 0 in
        let two : 2 * i + 1 + 1 ≡ 2 * (i + 1) = omega arith in
        let one = front_push (2 * i) m o x (onward next w) (omega arith) in
        let r : 2 * i + 1 < length (set m (2 * i) x) = simp length-set (omega arith) in
        subst (λ (k : ℕ). Writing 0 k (set (set m (2 * i) x) (2 * i + 1) (get_or known (get_or ms (2 * i + 1) 0) 0)) o rest all) two
        (front_push (2 * i + 1) (set m (2 * i) x) o (get_or known (get_or ms (2 * i + 1) 0) 0) one r)

  pub ended : t ≤ i → i ≤ t → length ms ≡ 2 * t → 2 * t ≤ length m
      → Writing 0 (2 * i) m o (renamed_by known (slice (0 + 2 * i) (0 + 2 * t) ms)) (renamed_by known (slice 0 (0 + 2 * t) ms))
      → m ≡ renamed_by known ms ++ drop (length ms) o
  unfolding renamed_by
  ended u v many room w =
      let e : i ≡ t = omega arith in
      let none : renamed_by known (slice (0 + 2 * i) (0 + 2 * t) ms) ≡ [] =
      ap (λ (j : ℕ). renamed_by known (slice (0 + 2 * j) (0 + 2 * t) ms)) e ∙ ap (renamed_by known) (slice_empty (0 + 2 * t) ms) in
      let all : slice 0 (0 + 2 * t) ms ≡ ms = take_all (0 + 2 * t) ms (omega (arith, many)) in
      let w' = onward none w in
      let long : length (renamed_by known (slice 0 (0 + 2 * t) ms)) ≡ length ms = omega (arith, front_many (2 * i) m o w' (omega arith), many) in
      front_whole (2 * i) m o w' (omega arith) ∙ ap (λ (l : List ℕ). renamed_by known l ++ drop (length (renamed_by known (slice 0 (0 + 2 * t) ms))) o) all
      ∙ ap (λ (j : ℕ). renamed_by known ms ++ drop j o) long

pub loop-i-preserved : goal.loop-i-preserved
loop-i-preserved c =
    let a = c.args in
    let l = c.loop-i in
    rw c.number_at.ensures
    (step a.ids.now a.matches.now a.new.now l.new (length a.matches.now / 2) l.i (omega arith) c.loop-i-test.true (omega (arith, c.requires, l.invariant.long)) l.invariant)

pub returns : goal.returns
returns c =
    let a = c.args in
    let l = c.loop-i in
    ended a.ids.now a.matches.now a.new.now l.new (length a.matches.now / 2) l.i (omega arith) c.loop-i-test.false l.auto.i-end (omega (arith, c.requires)) (omega (arith, c.requires, l.invariant.long)) l.invariant
