-- Marks say which spots and predictions are taken. So offering pairs in turn takes the pairs that `assigned` takes, and there is room for all of them:
-- each match uses up a mark of either kind. Assumes nothing.
use mathlib.Core.Path.{◌≡◌, refl, sym, ap, subst, ◌∙◌}
use mathlib.Core.Bool.{Bool, true, false, cond, not, ◌||◌, ◌&&◌}
use mathlib.Core.List.{List, [], ◌∷◌, ◌++◌, append_assoc, append-nil}
use Prim.Native.Nat.{ℕ, zero, suc, ◌+◌, ◌*◌, ◌<◌, ◌≤◌, min}
use native.Mathlib.Nat.{not-suc-le-zero}
use native.Mathlib.Numerals.{add-one}
use native.Mathlib.Omega.{arith}
use borrow.Author.Tests.{eqb-true, eqb-false}
use lib.Dec.{eqb}
use lib.Ieee.{Float}
use lib.ListN.{length, set, drop, get_or, replicate, length-set, length-append, length-replicate, replicate-append-replicate, get_or-replicate, get_or-append}
use lib.Seq.{get_or-set_same, get_or-set_other, get_or-append-add, set-append_left, drop_at, slice, slice-cons, slice_empty}
use Rattle.pairs.specs.Pairs.{Pair}
use Rattle.matching.specs.Greedy.{Match, clashes, assigned, flat}
use Rattle.pairs.specs.Elements.{All, none, more}
use Rattle.pairs.specs.Candidates.{Inside, nothing, laid}
use Rattle.matching.specs.Layout.{Taking, taking, offered, offers}
use Rattle.lists.proofs.Fronts.{grow_two, set_right}
use Rattle.pairs.proofs.Laying.{laid_get, laid_long}

-- ---- marks

-- whether a number is in a list
has : ℕ → List ℕ → Bool
has i [] = false
has i (x ∷ xs) = eqb i x || has i xs

zeros : List ℕ → ℕ
zeros [] = 0
zeros (x ∷ l) = cond (eqb x 0) (suc (zeros l)) (zeros l)

-- a place is zero where its number is not in use, and there are as many others as numbers in use
record Marked (marks : List ℕ) (used : List ℕ) : Type 0 where
  free : (i : ℕ) → i < length marks → eqb (get_or marks i 0) 0 ≡ not (has i used)
  left : zeros marks + length used ≡ length marks

zeros_all : (n : ℕ) → zeros (replicate n 0) ≡ n
unfolding zeros
zeros_all zero = refl
zeros_all (suc n) = ap suc (zeros_all n)

none_marked : (n : ℕ) → Marked (replicate n 0) []
unfolding has
none_marked n = record {
  free = λ i h. rw (get_or-replicate {A = ℕ} n i 0 0 (rw length-replicate at h)) refl;
  left = omega (arith, zeros_all n, length-replicate {A = ℕ} n 0);
}

one_fewer : (marks : List ℕ) (i : ℕ) → i < length marks → eqb (get_or marks i 0) 0 ≡ true → zeros marks ≡ suc (zeros (set marks i 1))
unfolding zeros
one_fewer [] i h e = absurd (not-suc-le-zero h)
one_fewer (x ∷ l) zero h e = rw e
one_fewer (x ∷ l) (suc i) h e =
    let rec = one_fewer l i (omega arith) e in
    by (eqb x 0) rec
  where
    by : (b : Bool) → zeros l ≡ suc (zeros (set l i 1)) → cond b (suc (zeros l)) (zeros l) ≡ suc (cond b (suc (zeros (set l i 1))) (zeros (set l i 1)))
    by true r = ap suc r
    by false r = r

mark_one : (marks used : List ℕ) (a : ℕ) → a < length marks → eqb (get_or marks a 0) 0 ≡ true → Marked marks used → Marked (set marks a 1) (a ∷ used)
unfolding has
mark_one marks used a h e m = record {
  free = λ i k. by i (rw length-set at k) (eqb i a) refl;
  left = rw length-set (omega (arith, one_fewer marks a h e, m.left));
}
  where
    by : (i : ℕ) → i < length marks → (b : Bool) → eqb i a ≡ b → eqb (get_or (set marks a 1) i 0) 0 ≡ not (eqb i a || has i used)
    by i k true q = rw (q, eqb-true i a q, get_or-set_same marks a 1 0 h)
    by i k false q = rw (q, get_or-set_other marks a i 1 0 (eqb-false i a q)) (m.free i k)

-- ---- what clashes is what is marked

spots : List Match → List ℕ
spots [] = []
spots (m ∷ ms) = m.spot ∷ spots ms

predictions : List Match → List ℕ
predictions [] = []
predictions (m ∷ ms) = m.prediction ∷ predictions ms

clashes_has : (p : Pair) (ms : List Match) → clashes p ms ≡ has p.spot (spots ms) || has p.prediction (predictions ms)
unfolding clashes has spots predictions
clashes_has p [] = refl
clashes_has p (m ∷ ms) =
    ap (λ (b : Bool). eqb p.spot m.spot || eqb p.prediction m.prediction || b) (clashes_has p ms)
    ∙ swap (eqb p.spot m.spot) (eqb p.prediction m.prediction) (has p.spot (spots ms)) (has p.prediction (predictions ms))
  where
    swap : (a b c d : Bool) → a || b || (c || d) ≡ (a || c) || (b || d)
    swap true b c d = refl
    swap false true true d = refl
    swap false true false d = refl
    swap false false c d = refl

length_spots : (ms : List Match) → length (spots ms) ≡ length ms
unfolding spots
length_spots [] = refl
length_spots (m ∷ ms) = ap suc (length_spots ms)

length_predictions : (ms : List Match) → length (predictions ms) ≡ length ms
unfolding predictions
length_predictions [] = refl
length_predictions (m ∷ ms) = ap suc (length_predictions ms)

-- ---- one pair

-- the list of marks and matches: marks of spots, marks of predictions, t matches, and what was there before
abbrev held : ℕ → ℕ → List ℕ → List ℕ → List ℕ → List ℕ → ℕ → List ℕ
held np nq w A B F t = (A ++ (B ++ F)) ++ drop (np + nq + 2 * t) w

record Right (np nq : ℕ) (A B F : List ℕ) (taken : List Match) : Type 0 where
  spots_long : length A ≡ np
  predictions_long : length B ≡ nq
  matches_long : length F ≡ 2 * length taken
  spots_marked : Marked A (spots taken)
  predictions_marked : Marked B (predictions taken)

module _ (np nq : ℕ) (w A B F : List ℕ) (t : ℕ) (la : length A ≡ np) (lb : length B ≡ nq) (lf : length F ≡ 2 * t) where
  apart : held np nq w A B F t ≡ A ++ (B ++ (F ++ drop (np + nq + 2 * t) w))
  apart = append_assoc A (B ++ F) (drop (np + nq + 2 * t) w) ∙ ap (λ (l : List ℕ). A ++ l) (append_assoc B F (drop (np + nq + 2 * t) w))

  mark_of_spot : (a : ℕ) → a < np → get_or (held np nq w A B F t) a 0 ≡ get_or A a 0
  mark_of_spot a h =
      ap (λ (l : List ℕ). get_or l a 0) apart ∙ get_or-append A (B ++ (F ++ drop (np + nq + 2 * t) w)) 0 a (omega arith)

  mark_of_prediction : (b : ℕ) → b < nq → get_or (held np nq w A B F t) (np + b) 0 ≡ get_or B b 0
  mark_of_prediction b h =
      let R = F ++ drop (np + nq + 2 * t) w in
      ap (λ (l : List ℕ). get_or l (np + b) 0) apart
      ∙ ap (λ (n : ℕ). get_or (A ++ (B ++ R)) (n + b) 0) (sym la)
      ∙ get_or-append-add A (B ++ R) b 0
      ∙ get_or-append B R 0 b (omega arith)

  after_marks : drop (np + nq) (held np nq w A B F t) ≡ F ++ drop (np + nq + 2 * t) w
  after_marks =
      let R = F ++ drop (np + nq + 2 * t) w in
      ap (drop (np + nq)) (apart ∙ sym (append_assoc A B R)) ∙ drop_at (A ++ B) R (np + nq) (omega (arith, length-append A B))

  both_marked : (a b : ℕ) → a < np → b < nq → np + nq + 2 * t + 1 < length w
      → set (set (set (set (held np nq w A B F t) a 1) (np + b) 1) (np + nq + 2 * t) a) (np + nq + 2 * t + 1) b
      ≡ held np nq w (set A a 1) (set B b 1) (F ++ (a ∷ b ∷ [])) (t + 1)
  both_marked a b ha hb room =
      let n = np + nq + 2 * t in
      let D = drop n w in
      let A' = set A a 1 in
      let B' = set B b 1 in
      let la' : length A' ≡ np = rw length-set la in
      let lb' : length B' ≡ nq = rw length-set lb in
      let first : set (held np nq w A B F t) a 1 ≡ A' ++ (B ++ (F ++ D)) =
      ap (λ (l : List ℕ). set l a 1) apart ∙ set-append_left A (B ++ (F ++ D)) a 1 (omega arith) in
      let second : set (A' ++ (B ++ (F ++ D))) (np + b) 1 ≡ (A' ++ (B' ++ F)) ++ D =
      ap (λ (k : ℕ). set (A' ++ (B ++ (F ++ D))) (k + b) 1) (sym la')
      ∙ set_right A' (B ++ (F ++ D)) b 1
      ∙ ap (λ (l : List ℕ). A' ++ l) (set-append_left B (F ++ D) b 1 (omega arith) ∙ sym (append_assoc B' F D))
      ∙ sym (append_assoc A' (B' ++ F) D) in
      let long : length (A' ++ (B' ++ F)) ≡ n = omega (arith, length-append A' (B' ++ F), length-append B' F) in
      let next : n + 2 ≡ np + nq + 2 * (t + 1) = omega arith in
      ap (λ (l : List ℕ). set (set (set l (np + b) 1) n a) (n + 1) b) first
      ∙ ap (λ (l : List ℕ). set (set l n a) (n + 1) b) second
      ∙ grow_two (A' ++ (B' ++ F)) w n a b long room
      ∙ ap (λ (l : List ℕ). l ++ drop (n + 2) w)
      (append_assoc A' (B' ++ F) (a ∷ b ∷ []) ∙ ap (λ (l : List ℕ). A' ++ l) (append_assoc B' F (a ∷ b ∷ [])))
      ∙ ap (λ (k : ℕ). (A' ++ (B' ++ (F ++ (a ∷ b ∷ [])))) ++ drop k w) next

-- ---- a pair is offered

abbrev match_of : Pair → Match
match_of p = record { spot = p.spot; prediction = p.prediction }

module _ (np nq : ℕ) (w : List ℕ) (room : np + nq + 2 * min np nq ≤ length w) (A B F : List ℕ) (taken : List Match) (p : Pair)
    (r : Right np nq A B F taken) (inside : Inside np nq p) where
  -- whether both are free
  free_both : eqb (get_or (held np nq w A B F (length taken)) p.spot 0) 0 && eqb (get_or (held np nq w A B F (length taken)) (np + p.prediction) 0) 0 ≡ not (clashes p taken)
  free_both =
      let t = length taken in
      let x : eqb (get_or (held np nq w A B F t) p.spot 0) 0 ≡ not (has p.spot (spots taken)) =
      ap (λ (n : ℕ). eqb n 0) (mark_of_spot np nq w A B F t r.spots_long r.predictions_long r.matches_long p.spot inside.0)
      ∙ r.spots_marked.free p.spot (rw r.spots_long inside.0) in
      let y : eqb (get_or (held np nq w A B F t) (np + p.prediction) 0) 0 ≡ not (has p.prediction (predictions taken)) =
      ap (λ (n : ℕ). eqb n 0) (mark_of_prediction np nq w A B F t r.spots_long r.predictions_long r.matches_long p.prediction inside.1)
      ∙ r.predictions_marked.free p.prediction (rw r.predictions_long inside.1) in
      ap (λ (b : Bool). b && eqb (get_or (held np nq w A B F t) (np + p.prediction) 0) 0) x
      ∙ ap (λ (b : Bool). not (has p.spot (spots taken)) && b) y
      ∙ neither (has p.spot (spots taken)) (has p.prediction (predictions taken))
      ∙ ap not (sym (clashes_has p taken))
    where
      neither : (a b : Bool) → not a && not b ≡ not (a || b)
      neither true b = refl
      neither false b = refl

  refused : clashes p taken ≡ true
      → offered np (np + nq) (taking (length taken) (held np nq w A B F (length taken))) p.spot p.prediction ≡ taking (length taken) (held np nq w A B F (length taken))
  unfolding offered
  refused e = rw (free_both ∙ ap not e)

  module _ (e : clashes p taken ≡ false) where
    spot_free : eqb (get_or A p.spot 0) 0 ≡ true
    spot_free =
        ap (λ (n : ℕ). eqb n 0) (sym (mark_of_spot np nq w A B F (length taken) r.spots_long r.predictions_long r.matches_long p.spot inside.0))
        ∙ first (eqb (get_or (held np nq w A B F (length taken)) p.spot 0) 0) _ (free_both ∙ ap not e)
      where
        first : (a b : Bool) → a && b ≡ true → a ≡ true
        first true b h = refl
        first false b h = h

    prediction_free : eqb (get_or B p.prediction 0) 0 ≡ true
    prediction_free =
        ap (λ (n : ℕ). eqb n 0) (sym (mark_of_prediction np nq w A B F (length taken) r.spots_long r.predictions_long r.matches_long p.prediction inside.1))
        ∙ second (eqb (get_or (held np nq w A B F (length taken)) p.spot 0) 0) _ (free_both ∙ ap not e)
      where
        second : (a b : Bool) → a && b ≡ true → b ≡ true
        second true b h = h
        second false true h = refl
        second false false h = h

    -- each match uses up a mark of either kind, so there is room for one more
    has_room : np + nq + 2 * length taken + 1 < length w
    has_room =
        let x = one_fewer A p.spot (rw r.spots_long inside.0) spot_free in
        let y = one_fewer B p.prediction (rw r.predictions_long inside.1) prediction_free in
        let u : length taken < np = omega (arith, r.spots_marked.left, length_spots taken, r.spots_long) in
        let v : length taken < nq = omega (arith, r.predictions_marked.left, length_predictions taken, r.predictions_long) in
        two_fit np nq (length taken) (length w) u v room
      where
        two_fit : (a b t l : ℕ) → t < a → t < b → a + b + 2 * min a b ≤ l → a + b + 2 * t + 1 < l
        two_fit a b t l h k q = omega arith

    accepted : offered np (np + nq) (taking (length taken) (held np nq w A B F (length taken))) p.spot p.prediction
        ≡ taking (length taken + 1) (held np nq w (set A p.spot 1) (set B p.prediction 1) (F ++ (p.spot ∷ p.prediction ∷ [])) (length taken + 1))
    unfolding offered
    accepted =
        rw (free_both ∙ ap not e)
        (ap (taking (length taken + 1))
        (both_marked np nq w A B F (length taken) r.spots_long r.predictions_long r.matches_long p.spot p.prediction inside.0 inside.1 has_room))

    right_after : Right np nq (set A p.spot 1) (set B p.prediction 1) (F ++ (p.spot ∷ p.prediction ∷ [])) (match_of p ∷ taken)
    unfolding spots predictions
    right_after = record {
      spots_long = rw length-set r.spots_long;
      predictions_long = rw length-set r.predictions_long;
      matches_long = omega (arith, length-append F (p.spot ∷ p.prediction ∷ []), r.matches_long);
      spots_marked = mark_one A (spots taken) p.spot (rw r.spots_long inside.0) spot_free r.spots_marked;
      predictions_marked = mark_one B (predictions taken) p.prediction (rw r.predictions_long inside.1) prediction_free r.predictions_marked;
    }

-- ---- all pairs

pub offers_of : ℕ → ℕ → Taking → List Pair → Taking
offers_of np marked s [] = s
offers_of np marked s (p ∷ ps) = offers_of np marked (offered np marked s p.spot p.prediction) ps

-- n matches were taken, which stand flat after the marks
pub record Taken (marked : ℕ) (w : List ℕ) (s : Taking) (n : ℕ) (F : List ℕ) : Type 0 where
  pub count : s.count ≡ n
  pub matches : drop marked s.work ≡ F ++ drop (marked + 2 * n) w

module _ (np nq : ℕ) (w : List ℕ) (room : np + nq + 2 * min np nq ≤ length w) where
  abbrev Offered : List Match → List ℕ → List ℕ → List ℕ → List Pair → Type 0
  Offered taken A B F ps =
      Taken (np + nq) w (offers_of np (np + nq) (taking (length taken) (held np nq w A B F (length taken))) ps)
      (length taken + length (assigned taken ps)) (F ++ flat (assigned taken ps))

  skips : (taken : List Match) (p : Pair) (ps : List Pair) → clashes p taken ≡ true → assigned taken (p ∷ ps) ≡ assigned taken ps
  unfolding assigned
  skips taken p ps e = rw e

  takes : (taken : List Match) (p : Pair) (ps : List Pair) → clashes p taken ≡ false → assigned taken (p ∷ ps) ≡ match_of p ∷ assigned (match_of p ∷ taken) ps
  unfolding assigned
  takes taken p ps e = rw e

  turn : (taken : List Match) (A B F : List ℕ) (p : Pair) (ps : List Pair) → Right np nq A B F taken → Inside np nq p
      → Offered taken A B F ps
      → (clashes p taken ≡ false → Offered (match_of p ∷ taken) (set A p.spot 1) (set B p.prediction 1) (F ++ (p.spot ∷ p.prediction ∷ [])) ps)
      → (b : Bool) → clashes p taken ≡ b → Offered taken A B F (p ∷ ps)
  unfolding offers_of flat
  turn taken A B F p ps r inside one two true e =
      subst (λ (ms : List Match). Taken (np + nq) w (offers_of np (np + nq) (taking (length taken) (held np nq w A B F (length taken))) (p ∷ ps)) (length taken + length ms) (F ++ flat ms))
      (sym (skips taken p ps e))
      (subst (λ (s : Taking). Taken (np + nq) w (offers_of np (np + nq) s ps) (length taken + length (assigned taken ps)) (F ++ flat (assigned taken ps)))
      (sym (refused np nq w room A B F taken p r inside e)) one)
  turn taken A B F p ps r inside one two false e =
      let t = length taken in
      let ms = assigned (match_of p ∷ taken) ps in
      let A' = set A p.spot 1 in
      let B' = set B p.prediction 1 in
      let F' = F ++ (p.spot ∷ p.prediction ∷ []) in
      let did = accepted np nq w room A B F taken p r inside e ∙ ap (λ (k : ℕ). taking k (held np nq w A' B' F' k)) (add-one t) in
      let n : suc t + length ms ≡ t + suc (length ms) = omega arith in
      subst (λ (l : List Match). Taken (np + nq) w (offers_of np (np + nq) (taking t (held np nq w A B F t)) (p ∷ ps)) (t + length l) (F ++ flat l))
      (sym (takes taken p ps e))
      (subst (λ (s : Taking). Taken (np + nq) w (offers_of np (np + nq) s ps) (t + suc (length ms)) (F ++ (p.spot ∷ p.prediction ∷ flat ms)))
      (sym did)
      (subst (λ (k : ℕ). Taken (np + nq) w (offers_of np (np + nq) (taking (suc t) (held np nq w A' B' F' (suc t))) ps) k (F ++ (p.spot ∷ p.prediction ∷ flat ms))) n
      (subst (λ (l : List ℕ). Taken (np + nq) w (offers_of np (np + nq) (taking (suc t) (held np nq w A' B' F' (suc t))) ps) (suc t + length ms) l)
      (append_assoc F (p.spot ∷ p.prediction ∷ []) (flat ms)) (two e))))

  run : (ps : List Pair) (taken : List Match) (A B F : List ℕ) → Right np nq A B F taken → All (Inside np nq) ps → Offered taken A B F ps
  unfolding offers_of assigned flat
  run l taken A B F r none =
      let e : length taken + 0 ≡ length taken = omega arith in
      record {
        count = sym e;
        matches = rw (e, append-nil F) (after_marks np nq w A B F (length taken) r.spots_long r.predictions_long r.matches_long);
      }
  run l taken A B F r (more p ps h rest) =
      turn taken A B F p ps r h (run ps taken A B F r rest)
      (λ e. run ps (match_of p ∷ taken) (set A p.spot 1) (set B p.prediction 1) (F ++ (p.spot ∷ p.prediction ∷ [])) (right_after np nq w room A B F taken p r h e) rest)
      (clashes p taken) refl

  -- offered to no marks at all
  pub all_offered : (ps : List Pair) → All (Inside np nq) ps
      → Taken (np + nq) w (offers_of np (np + nq) (taking 0 (replicate (np + nq) 0 ++ drop (np + nq) w)) ps) (length (assigned [] ps)) (flat (assigned [] ps))
  unfolding spots predictions
  all_offered ps h =
      let A : List ℕ = replicate np 0 in
      let B : List ℕ = replicate nq 0 in
      let r : Right np nq A B [] [] = record {
        spots_long = length-replicate np 0;
        predictions_long = length-replicate nq 0;
        matches_long = refl;
        spots_marked = none_marked np;
        predictions_marked = none_marked nq;
      } in
      let no_match : np + nq + 2 * 0 ≡ np + nq = omega arith in
      let e : held np nq w A B [] 0 ≡ replicate (np + nq) 0 ++ drop (np + nq) w =
      rw (append-nil B, replicate-append-replicate {A = ℕ} np nq 0, no_match) in
      let z : 0 + length (assigned [] ps) ≡ length (assigned [] ps) = omega arith in
      rw (e, z) at (run ps [] A B [] r h)

-- ---- pairs that stand in a list of indices

-- what is offered from the list of indices is what the two lists hold together
pub offers_laid : (np marked : ℕ) (d : List Float) (ix : List ℕ) (k i : ℕ) (s : Taking) → i + k ≤ length d → 2 * (i + k) ≤ length ix
    → offers np marked ix i k s ≡ offers_of np marked s (slice i (i + k) (laid d ix))
unfolding offers offers_of
offers_laid np marked d ix zero i s h q =
    let e : i + 0 ≡ i = omega arith in
    rw (e, slice_empty i (laid d ix))
offers_laid np marked d ix (suc k) i s h q =
    let e : i + suc k ≡ suc i + k = omega arith in
    let long = laid_long d ix (i + suc k) h q in
    rw (slice-cons i (i + suc k) (laid d ix) nothing (omega arith) long, laid_get d ix i (omega arith) (omega arith), e)
    (offers_laid np marked d ix k (suc i) _ (omega arith) (omega arith))
