-- Matches name only spots with P and directions with Q, and cached directions have Q: what each phase keeps of these, or makes from them, is so again.
-- Assumes nothing.
use Rattle.stats.specs.declared.MedianSigma.{MedianSigma}
use Rattle.std.specs.Prelude.{Option, Some, None}
use Rattle.std.proofs.Common.{◌≡◌, ℕ, zero, suc, ◌+◌, ◌*◌, ◌/◌, ◌<◌, ◌≤◌, Bool, ◌&&◌, ltb, leb, List, [], ◌∷◌, ◌++◌, length, get_or, drop, sym, refl, subst, arith, take_at}
use lib.Ieee.{Float, nan, le}
use Rattle.pairs.specs.Pairs.{Pair, Point, point_at, squared, within, pairs_of, pairs_from, pairs, spots_within}
use Rattle.matching.specs.Merge.{not_after, into, merge, merge_neighbours, merge_runs, singles, merged}
use Rattle.matching.specs.Greedy.{Match, clashes, assigned, matches_of}
use Rattle.residuals.specs.Residual.{keeps, kept_from, threshold_of, kept, Clipped, mad_clip_matches}
use Rattle.fit.specs.Rows.{direction_at}
use Rattle.entry.specs.Fixed.{Fixed, prune_r, keep_r}
use Rattle.wcs_refine.specs.Clip.{taken, clipped}
use Rattle.query.specs.Query.{Prediction, predicted, reaches, predictions, pruned}
use Rattle.wcs_refine.specs.Associate.{Link, links, laid, direction_of, renamed}
use Rattle.wcs_refine.proofs.Along.{All, ++-all, either}

-- ---- merging
module _ {A : Type 0} (P : A → Type 0) (le : A → A → Bool) where
  into_all : (x : A) (f : List A → List A) (ys : List A) → P x → ((zs : List A) → All P zs → All P (f zs)) → All P ys → All P (into le x f ys)
  unfolding into
  into_all x f [] h g k = (h, g [] tt)
  into_all x f (y ∷ ys) h g k = either (All P) (le x y) (x ∷ f (y ∷ ys)) (y ∷ into le x f ys) (h, g (y ∷ ys) k) (k.0, into_all x f ys h g k.1)

  merge_all : (xs ys : List A) → All P xs → All P ys → All P (merge le xs ys)
  unfolding merge
  merge_all [] ys h k = k
  merge_all (x ∷ xs) ys h k = into_all x (merge le xs) ys h.0 (λ zs l. merge_all xs zs h.1 l) k

  neighbours_all : (rs : List (List A)) → All (All P) rs → All (All P) (merge_neighbours le rs)
  unfolding merge_neighbours
  neighbours_all [] h = tt
  neighbours_all (r ∷ []) h = h
  neighbours_all (r ∷ s ∷ rs) h = (merge_all r s h.0 h.1.0, neighbours_all rs h.1.1)

  runs_all : (k : ℕ) (rs : List (List A)) → All (All P) rs → All P (merge_runs le k rs)
  unfolding merge_runs
  runs_all zero [] h = tt
  runs_all zero (r ∷ rs) h = h.0
  runs_all (suc k) [] h = tt
  runs_all (suc k) (r ∷ []) h = h.0
  runs_all (suc k) (r ∷ s ∷ rs) h = runs_all k (merge_neighbours le (r ∷ s ∷ rs)) (neighbours_all (r ∷ s ∷ rs) h)

  singles_all : (xs : List A) → All P xs → All (All P) (singles xs)
  unfolding singles
  singles_all [] h = tt
  singles_all (x ∷ xs) h = ((h.0, tt), singles_all xs h.1)

  merged_all : (xs : List A) → All P xs → All P (merged le xs)
  unfolding merged
  merged_all xs h = runs_all (length xs) (singles xs) (singles_all xs h)

-- ---- the matcher: spots have P, places of predictions R
module _ (P R : ℕ → Type 0) where
  abbrev OfPair : Pair → Type 0
  OfPair p = P p.spot × R p.prediction

  abbrev OfMatch : Match → Type 0
  OfMatch m = P m.spot × R m.prediction

  pairs_of_all : (r2 : Float) (ps : List Float) (i : ℕ) (c : Point) (j k : ℕ) → P i → ((n : ℕ) → n < j + k → R n) → All OfPair (pairs_of r2 ps i c j k)
  unfolding pairs_of within
  pairs_of_all r2 ps i c j zero h g = tt
  pairs_of_all r2 ps i c j (suc k) h g =
      let t = pairs_of_all r2 ps i c (suc j) k h (λ n l. g n (omega arith)) in
      let p : Pair = record { d2 = squared c (point_at ps j); spot = i; prediction = j } in
      let ps' = pairs_of r2 ps i c (suc j) k in
      either (All OfPair) (le p.d2 r2) (p ∷ ps') ps' ((h, g j (omega arith)), t) t

  pairs_from_all : (r2 : Float) (points ps : List Float) (i k : ℕ) → ((n : ℕ) → n < i + k → P n) → ((n : ℕ) → n < length ps / 2 → R n) → All OfPair (pairs_from r2 points ps i k)
  unfolding pairs_from
  pairs_from_all r2 points ps i zero h g = tt
  pairs_from_all r2 points ps i (suc k) h g =
      ++-all OfPair (pairs_of r2 ps i (point_at points i) 0 (length ps / 2)) (pairs_from r2 points ps (suc i) k)
      (pairs_of_all r2 ps i (point_at points i) 0 (length ps / 2) (h i (omega arith)) (λ n l. g n (omega arith)))
      (pairs_from_all r2 points ps (suc i) k (λ n l. h n (omega arith)) g)

  assigned_all : (ms : List Match) (ps : List Pair) → All OfPair ps → All OfMatch (assigned ms ps)
  unfolding assigned
  assigned_all ms [] h = tt
  assigned_all ms (p ∷ ps) h =
      let m : Match = record { spot = p.spot; prediction = p.prediction } in
      either (All OfMatch) (clashes p ms) (assigned ms ps) (m ∷ assigned (m ∷ ms) ps) (assigned_all ms ps h.1) (h.0, assigned_all (m ∷ ms) ps h.1)

  pub matches_all : (points : List Float) (limit : ℕ) (ps : List Float) (r2 : Float) → ((n : ℕ) → n < spots_within points limit → P n) → ((n : ℕ) → n < length ps / 2 → R n)
      → All OfMatch (matches_of points limit ps r2)
  unfolding matches_of pairs
  matches_all points limit ps r2 h g =
      let l = pairs_from r2 points ps 0 (spots_within points limit) in
      assigned_all [] (merged not_after l) (merged_all OfPair not_after l (pairs_from_all r2 points ps 0 (spots_within points limit) (λ n l. h n (omega arith)) g))

-- ---- predictions and matches
pub laid_length : (qs : List Prediction) → length (laid qs) / 2 ≡ length qs
unfolding laid
laid_length [] = refl
laid_length (q ∷ qs) = omega (arith, laid_length qs)

even : (t : Float) (rs : List Float) (ms : List ℕ) (k n : ℕ) → (h : ℕ) × (length (kept_from t rs ms k n) ≡ h + h)
unfolding kept_from
even t rs ms k zero = (0, refl)
even t rs ms k (suc n) =
    let e = even t rs ms (suc k) n in
    either (λ (l : List ℕ). (h : ℕ) × (length l ≡ h + h)) (keeps t (get_or rs k nan)) _ _ (suc e.0, omega (arith, e.1)) e

module _ (P Q : ℕ → Type 0) where
  abbrev pub Both : Link → Type 0
  Both m = P m.spot × Q m.direction

  abbrev pub Predicts : Prediction → Type 0
  Predicts q = Q q.direction

  -- the match at a place of a flat list
  pub match_at : (ms : List ℕ) → All Both (links ms) → (k : ℕ) → k < length ms / 2 → P (get_or ms (2 * k) 0) × Q (get_or ms (2 * k + 1) 0)
  unfolding links
  match_at [] h k l = absurd (omega arith)
  match_at (s ∷ []) h k l = absurd (omega arith)
  match_at (s ∷ d ∷ ms) h zero l = h.0
  match_at (s ∷ d ∷ ms) h (suc k) l =
      let r = match_at ms h.1 k (omega arith) in
      let e : suc (suc (2 * k)) ≡ 2 * suc k = omega arith in
      let g : suc (suc (2 * k + 1)) ≡ 2 * suc k + 1 = omega arith in
      (subst (λ (n : ℕ). P (get_or (s ∷ d ∷ ms) n 0)) e r.0, subst (λ (n : ℕ). Q (get_or (s ∷ d ∷ ms) n 0)) g r.1)

  direction_at_lem : (qs : List Prediction) → All Predicts qs → (n : ℕ) → n < length qs → Q (direction_of qs n)
  unfolding direction_of
  direction_at_lem [] h n l = absurd (omega arith)
  direction_at_lem (q ∷ qs) h zero l = h.0
  direction_at_lem (q ∷ qs) h (suc n) l = direction_at_lem qs h.1 n (omega arith)

  renamed_all : (qs : List Prediction) (ms : List Match) → All (λ (m : Match). P m.spot × Q (direction_of qs m.prediction)) ms → All Both (links (renamed qs ms))
  unfolding renamed links
  renamed_all qs [] h = tt
  renamed_all qs (m ∷ ms) h = (h.0, renamed_all qs ms h.1)

  -- the matches that a round finds
  pub found_all : (points : List Float) (limit : ℕ) (qs : List Prediction) (r2 : Float) → ((n : ℕ) → n < spots_within points limit → P n) → All Predicts qs
      → All Both (links (renamed qs (matches_of points limit (laid qs) r2)))
  found_all points limit qs r2 h g =
      renamed_all qs (matches_of points limit (laid qs) r2)
      (matches_all P (λ n. Q (direction_of qs n)) points limit (laid qs) r2 h (λ n l. direction_at_lem qs g n (omega (arith, laid_length qs))))

  -- the matches that a clip leaves
  kept_from_all : (t : Float) (rs : List Float) (ms : List ℕ) → All Both (links ms) → (k n : ℕ) → k + n ≤ length ms / 2 → All Both (links (kept_from t rs ms k n))
  unfolding kept_from links
  kept_from_all t rs ms h k zero l = tt
  kept_from_all t rs ms h k (suc n) l =
      let r = kept_from_all t rs ms h (suc k) n (omega arith) in
      either (λ (l : List ℕ). All Both (links l)) (keeps t (get_or rs k nan)) _ (kept_from t rs ms (suc k) n) (match_at ms h k (omega arith), r) r

  pub clip_all : (rs : List Float) (ms : List ℕ) (m s : Float) → All Both (links ms) → let c = mad_clip_matches rs ms m s in All Both (links (taken c.answer ms c.matches))
  unfolding mad_clip_matches kept taken
  clip_all rs ms m s h =
      let ks = kept_from (threshold_of m s) rs ms 0 (length ms / 2) in
      either (λ (c : Clipped). All Both (links (taken c.answer ms c.matches))) (ltb (length ks / 2) (length ms / 2) && leb 4 (length ks / 2))
      (record { answer = Some (length ks / 2); matches = ks ++ drop (length ks) ms }) (record { answer = None; matches = ms })
      (let e = even (threshold_of m s) rs ms 0 (length ms / 2) in
      subst (λ (l : List ℕ). All Both (links l)) (sym (take_at ks (drop (length ks) ms) (length ks / 2 + length ks / 2) (omega (arith, e.1))))
      (kept_from_all (threshold_of m s) rs ms h 0 (length ms / 2) (omega arith)))
      h

  pub clipped_all : (rs : List Float) (t : Option MedianSigma) (ms : List ℕ) → All Both (links ms) → All Both (links (clipped rs t ms))
  unfolding clipped
  clipped_all rs None ms h = h
  clipped_all rs (Some t) ms h = clip_all rs ms t.median t.sigma h

  -- the directions that a query's predictions name, and those that it leaves cached
  module _ (k : Fixed) (directions : List Float) (rows : List (List Float)) where
    pub predictions_all : (l : List ℕ) → All Q l → All Predicts (predictions k directions rows l)
    unfolding predictions predicted
    predictions_all [] h = tt
    predictions_all (j ∷ js) h =
        let t = predictions_all js h.1 in
        let v = direction_at directions j in
        let q = predicted k rows j v in
        either (All Predicts) (reaches k rows v (prune_r k) q) (q ∷ predictions k directions rows js) (predictions k directions rows js) (h.0, t) t

    pub pruned_all : (l : List ℕ) → All Q l → All Q (pruned k directions rows l)
    unfolding pruned
    pruned_all [] h = tt
    pruned_all (j ∷ js) h =
        let t = pruned_all js h.1 in
        let v = direction_at directions j in
        either (All Q) (reaches k rows v (keep_r k) (predicted k rows j v)) (j ∷ pruned k directions rows js) (pruned k directions rows js) (h.0, t) t
