-- The pairs within the radius are those that are found, also once they are put in order. Assumes nothing.
use Rattle.std.proofs.Common.{◌≡◌, ℕ, zero, suc, ◌+◌, ◌/◌, ◌<◌, ◌≤◌, Bool, true, false, ◌&&◌, List, [], ◌∷◌, ◌++◌, length, inl, inr, refl, sym, ap, subst, ◌∙◌, arith}
use Rattle.std.proofs.lemmas.Bool.{and_parts}
use borrow.Author.Tests.{eqb-true, eqb-false, eq-eqb}
use lib.Dec.{eqb}
use lib.Ieee.{le}
use Rattle.pairs.specs.Pairs.{Pair, point_at, squared, within, pairs_of, pairs_from, pairs, spots_within}
use Rattle.pairs.specs.Elements.{All, counted}
use Rattle.pairs.specs.Candidates.{pair}
use Rattle.pairs.specs.Strips.{Candidate}
use Rattle.matching.specs.Merge.{not_after, merged}
use Rattle.matching.specs.Greedy.{Match}
use Rattle.matching.specs.Meaning.{Frame, apart, Near}
use Rattle.lists.proofs.Cases.{either}
use Rattle.pairs.proofs.Rearranged.{candidates}
use Rattle.matching.proofs.Merging.{all_merged, counted_merged}
use Rattle.matching.proofs.Members.{Has, has_all, has_front, has_back}
use Rattle.matching.proofs.Sharing.{match_of, mapped, mapped_has, mapped_all}

-- ---- a pair that is there is there after merging, since merging keeps every count

same_pair : Match → Pair → Bool
same_pair m p = eqb p.spot m.spot && eqb p.prediction m.prediction

counts : (t : Pair → Bool) (ps : List Pair) (p : Pair) → Has p ps → t p ≡ true → 0 < counted t ps
unfolding counted Has
counts t [] p h e = absurd h
counts t (q ∷ ps) p (inl u) e = rw (ap t u ∙ e) (omega arith)
counts t (q ∷ ps) p (inr u) e = omega (arith, counts t ps p u e)

finds : (t : Pair → Bool) (ps : List Pair) → 0 < counted t ps → (p : Pair) × Has p ps × (t p ≡ true)
unfolding counted Has
finds t [] h = absurd (omega arith)
finds t (q ∷ ps) h = by (t q) refl (finds t ps)
  where
    by : (b : Bool) → t q ≡ b → (0 < counted t ps → (p : Pair) × Has p ps × (t p ≡ true)) → (p : Pair) × Has p (q ∷ ps) × (t p ≡ true)
    by true e rest = (q, inl refl, e)
    by false e rest = let r = rest (omega (arith, rw e at h)) in (r.0, inr r.1, r.2)

merged_has : (ps : List Pair) (p : Pair) → Has p ps → Has (match_of p) (mapped (merged not_after ps))
unfolding same_pair match_of
merged_has ps p h =
    let t = same_pair (match_of p) in
    let c : 0 < counted t (merged not_after ps) =
    rw (counted_merged not_after t ps) (counts t ps p h (rw (eq-eqb p.spot p.spot refl, eq-eqb p.prediction p.prediction refl))) in
    let f = finds t (merged not_after ps) c in
    let e = and_parts (eqb f.0.spot p.spot) _ f.2 in
    let m : match_of f.0 ≡ match_of p =
    λ i. record { spot = eqb-true f.0.spot p.spot e.0 i; prediction = eqb-true f.0.prediction p.prediction e.1 i } in
    subst (λ (z : Match). Has z (mapped (merged not_after ps))) m (mapped_has (merged not_after ps) f.0 f.1)

module _ (f : Frame) where
  abbrev pub count : ℕ
  count = spots_within f.points f.limit

  -- a match with its distance
  abbrev pub pair_of : Match → Pair
  pair_of m = pair (apart f m) m.spot m.prediction

  -- ---- what is near is found

  within_first : (p : Pair) (ps : List Pair) → le p.d2 f.radius_sq ≡ true → Has p (within f.radius_sq p ps)
  unfolding within Has
  within_first p ps h = rw h (inl refl)

  within_rest : (p q : Pair) (ps : List Pair) → Has q ps → Has q (within f.radius_sq p ps)
  unfolding within Has
  within_rest p q ps h = either (Has q) (le p.d2 f.radius_sq) (inr h) h

  of_has : (m : Match) → le (apart f m) f.radius_sq ≡ true → (j k : ℕ) → j ≤ m.prediction → m.prediction < j + k
      → Has (pair_of m) (pairs_of f.radius_sq f.predicted m.spot (point_at f.points m.spot) j k)
  unfolding pairs_of
  of_has m h j zero a b = absurd (omega arith)
  of_has m h j (suc k) a b = by (eqb j m.prediction) refl (of_has m h (suc j) k)
    where
      rest : List Pair
      rest = pairs_of f.radius_sq f.predicted m.spot (point_at f.points m.spot) (suc j) k

      here : ℕ → Pair
      here i = pair (squared (point_at f.points m.spot) (point_at f.predicted i)) m.spot i

      by : (b : Bool) → eqb j m.prediction ≡ b → (suc j ≤ m.prediction → m.prediction < suc j + k → Has (pair_of m) rest)
          → Has (pair_of m) (within f.radius_sq (here j) rest)
      by true e next =
          subst (λ (i : ℕ). Has (pair_of m) (within f.radius_sq (here i) rest)) (sym (eqb-true j m.prediction e)) (within_first (pair_of m) rest h)
      by false e next = let d = eqb-false j m.prediction e in within_rest (here j) (pair_of m) rest (next (omega arith) (omega arith))

  pub from_has : (m : Match) → le (apart f m) f.radius_sq ≡ true → m.prediction < length f.predicted / 2 → (i k : ℕ) → i ≤ m.spot → m.spot < i + k
      → Has (pair_of m) (pairs_from f.radius_sq f.points f.predicted i k)
  unfolding pairs_from
  from_has m h q i zero a b = absurd (omega arith)
  from_has m h q i (suc k) a b = by (eqb i m.spot) refl (from_has m h q (suc i) k)
    where
      first : ℕ → List Pair
      first i = pairs_of f.radius_sq f.predicted i (point_at f.points i) 0 (length f.predicted / 2)

      rest : List Pair
      rest = pairs_from f.radius_sq f.points f.predicted (suc i) k

      by : (b : Bool) → eqb i m.spot ≡ b → (suc i ≤ m.spot → m.spot < suc i + k → Has (pair_of m) rest) → Has (pair_of m) (first i ++ rest)
      by true e next =
          subst (λ (n : ℕ). Has (pair_of m) (first n ++ rest)) (sym (eqb-true i m.spot e))
          (has_front (pair_of m) (first m.spot) rest (of_has m h 0 (length f.predicted / 2) (omega arith) (omega arith)))
      by false e next = let d = eqb-false i m.spot e in has_back (pair_of m) (first i) rest (next (omega arith) (omega arith))

  -- ---- put in order

  abbrev pub in_order : List Pair
  in_order = merged not_after (pairs f.points f.limit f.predicted f.radius_sq)

  abbrev pub Good : Pair → Type 0
  Good = Candidate count f.points f.predicted f.radius_sq

  pub all_good : All Good in_order
  unfolding pairs
  all_good = all_merged not_after Good (pairs_from f.radius_sq f.points f.predicted 0 count) (candidates count f.points f.predicted f.radius_sq)

  pub near_there : (m : Match) → Near f m → Has m (mapped in_order)
  unfolding pairs match_of
  near_there m h =
      merged_has (pairs_from f.radius_sq f.points f.predicted 0 count) (pair_of m)
      (from_has m h.distance h.prediction 0 count (omega arith) (omega (arith, h.spot)))

  pub good_near : (p : Pair) → Good p → Near f (match_of p)
  unfolding match_of
  good_near p g = record { spot = g.spot; prediction = g.prediction; distance = rw (← g.distance) g.near }

  pub there_near : (m : Match) → Has m (mapped in_order) → Near f m
  there_near m h = has_all (Near f) (mapped in_order) (mapped_all Good (Near f) good_near in_order all_good) m h
