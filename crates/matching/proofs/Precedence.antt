-- The order of the page `specs/Meaning.antt` against the tests of the matcher: `Earlier` is `not_after` between two pairs that are not one. Assumes nothing.
use Rattle.std.proofs.Common.{◌≡◌, ◌⊎◌, Bool, true, T, List, [], ◌∷◌, inl, inr, ⊎_elim, sym, ap₂, subst, ◌∙◌, arith}
use Rattle.std.proofs.lemmas.Bool.{or_cases, and_parts, or_left, or_right}
use borrow.Author.Tests.{ltb-true, lt-ltb, eqb-true, eq-eqb, leb-true, le-leb}
use lib.Dec.{ltb, eqb}
use lib.Ieee.{lt, eq, le}
use Rattle.pairs.specs.Elements.{All, none, more}
use Rattle.pairs.specs.Pairs.{Pair, pairs_from, pairs}
use Rattle.matching.specs.Merge.{not_after}
use Rattle.matching.specs.Greedy.{Match}
use Rattle.matching.specs.Ordered.{InOrder, Measured}
use Rattle.matching.specs.Meaning.{Frame, apart, Near, Earlier}
use Rattle.lists.proofs.Cases.{below_or}
use Rattle.pairs.proofs.Elements.{all_head, all_tail}
use Rattle.pairs.proofs.Monotone.{clash as lt_clash, lt_le}
use Rattle.pairs.proofs.Rearranged.{candidates}
use Rattle.matching.proofs.Merging.{order_head, order_tail, merged_ordered}
use Rattle.matching.proofs.Unique.{before_all}
use Rattle.matching.proofs.Theorems.{pairs_total, pairs_apart, at_most, candidates_total}
use Rattle.matching.proofs.Members.{Chain}
use Rattle.matching.proofs.Sharing.{match_of, mapped}
use Rattle.matching.proofs.Nearness.{count, pair_of, in_order, Good, all_good}

holds : {b : Bool} → b ≡ true → T b
holds h = subst T (sym h) tt

pub same_match : (m n : Match) → m.spot ≡ n.spot → m.prediction ≡ n.prediction → m ≡ n
same_match m n e f = λ i. record { spot = e i; prediction = f i }

module _ (f : Frame) where
  abbrev pub NotAfter : Match → Match → Type 0
  NotAfter m n = not_after (pair_of f m) (pair_of f n) ≡ true

  pub earlier_not_after : (m n : Match) → Earlier f m n → NotAfter m n
  unfolding not_after
  earlier_not_after m n (inl h) = or_left _ _ h
  earlier_not_after m n (inr h) =
      or_right (lt (apart f m) (apart f n)) _
      (rw h.0
      (⊎_elim (λ u. or_left _ _ (lt-ltb m.spot n.spot u))
      (λ u. or_right (ltb m.spot n.spot) _ (rw (eq-eqb m.spot n.spot u.0) (le-leb m.prediction n.prediction (omega (arith, u.1)))))
      h.1))

  -- nothing is earlier than itself, nor than what it is not after
  pub never : (m : Match) → Earlier f m m → ⊥
  never m (inl h) = let d = apart f m in lt_clash d d (holds h) (lt_le d d (holds h))
  never m (inr (e, inl h)) = omega arith
  never m (inr (e, inr h)) = omega (arith, h.1)

  pub against : (m n : Match) → NotAfter m n → Earlier f n m → ⊥
  against m n h k =
      let e = pairs_apart (pair_of f m) (pair_of f n) h (earlier_not_after n m k) in
      never n (subst (λ (z : Match). Earlier f n z) (same_match m n e.0 e.1) k)

  pub asym : (m n : Match) → Earlier f m n → Earlier f n m → ⊥
  asym m n h k = against m n (earlier_not_after m n h) k

  pub strict : (m n : Match) → NotAfter m n → (m ≡ n) ⊎ Earlier f m n
  unfolding not_after
  strict m n h =
      ⊎_elim (λ u. inr (inl u))
      (λ u.
      let v = and_parts (eq (apart f m) (apart f n)) _ u in
      ⊎_elim (λ w. inr (inr (v.0, inl (ltb-true m.spot n.spot w))))
      (λ w.
      let x = and_parts (eqb m.spot n.spot) _ w in
      let s = eqb-true m.spot n.spot x.0 in
      let q = leb-true m.prediction n.prediction x.1 in
      ⊎_elim (λ y. inr (inr (v.0, inr (s, y)))) (λ y. inl (same_match m n s (omega arith))) (below_or m.prediction n.prediction))
      (or_cases (ltb m.spot n.spot) _ v.1))
      (or_cases (lt (apart f m) (apart f n)) _ h)

  pub near_measured : (m : Match) → Near f m → Measured (pair_of f m)
  near_measured m h = at_most (apart f m) f.radius_sq h.distance

  pub through : (x y z : Match) → Near f x → Near f y → Near f z → Earlier f x y → Earlier f y z → Earlier f x z
  through x y z a b c h k =
      let l =
      pairs_total.through (pair_of f x) (pair_of f y) (pair_of f z) (near_measured x a) (near_measured y b) (near_measured z c)
      (earlier_not_after x y h) (earlier_not_after y z k)
      in
      ⊎_elim (λ (e : x ≡ z). absurd (against x y (earlier_not_after x y h) (subst (λ (w : Match). Earlier f y w) (sym e) k))) (λ s. s) (strict x z l)

  pub rising_of : (m n : Match) → Earlier f m n → le (apart f m) (apart f n) ≡ true
  unfolding le
  rising_of m n (inl h) = or_left _ _ h
  rising_of m n (inr h) = or_right (lt (apart f m) (apart f n)) _ h.0

  -- ---- the pairs in order are a chain of matches

  pub good_pair : (p : Pair) → Good f p → p ≡ pair_of f (match_of p)
  unfolding match_of
  good_pair p g = λ i. record { d2 = g.distance i; spot = p.spot; prediction = p.prediction }

  chain_of : (ps : List Pair) → InOrder not_after ps → All (Good f) ps → Chain NotAfter (mapped ps)
  unfolding Chain mapped
  chain_of [] o g = tt
  chain_of (p ∷ ps) o g =
      let total = candidates_total (count f) f.points f.predicted f.radius_sq in
      let h = before_all not_after (Good f) total p ps (all_head (Good f) g) (order_head not_after o) (order_tail not_after o) (all_tail (Good f) g) in
      (next p ps (all_head (Good f) g) h (all_tail (Good f) g), chain_of ps (order_tail not_after o) (all_tail (Good f) g))
    where
      next : (p : Pair) (qs : List Pair) → Good f p → All (λ (q : Pair). not_after p q ≡ true) qs → All (Good f) qs → All (NotAfter (match_of p)) (mapped qs)
      next p [] u h k = none
      next p (q ∷ qs) u h k =
          more (match_of q) (mapped qs)
          (ap₂ not_after (sym (good_pair p u)) (sym (good_pair q (all_head (Good f) k))) ∙ all_head _ h)
          (next p qs u (all_tail _ h) (all_tail (Good f) k))

  pub pairs_chain : Chain NotAfter (mapped (in_order f))
  unfolding pairs
  pairs_chain =
      chain_of (in_order f)
      (merged_ordered not_after (Good f) (candidates_total (count f) f.points f.predicted f.radius_sq) (pairs_from f.radius_sq f.points f.predicted 0 (count f))
      (candidates (count f) f.points f.predicted f.radius_sq))
      (all_good f)
