-- The matcher has at most one match for each spot within the limit. Assumes nothing.
use Rattle.std.proofs.Common.{◌≡◌, ℕ, zero, suc, ◌*◌, ◌/◌, ◌<◌, ◌≤◌, Bool, true, false, cond, ◌||◌, eqb, List, [], ◌∷◌, length, refl, ap, ◌∙◌, not-suc-le-zero, arith, eqb-true}
use borrow.Author.Tests.{eqb-false}
use lib.Ieee.{Float}
use Rattle.pairs.specs.Pairs.{Pair, pairs_from, pairs, spots_within}
use Rattle.matching.specs.Merge.{not_after, merged}
use Rattle.matching.specs.Greedy.{Match, clashes, assigned, matches_of}
use Rattle.pairs.specs.Elements.{All, none, more}
use Rattle.pairs.specs.Candidates.{Inside}
use Rattle.matching.proofs.Merging.{all_merged}
use Rattle.pairs.proofs.Pushing.{pairs_inside}
use Rattle.query.specs.Query.{Prediction}
use Rattle.wcs_refine.specs.Associate.{renamed}

-- whether a match has a spot
has : ℕ → List Match → Bool
has i [] = false
has i (m ∷ ms) = eqb i m.spot || has i ms

-- how many of the first n spots no match has
free : List Match → ℕ → ℕ
free ms zero = 0
free ms (suc n) = cond (has n ms) (free ms n) (suc (free ms n))

free_none : (n : ℕ) → free [] n ≡ n
unfolding free has
free_none zero = refl
free_none (suc n) = ap suc (free_none n)

spot_free : (p : Pair) (ms : List Match) → clashes p ms ≡ false → has p.spot ms ≡ false
unfolding clashes has
spot_free p [] h = refl
spot_free p (m ∷ ms) h = by (eqb p.spot m.spot) (eqb p.prediction m.prediction) (clashes p ms) (has p.spot ms) (spot_free p ms) h
  where
    by : (a b c d : Bool) → (c ≡ false → d ≡ false) → a || b || c ≡ false → a || d ≡ false
    by true b c d f h = h
    by false true c d f h = cc
    by false false c d f h = f h

no_more : (m : Match) (ms : List Match) (n : ℕ) → free (m ∷ ms) n ≤ free ms n
unfolding free has
no_more m ms zero = omega arith
no_more m ms (suc n) = by (eqb n m.spot) (has n ms) (free (m ∷ ms) n) (free ms n) (no_more m ms n)
  where
    by : (a b : Bool) (x y : ℕ) → x ≤ y → cond (a || b) x (suc x) ≤ cond b y (suc y)
    by true true x y h = h
    by true false x y h = omega arith
    by false true x y h = h
    by false false x y h = omega arith

one_less : (m : Match) (ms : List Match) (n : ℕ) → m.spot < n → has m.spot ms ≡ false → free (m ∷ ms) n < free ms n
unfolding free has
one_less m ms zero h e = absurd (not-suc-le-zero h)
one_less m ms (suc n) h e = by (eqb n m.spot) refl (λ less. one_less m ms n less e)
  where
    other : (b : Bool) (x y : ℕ) → x < y → cond b x (suc x) < cond b y (suc y)
    other true x y l = l
    other false x y l = omega arith

    by : (a : Bool) → eqb n m.spot ≡ a → (m.spot < n → free (m ∷ ms) n < free ms n)
        → cond (eqb n m.spot || has n ms) (free (m ∷ ms) n) (suc (free (m ∷ ms) n)) < cond (has n ms) (free ms n) (suc (free ms n))
    by true q then =
        let f : has n ms ≡ false = ap (λ (i : ℕ). has i ms) (eqb-true n m.spot q) ∙ e in
        rw (q, f) (omega (arith, no_more m ms n))
    by false q then =
        let less : m.spot < n = omega (arith, eqb-false n m.spot q, h) in
        rw q (other (has n ms) (free (m ∷ ms) n) (free ms n) (then less))

module _ (np nq : ℕ) where
  abbrev match_of : Pair → Match
  match_of p = record { spot = p.spot; prediction = p.prediction }

  few_step : (p : Pair) (ps : List Pair) (taken : List Match) → p.spot < np → length (assigned taken ps) ≤ free taken np
      → length (assigned (match_of p ∷ taken) ps) ≤ free (match_of p ∷ taken) np → (b : Bool) → clashes p taken ≡ b → length (assigned taken (p ∷ ps)) ≤ free taken np
  unfolding assigned
  few_step p ps taken h one two true e = rw e one
  few_step p ps taken h one two false e = rw e (omega (arith, two, one_less (match_of p) taken np h (spot_free p taken e)))

  few_assigned : (ps : List Pair) (taken : List Match) → All (Inside np nq) ps → length (assigned taken ps) ≤ free taken np
  unfolding assigned
  few_assigned l taken none = omega arith
  few_assigned l taken (more p ps h rest) =
      few_step p ps taken h.0 (few_assigned ps taken rest) (few_assigned ps (match_of p ∷ taken) rest) (clashes p taken) refl

pub few_matches : (points : List Float) (limit : ℕ) (predicted : List Float) (r2 : Float) → length (matches_of points limit predicted r2) ≤ spots_within points limit
unfolding matches_of pairs
few_matches points limit predicted r2 =
    let np = spots_within points limit in
    let nq = length predicted / 2 in
    let ps = pairs_from r2 points predicted 0 np in
    let inside : All (Inside np nq) (merged not_after ps) = all_merged not_after (Inside np nq) ps (pairs_inside np r2 points predicted np 0 (omega arith)) in
    omega (arith, few_assigned np nq (merged not_after ps) [] inside, free_none np)

pub length_renamed : (qs : List Prediction) (ms : List Match) → length (renamed qs ms) ≡ 2 * length ms
unfolding renamed
length_renamed qs [] = refl
length_renamed qs (m ∷ ms) = omega (arith, length_renamed qs ms)
