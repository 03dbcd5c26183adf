-- The assignment, and `greedy_unique_matches` (solver/matching.rs) whole, with what it leaves in the lent lists. Definitions only. Assumes nothing.
use Rattle.std.specs.Prelude.{ℕ, ◌+◌, ◌*◌, ◌/◌, min, Bool, false, cond, ◌||◌, List, [], ◌∷◌, ◌++◌, ltb, eqb, length, drop, replicate, Result, Ok, Err, Float}
use Rattle.rounding.specs.Arith.{zero64}
use Rattle.pairs.specs.Pairs.{Pair, pairs, spots_within}
use Rattle.pairs.specs.Candidates.{capacity}
use Rattle.pairs.specs.Strips.{strip_room}
use Rattle.matching.specs.Merge.{not_after, merged}
use Rattle.matching.specs.Comparisons.{comparisons}
use Rattle.refusal.specs.declared.Refusal.{Refusal}
use Rattle.refusal.specs.declared.Refusal.TheVariants.{ManyPairs, ShortList}

-- A spot and the place of its prediction.
pub record Match : Type 0 where
  pub spot : ℕ
  pub prediction : ℕ

-- Whether a pair shares its spot or its prediction with a match that was taken before.
unfoldable pub clashes : Pair → List Match → Bool
clashes p [] = false
clashes p (m ∷ ms) = eqb p.spot m.spot || eqb p.prediction m.prediction || clashes p ms

-- 01: "At most one match for each spot and each prediction." Pairs are offered in order; `taken` are the matches so far.
unfoldable pub assigned : List Match → List Pair → List Match
unfolding clashes
assigned taken [] = []
assigned taken (p ∷ ps) =
    let m : Match = record { spot = p.spot; prediction = p.prediction } in
    cond (clashes p taken) (assigned taken ps) (m ∷ assigned (m ∷ taken) ps)

-- The matches of a round, in the order in which they are taken: the Rust's `matches`, with a prediction by its place.
unfoldable pub matches_of : List Float → ℕ → List Float → Float → List Match
unfolding assigned merged not_after pairs
matches_of points limit predicted r2 = assigned [] (merged not_after (pairs points limit predicted r2))

-- ---- the lent lists

-- Matches laid flat, spot then prediction.
unfoldable pub flat : List Match → List ℕ
flat [] = []
flat (m ∷ ms) = m.spot ∷ m.prediction ∷ flat ms

-- The first n places of a list of floats are zero, the others as they were;
abbrev pub cleared : ℕ → List Float → List Float
cleared n l = replicate n zero64 ++ drop n l

-- so of a list of whole numbers.
abbrev pub cleared_n : ℕ → List ℕ → List ℕ
cleared_n n l = replicate n 0 ++ drop n l

-- The Rust's `used_point` and `used_pred`: a mark for each spot within the limit and for each prediction.
abbrev pub marks : List Float → ℕ → List Float → ℕ
marks points limit predicted = spots_within points limit + length predicted / 2

-- The places of `work` that a call needs: the marks, and two for each match.
abbrev pub needed : List Float → ℕ → List Float → ℕ
needed points limit predicted = marks points limit predicted + 2 * min (spots_within points limit) (length predicted / 2)

-- What a call answers, how often it compared two pairs to put them in order (02, CR 14), and what the lists written to hold afterwards.
pub record Outcome : Type 0 where
  pub answer : Result ℕ Refusal
  pub comparisons : ℕ
  pub distances : List Float
  pub indices : List ℕ
  pub work : List ℕ

-- The pairs that fit are assigned: the matches stand in `work` after the marks, which are left zero, as are the places that held pairs.
unfoldable pub placed : ℕ → ℕ → ℕ → List Match → List Float → List ℕ → List ℕ → Outcome
unfolding flat
placed marked count compared ms distances indices work = record {
  answer = Ok (length ms);
  comparisons = compared;
  distances = cleared (2 * count) distances;
  indices = cleared_n (4 * count) indices;
  work = replicate marked 0 ++ flat ms ++ drop (marked + 2 * length ms) work;
}

-- More pairs than the lists hold: nothing is ordered or matched, and the places that held pairs are left zero.
unfoldable pub overfull : List Float → List ℕ → List ℕ → Outcome
overfull distances indices work = record {
  answer = Err ManyPairs;
  comparisons = 0;
  distances = cleared (capacity distances indices) distances;
  indices = cleared_n (2 * capacity distances indices) indices;
  work = work;
}

-- `greedy_unique_matches` whole, with its lists lent. A `work` list that is too short is answered first, and nothing is written.
unfoldable pub greedy_unique_matches : List Float → ℕ → List Float → Float → List Float → List ℕ → List ℕ → Outcome
unfolding pairs matches_of placed overfull comparisons not_after
greedy_unique_matches points limit predicted r2 distances indices work =
    cond (ltb (length work) (needed points limit predicted))
    (record { answer = Err ShortList; comparisons = 0; distances = distances; indices = indices; work = work })
    (cond (ltb (capacity distances indices) (length (pairs points limit predicted r2)))
    (overfull distances indices work)
    (placed (marks points limit predicted) (length (pairs points limit predicted r2))
    (comparisons not_after (pairs points limit predicted r2))
    (matches_of points limit predicted r2) distances indices work))

-- ---- with room for strips

-- The same answer, with lent room in front of the marks where the spots are sorted into strips; it is left zero.
unfoldable pub greedy_by_strips : List Float → ℕ → List Float → Float → List Float → List ℕ → List ℕ → Outcome
unfolding greedy_unique_matches
greedy_by_strips points limit predicted r2 distances indices work =
    cond (ltb (length work) (strip_room points limit + needed points limit predicted))
    (record { answer = Err ShortList; comparisons = 0; distances = distances; indices = indices; work = work })
    (behind (greedy_unique_matches points limit predicted r2 distances indices (drop (strip_room points limit) work)))
  where
    behind : Outcome → Outcome
    behind o = record {
      answer = o.answer;
      comparisons = o.comparisons;
      distances = o.distances;
      indices = o.indices;
      work = replicate (strip_room points limit) 0 ++ o.work;
    }
