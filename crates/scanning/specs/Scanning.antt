-- The matcher without a candidate list (02, CR 7), with what it leaves in its lent list. Definitions only. Assumes nothing.
use Rattle.std.specs.Prelude.{ℕ, zero, suc, ◌+◌, ◌*◌, cond, List, [], ◌∷◌, ◌++◌, length, drop, replicate, nat_lt, Option, Some, None, Result, Ok, Err, Float}
use Rattle.pairs.specs.Pairs.{Pair}
use Rattle.matching.specs.Merge.{not_after}
use Rattle.matching.specs.Greedy.{Match, clashes, matches_of, flat, marks, needed}
use Rattle.refusal.specs.declared.Refusal.{Refusal}
use Rattle.refusal.specs.declared.Refusal.TheVariants.{ShortList}

-- ---- scanning

-- Of a pair and the closest of those behind it, the one that comes first "by the same order" as in the listed matcher.
unfoldable pub closer : Pair → Option Pair → Option Pair
unfolding not_after
closer p None = Some p
closer p (Some q) = cond (not_after p q) (Some p) (Some q)

-- "takes the closest free in-radius pair by the same order": of the pairs within the radius, the first that shares nothing with what was taken.
unfoldable pub closest : List Match → List Pair → Option Pair
unfolding clashes closer
closest taken [] = None
closest taken (p ∷ ps) = cond (clashes p taken) (closest taken ps) (closer p (closest taken ps))

-- What follows a scan: where it found a pair, that pair is taken and the rest goes on from it.
unfoldable pub taking : Option Pair → (Match → List Match) → List Match
taking None f = []
taking (Some p) f = let m : Match = record { spot = p.spot; prediction = p.prediction } in m ∷ f m

-- "goes over spots and predictions again for each match": for at most k matches, beside those that were taken.
unfoldable pub scanned : ℕ → List Match → List Pair → List Match
unfolding closest taking
scanned zero taken ps = []
scanned (suc k) taken ps = taking (closest taken ps) (λ m. scanned k (m ∷ taken) ps)

-- ---- the lent list

-- What a call answers, and what the list written to holds afterwards.
pub record Scan : Type 0 where
  pub answer : Result ℕ Refusal
  pub work : List ℕ

-- The matcher whole, with its list lent: "It gives the same matches in the same sequence as the listed matcher", which stand after the marks; these
-- are left zero. It "needs only the marks of what is used", and the places of the matches; a list that is too short is answered first, and nothing
-- is written. It never gives 13.
unfoldable pub greedy_by_scanning : List Float → ℕ → List Float → Float → List ℕ → Scan
unfolding matches_of flat
greedy_by_scanning points limit predicted r2 work =
    let ms = matches_of points limit predicted r2 in
    let marked = marks points limit predicted in
    cond (nat_lt (length work) (needed points limit predicted))
    (record { answer = Err ShortList; work = work })
    (record {
      answer = Ok (length ms);
      work = replicate marked 0 ++ flat ms ++ drop (marked + 2 * length ms) work;
    })
