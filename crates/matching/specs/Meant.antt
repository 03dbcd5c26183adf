-- That the matcher's list is the one of `Meaning.antt`, and that its calls hand back that list; `proofs/Meaning.antt` and `proofs/Calls.antt`
-- prove each claim under the same name in small letters. Definitions only. Assumes nothing.
use Rattle.std.specs.Prelude.{◌≡◌, ℕ, ◌+◌, ◌*◌, List, length, take, drop, Ok, Float}
use Rattle.pairs.specs.Strips.{strip_room}
use Rattle.matching.specs.Greedy.{Match, matches_of, flat, marks, greedy_unique_matches, greedy_by_strips}
use Rattle.matching.specs.Meaning.{Frame, TheMatches}

-- 02, CR 9: "Prove of the matcher's list in each round ..".
abbrev pub MatcherMeant : Type 0
MatcherMeant = (f : Frame) → TheMatches f (matches_of f.points f.limit f.predicted f.radius_sq)

-- `work` holds n matches from a place on: they are the list, laid flat.
pub record HandedBack (f : Frame) (n from : ℕ) (work : List ℕ) : Type 0 where
  pub list : List Match
  pub the : TheMatches f list
  pub long : length list ≡ n
  pub stands : take (2 * n) (drop from work) ≡ flat list

-- "Save where 13 is given", or `work` is too short: a call that answers n matches leaves that list behind its marks,
abbrev pub CallMeant : Type 0
CallMeant = (f : Frame) (distances : List Float) (indices work : List ℕ) (n : ℕ) →
    let o = greedy_unique_matches f.points f.limit f.predicted f.radius_sq distances indices work in
    o.answer ≡ Ok n → HandedBack f n (marks f.points f.limit f.predicted) o.work

-- and so does the call with room for strips, which stands in front of the marks.
abbrev pub CallByStripsMeant : Type 0
CallByStripsMeant = (f : Frame) (distances : List Float) (indices work : List ℕ) (n : ℕ) →
    let o = greedy_by_strips f.points f.limit f.predicted f.radius_sq distances indices work in
    o.answer ≡ Ok n → HandedBack f n (strip_room f.points f.limit + marks f.points f.limit f.predicted) o.work
