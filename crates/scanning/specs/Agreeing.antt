-- That scanning gives the listed matcher's matches, and what its list means; `proofs/Agreeing.antt` proves each claim under the same name in small
-- letters. Definitions only. Assumes nothing.
use Rattle.std.specs.Prelude.{◌≡◌, ℕ, ◌≤◌, List, [], length, Ok, Err, Float}
use Rattle.pairs.specs.Pairs.{pairs}
use Rattle.matching.specs.Greedy.{matches_of, marks, greedy_unique_matches}
use Rattle.matching.specs.Meaning.{Frame}
use Rattle.matching.specs.Meant.{HandedBack}
use Rattle.scanning.specs.Scanning.{scanned, greedy_by_scanning}
use Rattle.refusal.specs.declared.Refusal.TheVariants.{ManyPairs}

-- Going over all pairs again for each match, taking the closest free one, gives the matches of ordering all pairs once: as many turns as there are pairs
-- are enough.
abbrev pub ScannedSame : Type 0
ScannedSame = (points : List Float) (limit : ℕ) (predicted : List Float) (r2 : Float) (k : ℕ) →
    let ps = pairs points limit predicted r2 in
    length ps ≤ k → scanned k [] ps ≡ matches_of points limit predicted r2

-- "The same matches in the same sequence as the listed matcher whenever that one has enough places": the same answer, and the same left in `work`.
abbrev pub SameAsListed : Type 0
SameAsListed = (points : List Float) (limit : ℕ) (predicted : List Float) (r2 : Float) (distances : List Float) (indices work : List ℕ) →
    let listed = greedy_unique_matches points limit predicted r2 distances indices work in
    let scan = greedy_by_scanning points limit predicted r2 work in
    (listed.answer ≡ Err ManyPairs → ⊥) → (scan.answer ≡ listed.answer) × (scan.work ≡ listed.work)

-- "And it never gives refusal 13."
abbrev pub NeverMany : Type 0
NeverMany = (points : List Float) (limit : ℕ) (predicted : List Float) (r2 : Float) (work : List ℕ) →
    (greedy_by_scanning points limit predicted r2 work).answer ≡ Err ManyPairs → ⊥

-- 02, CR 9, "covers both matchers": a call that answers n matches leaves the one list of crate `matching`'s Meaning.antt behind its marks.
abbrev pub CallByScanningMeant : Type 0
CallByScanningMeant = (f : Frame) (work : List ℕ) (n : ℕ) →
    let o = greedy_by_scanning f.points f.limit f.predicted f.radius_sq work in
    o.answer ≡ Ok n → HandedBack f n (marks f.points f.limit f.predicted) o.work
