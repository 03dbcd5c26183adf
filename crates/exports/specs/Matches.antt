-- What the matches that firmware is handed mean. Definitions only; the proof is in proofs/Matches.antt. Assumes nothing.
use Rattle.std.specs.Prelude.{◌≡◌, ℕ, List, set, Float}
use Rattle.pairs.specs.Pairs.{pairs}
use Rattle.matching.specs.Merge.{not_after}
use Rattle.matching.specs.Comparisons.{comparisons}
use Rattle.matching.specs.Greedy.{marks, greedy_unique_matches}
use Rattle.matching.specs.Meaning.{Frame}
use Rattle.matching.specs.Meant.{HandedBack}
use Rattle.scanning.specs.Scanning.{greedy_by_scanning}
use Rattle.exports.specs.Parts.{MatchedTo, ScannedTo}

-- A call of the exported matcher, whose contract is `MatchedTo`, that is answered with 0: behind its marks stands the one list of crate `matching`'s
-- `Meaning.antt`, laid flat, of as many matches as it counts; beside that stand the comparisons of its pairs.
abbrev pub ExportedMatchesMeant : Type 0
ExportedMatchesMeant =
    (f : Frame) (r : ℕ) (distances distances_after : List Float) (indices work indices_after work_after counts counts_after : List ℕ)
    → MatchedTo (greedy_unique_matches f.points f.limit f.predicted f.radius_sq distances indices work)
    r distances_after indices_after work_after counts counts_after
    → r ≡ 0
    → (n : ℕ)
    × (counts_after ≡ set (set counts 0 n) 1 (comparisons not_after (pairs f.points f.limit f.predicted f.radius_sq)))
    × HandedBack f n (marks f.points f.limit f.predicted) work_after

-- So does a call of the exported matcher that scans, with no comparisons.
abbrev pub ExportedScanMeant : Type 0
ExportedScanMeant =
    (f : Frame) (r : ℕ) (work work_after counts counts_after : List ℕ)
    → ScannedTo (greedy_by_scanning f.points f.limit f.predicted f.radius_sq work) r work_after counts counts_after
    → r ≡ 0
    → (n : ℕ) × (counts_after ≡ set (set counts 0 n) 1 0) × HandedBack f n (marks f.points f.limit f.predicted) work_after
