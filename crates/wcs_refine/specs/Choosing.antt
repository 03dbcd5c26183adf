-- The matcher that was chosen, on the lists of a round: what the code's parts promise. Definitions only. Assumes nothing.
use Rattle.std.specs.Prelude.{ℕ, List, ◌++◌, drop, replicate, Float}
use Rattle.pairs.specs.Strips.{strip_room}
use Rattle.matching.specs.Greedy.{Outcome, greedy_by_strips}
use Rattle.scanning.specs.Scanning.{Scan, greedy_by_scanning}
use Rattle.entry.specs.declared.Matcher.{Matcher}
use Rattle.entry.specs.declared.Matcher.TheVariants.{Listing, Scanning}

-- What scanning answers, as what the listed matcher does: it compares no pairs for an order, and the candidate lists are as they came. It works behind the
-- strips' room, which is left zero, so that its matches stand where those of the listed matcher do.
unfoldable pub scanned_behind : ℕ → List Float → List ℕ → Scan → Outcome
scanned_behind room distances indices s = record {
  answer = s.answer;
  comparisons = 0;
  distances = distances;
  indices = indices;
  work = replicate room 0 ++ s.work;
}

-- Either matcher on `work`, which has the strips' room in front of the marks.
unfoldable pub chosen : Matcher → List Float → ℕ → List Float → Float → List Float → List ℕ → List ℕ → Outcome
unfolding greedy_by_strips greedy_by_scanning scanned_behind
chosen Listing points limit predicted r2 distances indices work = greedy_by_strips points limit predicted r2 distances indices work
chosen Scanning points limit predicted r2 distances indices work =
    scanned_behind (strip_room points limit) distances indices
    (greedy_by_scanning points limit predicted r2 (drop (strip_room points limit) work))
