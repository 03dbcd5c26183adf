-- The median and the matchers as numbers and lists, for callers in C. Definitions only. Assumes nothing.
use Rattle.std.specs.Prelude.{◌≡◌, ℕ, List, set, Float}
use Rattle.matching.specs.Greedy.{Outcome}
use Rattle.matching.specs.Answer.{count_of}
use Rattle.scanning.specs.Scanning.{Scan}
use Rattle.refusal.specs.Number.{number_given}
use Rattle.stats.specs.declared.MedianSigma.{MedianSigma}

-- Median and sigma in the first two places of a list, as far as it has them.
abbrev pub two_places : List Float → MedianSigma → List Float
two_places l s = set (set l 0 s.median) 1 s.sigma

-- A call of the matcher: the number handed back, the lists that it was lent, and the counts of matches and of comparisons in the first two places of a
-- list.
pub record MatchedTo
    (o : Outcome) (r : ℕ) (distances : List Float) (indices work counts_before counts_after : List ℕ) : Type 0 where
  pub number : r ≡ number_given o.answer
  pub distances_after : distances ≡ o.distances
  pub indices_after : indices ≡ o.indices
  pub work_after : work ≡ o.work
  pub counted : counts_after ≡ set (set counts_before 0 (count_of o.answer)) 1 o.comparisons

-- A call of the matcher that scans, likewise: it makes no comparisons.
pub record ScannedTo (o : Scan) (r : ℕ) (work counts_before counts_after : List ℕ) : Type 0 where
  pub number : r ≡ number_given o.answer
  pub work_after : work ≡ o.work
  pub counted : counts_after ≡ set (set counts_before 0 (count_of o.answer)) 1 0
