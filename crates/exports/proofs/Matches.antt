-- What the exported matchers hand back, carried from what the matchers leave. Assumes nothing.
use Rattle.std.proofs.Common.{◌≡◌, ℕ, Bool, true, false, cond, ltb, List, length, refl, sym, ap, ap₂, subst, ◌∙◌, set}
use lib.Ieee.{Float}
use Rattle.pairs.specs.Pairs.{pairs}
use Rattle.pairs.specs.Candidates.{capacity}
use Rattle.matching.specs.Answer.{count_of}
use Rattle.matching.specs.Merge.{not_after}
use Rattle.matching.specs.Comparisons.{comparisons}
use Rattle.matching.specs.Greedy.{Outcome, marks, matches_of, needed, placed, overfull, greedy_unique_matches}
use Rattle.matching.specs.Meaning.{Frame}
use Rattle.std.specs.Prelude.{Result, Ok, Err}
use Rattle.refusal.specs.declared.Refusal.{Refusal}
use Rattle.refusal.specs.declared.Refusal.TheVariants.{ShortList}
use Rattle.refusal.specs.Number.{number_given}
use Rattle.refusal.proofs.Passing.{has_number}
use Rattle.matching.specs.Meant.{HandedBack}
use Rattle.matching.proofs.Calls.{call_meant}
use Rattle.scanning.specs.Scanning.{greedy_by_scanning}
use Rattle.scanning.proofs.Agreeing.{call_by_scanning_meant}
use Rattle.exports.specs.Matches.{ExportedMatchesMeant, ExportedScanMeant}

-- an answer whose number is 0 is one of so many matches
matched : (a : Result ℕ Refusal) → 0 ≡ number_given a → (n : ℕ) × (a ≡ Ok n) × (count_of a ≡ n)
matched (Ok n) h = (n, refl, refl)
matched (Err r) h = absurd (has_number r (sym h))

-- a call that answers matches has put all of its pairs in order
module _ (f : Frame) (distances : List Float) (indices work : List ℕ) where
  abbrev o : Outcome
  o = greedy_unique_matches f.points f.limit f.predicted f.radius_sq distances indices work

  compared : (n : ℕ) → o.answer ≡ Ok n → o.comparisons ≡ comparisons not_after (pairs f.points f.limit f.predicted f.radius_sq)
  unfolding greedy_unique_matches placed overfull
  compared n h =
      by (ltb (length work) (needed f.points f.limit f.predicted))
      (ltb (capacity distances indices) (length (pairs f.points f.limit f.predicted f.radius_sq))) h
    where
      shorter : Outcome
      shorter = record { answer = Err ShortList; comparisons = 0; distances = distances; indices = indices; work = work }

      all : Outcome
      all =
          placed (marks f.points f.limit f.predicted) (length (pairs f.points f.limit f.predicted f.radius_sq))
          (comparisons not_after (pairs f.points f.limit f.predicted f.radius_sq))
          (matches_of f.points f.limit f.predicted f.radius_sq) distances indices work

      by : (s t : Bool) → (cond s shorter (cond t (overfull distances indices work) all)).answer ≡ Ok n
          → (cond s shorter (cond t (overfull distances indices work) all)).comparisons
          ≡ comparisons not_after (pairs f.points f.limit f.predicted f.radius_sq)
      by true t e = cc
      by false true e = cc
      by false false e = refl

pub exported_matches_meant : ExportedMatchesMeant
exported_matches_meant f r d d' ix w ix' w' counts counts' x zero =
    let m = matched (o f d ix w).answer (sym zero ∙ x.number) in (
      m.0,
      x.counted ∙ ap₂ (λ (n c : ℕ). set (set counts 0 n) 1 c) m.2 (compared f d ix w m.0 m.1),
      subst (HandedBack f m.0 (marks f.points f.limit f.predicted)) (sym x.work_after) (call_meant f d ix w m.0 m.1),
    )

pub exported_scan_meant : ExportedScanMeant
exported_scan_meant f r w w' counts counts' x zero =
    let m = matched (greedy_by_scanning f.points f.limit f.predicted f.radius_sq w).answer (sym zero ∙ x.number) in (
      m.0,
      x.counted ∙ ap (λ (n : ℕ). set (set counts 0 n) 1 0) m.2,
      subst (HandedBack f m.0 (marks f.points f.limit f.predicted)) (sym x.work_after) (call_by_scanning_meant f w m.0 m.1),
    )
