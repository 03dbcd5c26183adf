-- Each claim of `specs/Agreeing.antt`, under its name in small letters. Assumes nothing.
use Rattle.std.proofs.Common.{◌≡◌, ℕ, ◌+◌, ◌*◌, Bool, true, false, cond, ltb, List, [], ◌++◌, length, drop, replicate, Ok, Err, Float, refl, append_assoc}
use Rattle.std.proofs.lemmas.List.{length-replicate}
use Rattle.pairs.specs.Pairs.{pairs}
use Rattle.pairs.specs.Candidates.{capacity}
use Rattle.matching.specs.Merge.{not_after}
use Rattle.matching.specs.Comparisons.{comparisons}
use Rattle.matching.specs.Greedy.{Outcome, matches_of, flat, marks, needed, placed, overfull, greedy_unique_matches}
use Rattle.matching.specs.Meaning.{Frame}
use Rattle.matching.specs.Meant.{HandedBack}
use Rattle.refusal.specs.declared.Refusal.TheVariants.{ManyPairs, ShortList}
use Rattle.scanning.specs.Scanning.{Scan, greedy_by_scanning}
use Rattle.scanning.specs.Agreeing.{ScannedSame, SameAsListed, NeverMany, CallByScanningMeant}
use Rattle.matching.proofs.Calls.{left, short, counted}
use Rattle.scanning.proofs.Turns.{turns, enough}

pub scanned_same : ScannedSame
unfolding matches_of
scanned_same points limit predicted r2 k h =
    let f : Frame = record { points = points; limit = limit; predicted = predicted; radius_sq = r2 } in
    turns f k [] (enough f k h)

-- ---- the call

-- what is answered, and left in `work`, where that list is too short and where it is not
abbrev scan_when : List Float → ℕ → List Float → Float → List ℕ → Bool → Scan
scan_when points limit predicted r2 work short =
    let ms = matches_of points limit predicted r2 in
    let marked = marks points limit predicted in
    cond short (record { answer = Err ShortList; work = work })
    (record { answer = Ok (length ms); work = replicate marked 0 ++ flat ms ++ drop (marked + 2 * length ms) work })

pub same_as_listed : SameAsListed
unfolding greedy_by_scanning greedy_unique_matches placed overfull
same_as_listed points limit predicted r2 distances indices work =
    by (ltb (length work) (needed points limit predicted)) (ltb (capacity distances indices) (length (pairs points limit predicted r2)))
  where
    scan : Bool → Scan
    scan = scan_when points limit predicted r2 work

    -- as the listed matcher answers where `work` is too short, and where there are too many pairs
    listed : Bool → Bool → Outcome
    listed short many =
        cond short (record { answer = Err ShortList; comparisons = 0; distances = distances; indices = indices; work = work })
        (cond many (overfull distances indices work)
        (placed (marks points limit predicted) (length (pairs points limit predicted r2)) (comparisons not_after (pairs points limit predicted r2))
        (matches_of points limit predicted r2) distances indices work))

    by : (s m : Bool) → ((listed s m).answer ≡ Err ManyPairs → ⊥) → ((scan s).answer ≡ (listed s m).answer) × ((scan s).work ≡ (listed s m).work)
    by true m h = (refl, refl)
    by false true h = absurd (h refl)
    by false false h = (refl, refl)

pub never_many : NeverMany
unfolding greedy_by_scanning
never_many points limit predicted r2 work = by (ltb (length work) (needed points limit predicted))
  where
    by : (s : Bool) → (scan_when points limit predicted r2 work s).answer ≡ Err ManyPairs → ⊥
    by true h = cc
    by false h = cc

pub call_by_scanning_meant : CallByScanningMeant
unfolding greedy_by_scanning
call_by_scanning_meant f work n = by (ltb (length work) (needed f.points f.limit f.predicted))
  where
    scan : Bool → Scan
    scan = scan_when f.points f.limit f.predicted f.radius_sq work

    marked : ℕ
    marked = marks f.points f.limit f.predicted

    by : (s : Bool) → (scan s).answer ≡ Ok n → HandedBack f n marked (scan s).work
    by true h = absurd (short n h)
    by false h =
        left f n marked (scan false).work (replicate marked 0) _ (length-replicate marked 0)
        (append_assoc (replicate marked 0) (flat (matches_of f.points f.limit f.predicted f.radius_sq)) _) (counted _ n h)
