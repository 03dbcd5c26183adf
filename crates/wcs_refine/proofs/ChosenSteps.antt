-- With enough places either matcher answers with the matches, unless it lists more pairs than the candidate lists hold; and the one that scans works behind
-- a room that is cleared. Assumes nothing.
use Rattle.std.proofs.Common.{ℕ, ◌+◌, ◌-◌, ◌*◌, ◌/◌, ◌≤◌, ◌≡◌, min, Bool, cond, List, ◌++◌, length, take, drop, replicate, sym, ap, ◌∙◌, append-nil, arith, length-drop, take_at, drop_at, le-ltb}
use lib.ListN.{length-replicate}
use lib.Seq.{take-length, drop-length}
use lib.Ieee.{Float}
use Rattle.std.specs.Prelude.{Result, Ok, Err}
use Rattle.pairs.specs.Pairs.{Pair, pairs, spots_within}
use Rattle.pairs.specs.Candidates.{capacity}
use Rattle.matching.specs.Greedy.{flat, matches_of, placed, overfull, Outcome, greedy_unique_matches, greedy_by_strips}
use Rattle.scanning.specs.Scanning.{Scan, greedy_by_scanning}
use Rattle.refusal.specs.declared.Refusal.{Refusal}
use Rattle.refusal.specs.declared.Refusal.TheVariants.{ShortList}
use Rattle.entry.specs.declared.Matcher.{Matcher}
use Rattle.entry.specs.declared.Matcher.TheVariants.{Listing, Scanning}
use Rattle.wcs_refine.specs.Round.{too_many, ordering}
use Rattle.wcs_refine.specs.Choosing.{scanned_behind, chosen}

abbrev pub outcome_of : Result ℕ Refusal → ℕ → List Float → List ℕ → List ℕ → Outcome
outcome_of x m d ix w = record { answer = x; comparisons = m; distances = d; indices = ix; work = w }

-- how many pairs stood in the candidate lists
unfoldable pub listed_pairs : Matcher → List Pair → ℕ
listed_pairs Listing ps = length ps
listed_pairs Scanning ps = 0

module _ (spots : List Float) (limit : ℕ) (points : List Float) (r2 : Float) (d : List Float) (ix work : List ℕ) where
  abbrev marked : ℕ
  marked = spots_within spots limit + length points / 2

  abbrev needs : ℕ
  needs = marked + 2 * min (spots_within spots limit) (length points / 2)

  abbrev strips : ℕ
  strips = 2 * spots_within spots limit

  abbrev behind : Outcome → Outcome
  behind z = outcome_of z.answer z.comparisons z.distances z.indices (replicate strips 0 ++ z.work)

  abbrev answered : Matcher → Outcome
  answered m =
      cond (too_many m (capacity d ix) (length (pairs spots limit points r2))) (overfull d ix (drop strips work))
      (placed marked (listed_pairs m (pairs spots limit points r2)) (ordering m (pairs spots limit points r2)) (matches_of spots limit points r2) d ix (drop strips work))

  pub chosen_is : (m : Matcher) → strips + needs ≤ length work → chosen m spots limit points r2 d ix work ≡ behind (answered m)
  unfolding chosen greedy_by_strips greedy_unique_matches greedy_by_scanning scanned_behind too_many ordering placed listed_pairs
  chosen_is Listing enough =
      ap (λ (b : Bool). cond b (outcome_of (Err ShortList) 0 d ix work) (behind (greedy_unique_matches spots limit points r2 d ix (drop strips work))))
      (le-ltb (length work) (strips + needs) enough)
      ∙ ap (λ (b : Bool). behind (cond b (outcome_of (Err ShortList) 0 d ix (drop strips work)) (answered Listing)))
      (le-ltb (length (drop strips work)) needs (omega (arith, enough, length-drop strips work)))
  chosen_is Scanning enough =
      ap (λ (b : Bool). scanned_behind strips d ix (cond b (record { answer = Err ShortList; work = drop strips work }) done))
      (le-ltb (length (drop strips work)) needs (omega (arith, enough, length-drop strips work)))
    where
      done : Scan
      done = record {
        answer = Ok (length (matches_of spots limit points r2));
        work =
            replicate marked 0 ++ flat (matches_of spots limit points r2)
            ++ drop (marked + 2 * length (matches_of spots limit points r2)) (drop strips work);
      }

-- ---- behind a room

-- a list whose front, of so many places, was cleared, with another part laid back behind it
module _ (room : ℕ) (v w : List ℕ) (is : v ≡ replicate room 0 ++ drop room w) where
  rest_is : take (length v - room) (drop room v) ≡ drop room w
  rest_is =
      ap (λ (k : ℕ). take k (drop room v)) (sym (length-drop room v)) ∙ take-length (drop room v)
      ∙ ap (drop room) is ∙ drop_at (replicate room 0) (drop room w) room (length-replicate room 0)

  laid_back : (l : List ℕ) → take room v ++ (l ++ drop (length v - room) (drop room v)) ≡ replicate room 0 ++ l
  laid_back l =
      ap (λ (x : List ℕ). x ++ (l ++ drop (length v - room) (drop room v))) (ap (take room) is ∙ take_at (replicate room 0) (drop room w) room (length-replicate room 0))
      ∙ ap (λ (k : ℕ). replicate room 0 ++ (l ++ drop k (drop room v))) (sym (length-drop room v))
      ∙ ap (λ (x : List ℕ). replicate room 0 ++ (l ++ x)) (drop-length (drop room v)) ∙ ap (λ (x : List ℕ). replicate room 0 ++ x) (append-nil l)

  -- what scanning leaves in the part behind the room
  pub scans_behind : (points : List Float) (limit : ℕ) (predicted : List Float) (r2 : Float) (d : List Float) (ix : List ℕ) (a : Result ℕ Refusal) (l : List ℕ)
      → room ≡ 2 * spots_within points limit
      → ◌≡◌ {A = Scan} (record { answer = a; work = l }) (greedy_by_scanning points limit predicted r2 (take (length v - room) (drop room v)))
      → outcome_of a 0 d ix (take room v ++ (l ++ drop (length v - room) (drop room v))) ≡ chosen Scanning points limit predicted r2 d ix w
  unfolding chosen scanned_behind
  scans_behind points limit predicted r2 d ix a l e did =
      ap (outcome_of a 0 d ix) (laid_back l)
      ∙ ap (scanned_behind room d ix) (did ∙ ap (greedy_by_scanning points limit predicted r2) rest_is)
      ∙ ap (λ (k : ℕ). scanned_behind k d ix (greedy_by_scanning points limit predicted r2 (drop k w))) e
