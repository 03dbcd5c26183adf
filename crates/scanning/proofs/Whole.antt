-- The whole call: a work list that is too short, and what is left where it is long enough. Assumes nothing.
use Rattle.std.proofs.Common.{◌≡◌, ℕ, ◌+◌, ◌*◌, ◌<◌, ◌≤◌, List, ◌++◌, length, drop, sym, ap, ap₂, ◌∙◌, append_assoc, arith}
use Rattle.std.proofs.lemmas.Bool.{lt-ltb, le-ltb}
use Rattle.std.specs.Prelude.{Result, Ok, Err}
use lib.ListN.{replicate}
use lib.Ieee.{Float}
use Rattle.lists.specs.Cleared.{cleared}
use Rattle.lists.proofs.Clearing.{cleared_within}
use Rattle.pairs.specs.Pairs.{pairs, spots_within}
use Rattle.matching.specs.Greedy.{Match, matches_of, flat, marks, needed}
use Rattle.refusal.specs.declared.Refusal.{Refusal}
use Rattle.refusal.specs.declared.Refusal.TheVariants.{ShortList}
use Rattle.scanning.specs.Scanning.{Scan, greedy_by_scanning}

abbrev pub scan : Result ℕ Refusal → List ℕ → Scan
scan a w = record { answer = a; work = w }

module _ (points : List Float) (limit : ℕ) (predicted : List Float) (r2 : Float) (w : List ℕ) where
  pub too_short : length w < needed points limit predicted → scan (Err ShortList) w ≡ greedy_by_scanning points limit predicted r2 w
  unfolding greedy_by_scanning
  too_short h = rw (lt-ltb (length w) _ h)

  abbrev ms : List Match
  ms = matches_of points limit predicted r2

  abbrev marked : ℕ
  marked = marks points limit predicted

  -- the matches of the spots within the limit are those of so many spots
  within_again : matches_of points (spots_within points limit) predicted r2 ≡ ms
  unfolding matches_of pairs
  within_again =
      let e : spots_within points (spots_within points limit) ≡ spots_within points limit = omega arith in
      rw e

  -- all were taken, and the marks cleared
  pub all_taken : needed points limit predicted ≤ length w → (t : ℕ) (w' w'' : List ℕ) → length w' ≡ length w
      → t ≡ length (matches_of points (spots_within points limit) predicted r2)
      → drop marked w' ≡ flat (matches_of points (spots_within points limit) predicted r2) ++ drop (marked + 2 * t) w
      → w'' ≡ cleared 0 marked w' → scan (Ok t) w'' ≡ greedy_by_scanning points limit predicted r2 w
  unfolding greedy_by_scanning
  all_taken room t w' w'' long count taken left =
      let many : t ≡ length ms = count ∙ ap length within_again in
      let is : w'' ≡ replicate marked 0 ++ flat ms ++ drop (marked + 2 * length ms) w =
      left
      ∙ cleared_within 0 marked w' (omega arith)
      ∙ ap (λ (l : List ℕ). replicate marked 0 ++ l)
      (taken ∙ ap₂ (λ (l : List Match) (k : ℕ). flat l ++ drop (marked + 2 * k) w) within_again many)
      ∙ sym (append_assoc (replicate marked 0) (flat ms) (drop (marked + 2 * length ms) w)) in
      rw (le-ltb (length w) (needed points limit predicted) room) (ap₂ (λ (n : ℕ) (l : List ℕ). scan (Ok n) l) many is)
