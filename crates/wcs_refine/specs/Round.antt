-- One round of `wcs_refine`'s outer loop, on any state, and the loop. Definitions only. Assumes nothing.
use Rattle.std.specs.Prelude.{ℕ, zero, suc, ◌+◌, ◌/◌, max, Bool, true, false, cond, not, ◌&&◌, List, [], ◌∷◌, ◌++◌, length, nat_le, nat_lt, Float}
use Rattle.rounding.specs.Arith.{◌⊗◌}
use Rattle.pairs.specs.Pairs.{Pair, pairs}
use Rattle.matching.specs.Merge.{not_after}
use Rattle.matching.specs.Comparisons.{comparisons}
use Rattle.matching.specs.Greedy.{matches_of}
use Rattle.project.specs.Camera.{boresight, camera_rows}
use Rattle.panel.specs.Points.{points_of}
use Rattle.fit.specs.Rows.{Row, rows, view_of}
use Rattle.residuals.specs.Residual.{residuals}
use Rattle.fit.specs.declared.Pose.{Pose}
use Rattle.entry.specs.Fixed.{Fixed}
use Rattle.entry.specs.declared.Matcher.{Matcher}
use Rattle.entry.specs.declared.Matcher.TheVariants.{Listing, Scanning}
use Rattle.passes.specs.Fit.{Passes, fit_passes}
use Rattle.wcs_refine.specs.Clip.{statistics, clipped}
use Rattle.query.specs.Query.{Cache, empty, full, query, drifted, Prediction, predictions, pruned}
use Rattle.wcs_refine.specs.Associate.{adaptive_px, laid, renamed, same_matches}

-- What a round starts from and leaves: the pose, the matches, flat, and the cached query.
pub record State : Type 0 where
  pub pose : Pose
  pub matches : List ℕ
  pub cache : Cache

-- The run goes on, has converged, or meets refusal 12 or 13.
pub data Next : Type 0 where
  go : State → Next
  done : State → Next
  refuse : ℕ → Next

-- What the search of a round comes to, the queries that it made, each with the directions it lists, and how often it compared two pairs.
pub record Found : Type 0 where
  pub next : Next
  pub queries : List (List ℕ)
  pub comparisons : ℕ

-- What a round comes to: its search, and how many fit passes it made.
pub record Round : Type 0 where
  pub found : Found
  pub passes : ℕ

-- `if new_matches.len() >= 4`
abbrev pub fewest_new : ℕ
fewest_new = 4

-- "reaching here means re-association produced no change": at least 4 new matches that differ from the present ones take their place.
unfoldable pub settled : Pose → List ℕ → Cache → List ℕ → Next
unfolding same_matches
settled p ms c new =
    cond (nat_le fewest_new (length new / 2) && not (same_matches new ms))
    (go (record { pose = p; matches = new; cache = c }))
    (done (record { pose = p; matches = ms; cache = c }))

-- Refusal 13: "A round finds more in-radius pairs than the candidate list holds", of so many places and so many pairs. 02, CR 7, of the matcher that
-- scans: "it never gives refusal 13".
unfoldable pub too_many : Matcher → ℕ → ℕ → Bool
too_many Listing capacity found = nat_lt capacity found
too_many Scanning capacity found = false

-- `greedy_unique_matches` on the spots' points, with refusal 13. Either matcher "gives the same matches in the same sequence".
unfoldable pub associated : Fixed → List Float → Pose → List ℕ → Cache → Float → List Prediction → Next
unfolding settled renamed laid pairs matches_of too_many
associated k points p ms c r qs =
    cond (too_many k.matcher k.capacity (length (pairs points k.limit (laid qs) (r ⊗ r)))) (refuse 13)
    (settled p ms c (renamed qs (matches_of points k.limit (laid qs) (r ⊗ r))))

-- 02, CR 14: "The matcher's ordering of pairs shall count its comparisons"; "The matcher of CR 7 reports 0."
unfoldable pub ordering : Matcher → List Pair → ℕ
unfolding comparisons not_after
ordering Listing ps = comparisons not_after ps
ordering Scanning ps = 0

-- The comparisons of a round. One that is refused with 13 orders none.
unfoldable pub compared : Fixed → List Float → Float → List Prediction → ℕ
unfolding laid pairs ordering too_many
compared k points r qs =
    cond (too_many k.matcher k.capacity (length (pairs points k.limit (laid qs) (r ⊗ r)))) 0
    (ordering k.matcher (pairs points k.limit (laid qs) (r ⊗ r)))

-- Phase D after the fresh query `listed`: it is counted, and what lies beyond keep_r is not cached.
unfoldable pub fresh : Fixed → List Float → List Float → Pose → List ℕ → Float → List ℕ → Found
unfolding associated compared points_of predictions pruned camera_rows boresight
fresh k spots directions p ms r listed =
    let rows = camera_rows p.theta p.ra p.dec in
    record {
      next =
          associated k (points_of spots k.limit) p ms
          (full (boresight p.ra p.dec) p.theta (pruned k directions rows listed)) r
          (predictions k directions rows listed);
      queries = listed ∷ [];
      comparisons = compared k (points_of spots k.limit) r (predictions k directions rows listed);
    }

-- Phase D with the query cached at boresight b and roll theta: a fresh one where the pose has drifted from it, else the cached one, uncounted.
unfoldable pub reused : Fixed → List Float → List Float → Pose → List ℕ → Float → List Float → Float → List ℕ → Bool
    → Found
unfolding fresh associated compared points_of predictions query camera_rows
reused k spots directions p ms r b theta listed true = fresh k spots directions p ms r (query k directions p)
reused k spots directions p ms r b theta listed false = record {
  next =
      associated k (points_of spots k.limit) p ms (full b theta listed) r
      (predictions k directions (camera_rows p.theta p.ra p.dec) listed);
  queries = [];
  comparisons =
      compared k (points_of spots k.limit) r
      (predictions k directions (camera_rows p.theta p.ra p.dec) listed);
}

-- Phase D, "Re-associate", with the matcher's radius r: "(Re)query the catalog cone only when the cache is empty or the fit has drifted past a margin."
unfoldable pub searched : Fixed → List Float → List Float → Pose → List ℕ → Float → Cache → Found
unfolding fresh reused query drifted
searched k spots directions p ms r empty = fresh k spots directions p ms r (query k directions p)
searched k spots directions p ms r (full b theta listed) =
    reused k spots directions p ms r b theta listed (drifted k p b theta)

-- Phases B to D, at the pose that the passes left.
unfoldable pub rest : Fixed → List Float → List Float → Pose → List ℕ → Cache → List Float → Found
unfolding searched statistics clipped adaptive_px
rest k spots directions p ms c rs =
    let t = statistics rs in
    searched k spots directions p (clipped rs t ms) (adaptive_px k t) c

-- After Phase A: where its passes met refusal 12 the round ends with it, and makes no query and no comparison; else phases B to D at the pose that they
-- left.
unfoldable pub fitted : Fixed → List Float → List Float → State → List Row → Passes → Round
unfolding rest residuals view_of
fitted k spots directions s rs f = record {
  found =
      cond f.fine
      (rest k spots directions f.pose s.matches s.cache (residuals (view_of f.pose k.cut) rs))
      (record { next = refuse 12; queries = []; comparisons = 0 });
  passes = f.passes;
}

-- `for inner_iter in 0..10`
abbrev pub most_passes : ℕ
most_passes = 10

-- One turn of the "outer refinement loop": Phase A, the passes of the fit, then the rest.
unfoldable pub round : Fixed → List Float → List Float → State → Round
unfolding fitted fit_passes rows
round k spots directions s =
    let rs = rows spots directions s.matches in
    fitted k spots directions s rs (fit_passes most_passes k.cut rs s.pose)

-- ---- the loop

-- The loop meets refusal 12 or 13, or ends in a state: converged, or after its last round.
pub data Ending : Type 0 where
  refused : ℕ → Ending
  ended : State → Ending

-- How the loop ended, after how many rounds and passes, every query on the way, and the most comparisons of a round.
pub record Run : Type 0 where
  pub ending : Ending
  pub rounds : ℕ
  pub passes : ℕ
  pub queries : List (List ℕ)
  pub comparisons : ℕ

-- One round, of n passes, the queries qs and m comparisons, and what follows it by what it came to. "Reported .. are rounds, fit passes and queries, as
-- the Rust counts WCS_OUTER, WCS_INNER and WCS_REASSOC_CALL": a round counts once, its passes and queries before those of the rounds after it.
-- 02, CR 14: "and report the largest count of any round".
unfoldable pub carry : ℕ → List (List ℕ) → ℕ → Next → (State → Run) → Run
carry n qs m (go s) f =
    let r = f s in
    record {
      ending = r.ending;
      rounds = suc r.rounds;
      passes = n + r.passes;
      queries = qs ++ r.queries;
      comparisons = max m r.comparisons;
    }
carry n qs m (done s) f = record { ending = ended s; rounds = 1; passes = n; queries = qs; comparisons = m }
carry n qs m (refuse x) f = record { ending = refused x; rounds = 1; passes = n; queries = qs; comparisons = m }

-- `for outer_iter in 0..max_iterations`: at most so many rounds.
unfoldable pub loop : Fixed → List Float → List Float → ℕ → State → Run
unfolding carry round
loop k spots directions zero s =
    record { ending = ended s; rounds = 0; passes = 0; queries = []; comparisons = 0 }
loop k spots directions (suc n) s =
    let r = round k spots directions s in
    carry r.passes r.found.queries r.found.comparisons r.found.next (λ t. loop k spots directions n t)
