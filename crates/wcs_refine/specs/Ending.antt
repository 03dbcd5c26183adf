-- How a call begins and ends its run, as the code's parts do it. Definitions only. Assumes nothing.
use Rattle.std.specs.Prelude.{◌≡◌, ℕ, ◌/◌, List, ◌++◌, length, drop, Float, Result}
use Rattle.fit.specs.Rows.{rows}
use Rattle.entry.specs.Fixed.{Fixed, start_pose_of}
use Rattle.entry.specs.Entry.{fixed_of}
use Rattle.query.specs.Query.{empty}
use Rattle.wcs_refine.specs.Closing.{Closed, unsound, fine, most_clips, cleaned, reported}
use Rattle.wcs_refine.specs.Call.{Answer, no, ok}
use Rattle.wcs_refine.specs.Keeping.{held_state, counts_of}
use Rattle.wcs_refine.specs.Round.{State, Ending, refused, ended}
use Rattle.wcs_refine.specs.Stepping.{loop_of}
use Rattle.wcs_refine.specs.Returned.{handed, values_of}
use Rattle.wcs_refine.specs.declared.rounds.Counts.{Counts}
use Rattle.wcs_refine.specs.declared.course.Course.{Course}
use Rattle.wcs_refine.specs.declared.WcsRefineResult.{WcsRefineResult}
use Rattle.query.specs.declared.Held.{Held}
use Rattle.refusal.specs.declared.Refusal.{Refusal}

-- The state that the run starts from: the starting matches at the front of the working list, and no cached query.
pub record Begun (matches : List ℕ) (rotation : List (List Float)) (scale : Float) (after : List ℕ)
    (h : Held) : Type 0 where
  pub state : (n : ℕ) → held_state n h after
      ≡ record { pose = start_pose_of rotation scale; matches = matches; cache = empty }
  pub used : h.used ≡ length matches / 2
  pub cached : h.cached ≡ 0

-- The answer after the closing clips, from the numbers that the run is given once and its counts.
unfoldable pub concluded : Fixed → List Float → List Float → Closed → Counts → Answer
concluded k spots directions unsound n = no 12
concluded k spots directions (fine p ms) n =
    ok (reported k p ms (rows spots directions ms)) n.rounds n.passes n.queries n.comparisons

-- The answer after the closing clips of a state, and that of a run by how its loop ended: the refusal that it met, or what follows the state.
abbrev pub closing_at : Fixed → List Float → List Float → State → Counts → Answer
closing_at k spots directions s n = concluded k spots directions (cleaned k spots directions most_clips s.pose s.matches) n

abbrev pub ending_at : Fixed → List Float → List Float → Ending → Counts → Answer
ending_at k spots directions (refused x) n = no x
ending_at k spots directions (ended s) n = closing_at k spots directions s n

-- The same on a course, and the answer of at most so many rounds from a state.
abbrev pub closing_of : Course → State → Counts → Answer
closing_of c s n = closing_at (fixed_of c.k) c.spots.now c.directions.now s n

abbrev pub answer_of : Course → ℕ → State → Answer
answer_of c most s = let u = loop_of c most s in ending_at (fixed_of c.k) c.spots.now c.directions.now u.ending (counts_of u)

-- The result list after an answer: it starts with the matches, or is as it came.
unfoldable pub result_after : List ℕ → Answer → List ℕ
result_after l (no n) = l
result_after l (ok r rounds passes queries comparisons) = r.matches ++ drop (length r.matches) l

-- The values handed back, and the result list, are those of an answer.
pub record Answered (a : Answer) (before after : List ℕ) (r : Result WcsRefineResult Refusal) : Type 0 where
  pub values : handed r ≡ values_of a
  pub list : after ≡ result_after before a
