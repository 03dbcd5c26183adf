-- The whole of a refinement call: checks, run, closing, and what every lent list holds afterwards. Definitions only. Assumes nothing.
use Rattle.std.specs.Prelude.{ℕ, zero, suc, List, [], ◌++◌, length, drop, replicate}
use Rattle.rounding.specs.Arith.{zero64}
use Rattle.fit.specs.Rows.{rows}
use Rattle.entry.specs.Arguments.{Call, Given, Lent}
use Rattle.entry.specs.Check.{refusal}
use Rattle.entry.specs.Fixed.{fixed, start_pose}
use Rattle.query.specs.Query.{empty}
use Rattle.wcs_refine.specs.Round.{State, Ending, refused, ended, Run, loop}
use Rattle.wcs_refine.specs.Closing.{Closed, unsound, fine, most_clips, cleaned, Report, reported}

-- A refusal's number, or the report with rounds, fit passes, queries and the most comparisons of a round, in this order.
pub data Answer : Type 0 where
  no : ℕ → Answer
  ok : Report → ℕ → ℕ → ℕ → ℕ → Answer

-- "Working state", before the first round: the start pose, `current_matches = initial_matches`, and `reassoc_cache = None`.
unfoldable pub start : Given → State
unfolding start_pose
start g = record { pose = start_pose g; matches = g.matches; cache = empty }

-- The run of a call that passes the checks: the "outer refinement loop" from its start, for at most the rounds that it is given.
unfoldable pub run_of : Call → Run
unfolding loop fixed start
run_of c = loop (fixed c) c.spots c.directions c.given.rounds (start c.given)

-- The queries of a call, by the number of the check that refused it on entry, or 0 where none did.
abbrev pub queries_after : Call → ℕ → List (List ℕ)
queries_after c zero = (run_of c).queries
queries_after c (suc n) = []

-- "The queries of a call are those that this run makes on its arguments before its end or refusal; refused before the run, it makes none."
unfoldable pub queries : Call → List (List ℕ)
unfolding run_of refusal
queries c = queries_after c (refusal c)

-- After the closing clips: refusal 12, or what is reported. "Reported beside it are rounds, fit passes and queries, as the Rust counts WCS_OUTER,
-- WCS_INNER and WCS_REASSOC_CALL": those of the run; 02, CR 14: "beside the counts that demand 2 compares with the Rust's", its comparisons.
unfoldable pub closed : Call → Closed → Run → Answer
unfolding reported rows fixed
closed c unsound r = no 12
closed c (fine p ms) r =
    ok (reported (fixed c) p ms (rows c.spots c.directions ms)) r.rounds r.passes (length r.queries) r.comparisons

-- After the loop: the refusal that it met, 12 or 13, or the closing clips from the state that it ended in.
unfoldable pub finished : Call → Ending → Run → Answer
unfolding closed cleaned fixed
finished c (refused n) r = no n
finished c (ended s) r = closed c (cleaned (fixed c) c.spots c.directions most_clips s.pose s.matches) r

-- The answer of a call, likewise: the refusal on entry, or what follows its run.
abbrev pub answer_after : Call → ℕ → Answer
answer_after c zero = finished c (run_of c).ending (run_of c)
answer_after c (suc n) = no (suc n)

-- The answer of a whole call: the refusal of the first check on entry that fails, or else what the run comes to.
unfoldable pub answer : Call → Answer
unfolding run_of refusal finished
answer c = answer_after c (refusal c)

-- ---- the lent lists afterwards

-- "the working and candidate lists all zero", as long as they were, and a result list.
unfoldable pub cleared : List ℕ → Lent → Lent
cleared result l = record {
  numbers = replicate (length l.numbers) 0;
  floats = replicate (length l.floats) zero64;
  distances = replicate (length l.distances) zero64;
  indices = replicate (length l.indices) 0;
  result = result;
}

-- By the check that refused on entry, or 0 where none did: "1 to 11 leave all lent lists as they came. 12 and 13 leave the result list as it came
-- and the working and candidate lists all zero." 02, CR 2: 14 is "counted with 5 to 11 wherever those are named";
-- CR 8: 17 is "counted with 5 to 11 too".
-- "Accepted: the result list starts with the matches, spot then direction, and is unchanged after them; working and candidate lists are all zero."
unfoldable pub left : Lent → ℕ → Answer → Lent
unfolding cleared
left l (suc n) a = l
left l zero (no n) = cleared l.result l
left l zero (ok r rounds passes queries comparisons) = cleared (r.matches ++ drop (length r.matches) l.result) l

-- What a call answers, and what the lent lists hold afterwards.
pub record Outcome : Type 0 where
  pub answer : Answer
  pub lent : Lent

-- The whole of a call: what the contract of `wcs_refine` is an equation with, and what demand 3 is about.
unfoldable pub outcome : Call → Outcome
unfolding answer left refusal
outcome c = record { answer = answer c; lent = left c.given.lent (refusal c) (answer c) }
