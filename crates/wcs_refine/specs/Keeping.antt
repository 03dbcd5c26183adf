-- Where the code keeps a round's state, and what its steps answer. Definitions only. Assumes nothing.
-- Of n places a region: the list of whole numbers has the matches from 0 on (two regions), the cached directions (2), those of the predictions (3),
-- the matcher's work (4 to 7) and the new matches (8 and 9); the list of floats has the residuals with scratch (0 and 1), the predictions' points (2 and 3)
-- and those of the spots within the limit (4 and 5).
use Rattle.std.specs.Prelude.{◌≡◌, ℕ, ◌+◌, ◌*◌, ◌≤◌, Bool, true, false, List, length, take, Float, Result, MatchResult}
use Rattle.std.proofs.Math.Seq.{slice}
use Rattle.panel.specs.Points.{coordinates, points_of}
use Rattle.entry.specs.declared.Settings.{Settings}
use Rattle.entry.specs.Entry.{fixed_of}
use Rattle.query.specs.Query.{Cache, empty, full, Prediction}
use Rattle.wcs_refine.specs.Associate.{laid}
use Rattle.wcs_refine.specs.Listing.{ids_of}
use Rattle.wcs_refine.specs.Round.{State, Next, go, done, refuse, Found, associated, compared, searched, Round, refused, ended, Run}
use Rattle.query.specs.declared.Held.{Held}
use Rattle.refusal.specs.Number.{number_of}
use Rattle.refusal.specs.declared.Refusal.{Refusal}
use Rattle.wcs_refine.specs.declared.working.Working.{Working}
use Rattle.wcs_refine.specs.declared.associating.Step.{Step}
use Rattle.query.specs.declared.Looked.{Looked}
use Rattle.wcs_refine.specs.declared.searching.Sought.{Sought}
use Rattle.wcs_refine.specs.declared.rounds.Rounded.{Rounded}
use Rattle.wcs_refine.specs.declared.rounds.Counts.{Counts}

-- ---- the state

-- `reassoc_cache` as "a flag, boresight, theta and a part of the working list": what the four mean.
unfoldable pub cache_of : Bool → List Float → Float → List ℕ → Cache
cache_of true b theta listed = full b theta listed
cache_of false b theta listed = empty

-- The cached query of a state by value and a list of whole numbers, and its matches, flat.
abbrev pub held_cache : ℕ → Held → List ℕ → Cache
held_cache n h l = cache_of h.filled h.boresight h.theta (slice (2 * n) (2 * n + h.cached) l)

abbrev pub held_matches : Held → List ℕ → List ℕ
held_matches h l = take (2 * h.used) l

-- What a state by value and a list of whole numbers mean together.
abbrev pub held_state : ℕ → Held → List ℕ → State
held_state n h l = record { pose = h.pose; matches = held_matches h l; cache = held_cache n h l }

-- The state that a run is in.
abbrev pub state_of : Working → State
state_of w = held_state w.course.room w.held w.numbers.now

-- ---- what every step is lent

-- The course and the lists are the same, and these as long as they were, whatever stands in them.
pub record Same (w w' : Working) : Type 0 where
  pub course : w'.course ≡ w.course
  pub numbers : w'.numbers.ghost_name ≡ w.numbers.ghost_name
  pub floats : w'.floats.ghost_name ≡ w.floats.ghost_name
  pub distances : w'.distances.ghost_name ≡ w.distances.ghost_name
  pub indices : w'.indices.ghost_name ≡ w.indices.ghost_name
  pub numbers_long : length w'.numbers.now ≡ length w.numbers.now
  pub floats_long : length w'.floats.now ≡ length w.floats.now
  pub distances_long : length w'.distances.now ≡ length w.distances.now
  pub indices_long : length w'.indices.now ≡ length w.indices.now

-- A state has room in its regions.
pub record Fits (k : Settings) (n : ℕ) (h : Held) : Type 0 where
  pub used : h.used ≤ n
  pub cached : h.cached ≤ k.count

-- ---- the search of a round

-- What follows a state in which the run has converged, or has not.
unfoldable pub next_of : Bool → State → Next
next_of true s = done s
next_of false s = go s

-- The predictions stand in their regions: so many.
pub record Predicted (n q : ℕ) (numbers : List ℕ) (floats : List Float) (qs : List Prediction) : Type 0 where
  pub ids : ids_of qs ≡ slice (3 * n) (3 * n + q) numbers
  pub points : laid qs ≡ slice (2 * n) (2 * n + 2 * q) floats

-- The points of the first k spots stand from a place on; what stands in front of it is as it was.
pub record PointsAt (spots : List Float) (k to : ℕ) (before after : List Float) : Type 0 where
  pub long : length after ≡ length before
  pub points : slice to (to + 2 * k) after ≡ coordinates spots 0 k
  pub front : (a e : ℕ) → e ≤ to → slice a e after ≡ slice a e before

-- The points of so many spots that stand in their regions.
abbrev pub points_at : ℕ → ℕ → List Float → List Float
points_at n k floats = slice (4 * n) (4 * n + 2 * k) floats

-- A step is that of the definition, from the state h to the one that it leaves, with the matcher on points of spots and on the predictions that stand
-- in their regions.
pub record StepAs (k : Settings) (n : ℕ) (points : List Float) (h : Held) (r : Float) (q : ℕ) (before : List ℕ)
    (floats : List Float) (left : State) (s : Step) : Type 0 where
  pub next : (qs : List Prediction) → Predicted n q before floats qs →
      next_of s.converged left ≡ associated (fixed_of k) points h.pose (held_matches h before) (held_cache n h before) r qs
  pub comparisons : (qs : List Prediction) → Predicted n q before floats qs → s.comparisons ≡ compared (fixed_of k) points r qs

-- And so is a refusal. Here and below the definition counts what led to a refusal too, and the code does not: a refused call reports no counts.
abbrev pub AssociatedTo : Settings → ℕ → List Float → Held → Float → ℕ → List ℕ → List Float → State
    → Result Step Refusal → Type 0
AssociatedTo k n points h r q before floats left s =
    MatchResult s (StepAs k n points h r q before floats left)
    (λ e. (qs : List Prediction) → Predicted n q before floats qs
    → refuse (number_of e) ≡ associated (fixed_of k) points h.pose (held_matches h before) (held_cache n h before) r qs)

-- What the search makes of a state comes down to the matcher on the predictions that now stand in their regions.
pub record LookedTo (k : Settings) (n : ℕ) (directions : List Float) (h : Held) (before : List ℕ) (after : List ℕ)
    (floats : List Float) (r : Looked) : Type 0 where
  pub predictions : List Prediction
  pub queries : List (List ℕ)
  pub predicted : Predicted n r.predicted after floats predictions
  pub few : r.predicted ≤ k.count
  pub searched : (spots : List Float) (ms : List ℕ) (radius : Float) →
      searched (fixed_of k) spots directions h.pose ms radius (held_cache n h before)
      ≡ record {
        next =
            associated (fixed_of k) (points_of spots k.limit) h.pose ms (held_cache n r.held after) radius
            predictions;
        queries = queries;
        comparisons = compared (fixed_of k) (points_of spots k.limit) radius predictions;
      }
  pub count : r.queries ≡ length queries
  pub pose : r.held.pose ≡ h.pose
  pub used : r.held.used ≡ h.used
  pub matches : take (2 * n) after ≡ take (2 * n) before
  pub fits : Fits k n r.held

-- What the code's search found, with the state that it left, is what the definition finds; or it meets the refusal that the definition meets.
pub record SoughtAs (left : State) (f : Found) (s : Sought) : Type 0 where
  pub next : next_of s.step.converged left ≡ f.next
  pub count : s.queries ≡ length f.queries
  pub comparisons : s.step.comparisons ≡ f.comparisons

abbrev pub SearchedTo : State → Found → Result Sought Refusal → Type 0
SearchedTo left f s = MatchResult s (SoughtAs left f) (λ e. refuse (number_of e) ≡ f.next)

-- ---- one round, and the loop

-- One round of the code is one of the definition.
pub record RoundedAs (left : State) (x : Round) (r : Rounded) : Type 0 where
  pub found : SoughtAs left x.found r.found
  pub passes : r.passes ≡ x.passes

abbrev pub RoundTo : State → Round → Result Rounded Refusal → Type 0
RoundTo left x r = MatchResult r (RoundedAs left x) (λ e. refuse (number_of e) ≡ x.found.next)

-- The counts of a run.
abbrev pub counts_of : Run → Counts
counts_of u = record {
  rounds = u.rounds;
  passes = u.passes;
  queries = length u.queries;
  comparisons = u.comparisons;
}

-- The code's loop ends as that of the definition, with its counts.
pub record RanAs (left : State) (u : Run) (c : Counts) : Type 0 where
  pub ending : ended left ≡ u.ending
  pub counts : c ≡ counts_of u

abbrev pub RanTo : State → Run → Result Counts Refusal → Type 0
RanTo left u r = MatchResult r (RanAs left u) (λ e. refused (number_of e) ≡ u.ending)
