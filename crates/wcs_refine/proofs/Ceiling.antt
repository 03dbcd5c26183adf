-- The ceiling of the comparisons, of a round by the pairs that it finds and of a call by its candidate lists: `specs/Ceiling.antt`. Both come down to
-- crate `matching`'s ceiling for a list: the search of a round compares the pairs of its predictions, and nothing else. Assumes nothing.
use Rattle.std.proofs.Common.{◌≡◌, ℕ, zero, suc, ◌*◌, ◌^◌, ◌≤◌, Bool, true, false, cond, ltb, List, [], length, refl, ap, mul-le-mul_right, ltb-false, arith}
use lib.Ieee.{Float}
use Rattle.rounding.specs.Arith.{◌⊗◌}
use Rattle.pairs.specs.Pairs.{Pair, pairs}
use Rattle.matching.specs.Merge.{not_after}
use Rattle.matching.specs.Comparisons.{comparisons, LeastPower}
use Rattle.matching.proofs.Counting.{ceiling, at_most_power}
use Rattle.project.specs.Camera.{camera_rows}
use Rattle.panel.specs.Points.{points_of}
use Rattle.fit.specs.declared.Pose.{Pose}
use Rattle.entry.specs.Arguments.{Call}
use Rattle.entry.specs.Check.{refusal}
use Rattle.entry.specs.Fixed.{Fixed, fixed}
use Rattle.entry.specs.declared.Matcher.{Matcher}
use Rattle.entry.specs.declared.Matcher.TheVariants.{Listing, Scanning}
use Rattle.query.specs.Query.{Cache, empty, full, query, drifted, Prediction, predictions}
use Rattle.wcs_refine.specs.Clip.{clipped}
use Rattle.wcs_refine.specs.Associate.{laid}
use Rattle.wcs_refine.specs.Round.{State, Next, go, done, refuse, Found, too_many, ordering, compared, fresh, reused, searched, rest, fitted, round, Ending, refused, ended, Run, carry, loop}
use Rattle.wcs_refine.specs.Closing.{Closed, unsound, fine, cleaned}
use Rattle.wcs_refine.specs.Call.{start, run_of, closed, finished, answer_after, answer, outcome}
use Rattle.wcs_refine.specs.Returned.{refused_with, accepted, handed, values_of, Returned, returned}
use Rattle.wcs_refine.specs.Meaning.{fit, measured, spread, radius, listed_by, predicted, found}
use Rattle.wcs_refine.specs.Ceiling.{RoundCeiling, CallCeiling}
use Rattle.wcs_refine.proofs.Along.{either}

-- ---- the comparisons on so many predictions

-- the matcher that scans makes none
ordering_within : (m : Matcher) (ps : List Pair) (n : ℕ) → comparisons not_after ps ≤ n → ordering m ps ≤ n
unfolding ordering
ordering_within Listing ps n h = h
ordering_within Scanning ps n h = omega arith

module _ (k : Fixed) (points : List Float) (r : Float) (qs : List Prediction) where
  abbrev near : List Pair
  near = pairs points k.limit (laid qs) (r ⊗ r)

  compared_least : (b : ℕ) → LeastPower (length near) b → compared k points r qs ≤ length near * b
  unfolding compared
  compared_least b h =
      either (λ (c : ℕ). c ≤ length near * b) (too_many k.matcher k.capacity (length near)) 0 (ordering k.matcher near) (omega arith)
      (ordering_within k.matcher near (length near * b) (ceiling Pair not_after near b h))

  -- where they are more than the candidate lists hold, none are put in order
  compared_held : (b : ℕ) → k.capacity ≤ 2 ^ b → compared k points r qs ≤ k.capacity * b
  unfolding compared too_many ordering
  compared_held b h = by k.matcher
    where
      listed : (x : Bool) → ltb k.capacity (length near) ≡ x → cond x 0 (comparisons not_after near) ≤ k.capacity * b
      listed true e = omega arith
      listed false e =
          let few : length near ≤ k.capacity = ltb-false k.capacity (length near) e in
          let reaches : length near ≤ 2 ^ b = omega arith in
          omega (arith, at_most_power not_after near b reaches, mul-le-mul_right b few)

      by : (m : Matcher) → cond (too_many m k.capacity (length near)) 0 (ordering m near) ≤ k.capacity * b
      by Listing = listed (ltb k.capacity (length near)) refl
      by Scanning = omega arith

-- ---- a round

module _ (k : Fixed) (spots directions : List Float) (s : State) where
  abbrev pose : Pose
  pose = (fit k spots directions s).pose

  -- what the clip leaves of the matches
  abbrev kept : List ℕ
  kept = clipped (measured k spots directions s) (spread k spots directions s) s.matches

  abbrev px : Float
  px = radius k spots directions s

  -- the comparisons on the predictions of what is listed
  abbrev compared_on : List ℕ → ℕ
  compared_on listed = compared k (points_of spots k.limit) px (predictions k directions (camera_rows pose.theta pose.ra pose.dec) listed)

  fresh_compares : (listed : List ℕ) → (fresh k spots directions pose kept px listed).comparisons ≡ compared_on listed
  unfolding fresh
  fresh_compares listed = refl

  reused_compares : (b : List Float) (theta : Float) (listed : List ℕ) (due : Bool)
      → (reused k spots directions pose kept px b theta listed due).comparisons ≡ compared_on (cond due (query k directions pose) listed)
  unfolding reused
  reused_compares b theta listed true = fresh_compares (query k directions pose)
  reused_compares b theta listed false = refl

  searched_compares : (c : Cache) → (searched k spots directions pose kept px c).comparisons ≡ compared_on (listed_by k spots directions s c)
  unfolding searched
  searched_compares empty = fresh_compares (query k directions pose)
  searched_compares (full b theta listed) = reused_compares b theta listed (drifted k pose b theta)

  -- none where the passes are refused
  round_compares : (round k spots directions s).found.comparisons
      ≡ cond (fit k spots directions s).fine (compared k (points_of spots k.limit) px (predicted k spots directions s)) 0
  unfolding round fitted rest
  round_compares = by (fit k spots directions s).fine
    where
      unfit : Found
      unfit = record { next = refuse 12; queries = []; comparisons = 0 }

      by : (b : Bool) → (cond b (searched k spots directions pose kept px s.cache) unfit).comparisons
          ≡ cond b (compared k (points_of spots k.limit) px (predicted k spots directions s)) 0
      by true = searched_compares s.cache
      by false = refl

  -- what is so of no comparison, and of those on the predictions, is so of a round's
  round_within : (n : ℕ) → compared k (points_of spots k.limit) px (predicted k spots directions s) ≤ n
      → (round k spots directions s).found.comparisons ≤ n
  round_within n h =
      let c = compared k (points_of spots k.limit) px (predicted k spots directions s) in
      let most : cond (fit k spots directions s).fine c 0 ≤ n = either (λ (m : ℕ). m ≤ n) (fit k spots directions s).fine c 0 h (omega arith) in
      omega (arith, round_compares)

pub round_ceiling : RoundCeiling
round_ceiling k spots directions s b h =
    round_within k spots directions s (found k spots directions s * b)
    (compared_least k (points_of spots k.limit) (radius k spots directions s) (predicted k spots directions s) b h)

-- ---- the loop: the largest count of its rounds

module _ (k : Fixed) (spots directions : List Float) (b : ℕ) (reaches : k.capacity ≤ 2 ^ b) where
  carry_within : (n : ℕ) (qs : List (List ℕ)) (m : ℕ) (x : Next) (f : State → Run) → m ≤ k.capacity * b
      → ((t : State) → (f t).comparisons ≤ k.capacity * b) → (carry n qs m x f).comparisons ≤ k.capacity * b
  unfolding carry
  carry_within n qs m (go s) f h g = omega (arith, g s)
  carry_within n qs m (done s) f h g = h
  carry_within n qs m (refuse y) f h g = h

  loop_within : (n : ℕ) (s : State) → (loop k spots directions n s).comparisons ≤ k.capacity * b
  unfolding loop
  loop_within zero s = omega arith
  loop_within (suc n) s =
      let r = round k spots directions s in
      carry_within r.passes r.found.queries r.found.comparisons r.found.next (λ t. loop k spots directions n t)
      (round_within k spots directions s (k.capacity * b)
      (compared_held k (points_of spots k.limit) (radius k spots directions s) (predicted k spots directions s) b reaches))
      (λ t. loop_within n t)

-- ---- a call: none where it is refused, else those of its run

module _ (c : Call) (u : Run) where
  closed_within : (x : Closed) → (values_of (closed c x u)).comparisons ≤ u.comparisons
  unfolding closed values_of refused_with accepted
  closed_within unsound = omega arith
  closed_within (fine p ms) = omega arith

  finished_within : (e : Ending) → (values_of (finished c e u)).comparisons ≤ u.comparisons
  unfolding finished values_of refused_with
  finished_within (refused n) = omega arith
  finished_within (ended s) = closed_within (cleaned (fixed c) c.spots c.directions 3 s.pose s.matches)

answered_within : (c : Call) (n : ℕ) → (values_of (answer_after c n)).comparisons ≤ (run_of c).comparisons
unfolding values_of refused_with
answered_within c zero = finished_within c (run_of c) (run_of c).ending
answered_within c (suc n) = omega arith

run_within : (c : Call) (b : ℕ) → (fixed c).capacity ≤ 2 ^ b → (run_of c).comparisons ≤ (fixed c).capacity * b
unfolding run_of
run_within c b h = loop_within (fixed c) c.spots c.directions b h c.given.rounds (start c.given)

pub call_ceiling : CallCeiling
unfolding returned outcome answer fixed
call_ceiling c r l b is h =
    let same : (handed r).comparisons ≡ (values_of (answer c)).comparisons = ap (λ (x : Returned). x.result.comparisons) is in
    omega (arith, answered_within c (refusal c), run_within c b h.reaches)
