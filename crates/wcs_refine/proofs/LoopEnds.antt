-- Where the loop ends: in a state with no more matches than the start, or than spots within the limit, or with a refusal. Assumes nothing.
use Rattle.stats.specs.declared.MedianSigma.{MedianSigma}
use Rattle.std.specs.Prelude.{Option, Some, None}
use Rattle.std.proofs.Common.{◌≡◌, ℕ, zero, suc, ◌+◌, ◌*◌, ◌/◌, ◌≤◌, Bool, true, false, not, ◌&&◌, leb, List, [], length, refl, arith, length-take}
use lib.Ieee.{Float}
use Rattle.rounding.specs.Arith.{◌⊗◌}
use Rattle.pairs.specs.Pairs.{pairs}
use Rattle.matching.specs.Greedy.{matches_of}
use Rattle.project.specs.Camera.{boresight, camera_rows}
use Rattle.fit.specs.Rows.{Row, rows, view_of}
use Rattle.residuals.specs.Residual.{residuals, mad_clip_matches}
use Rattle.fit.specs.declared.Pose.{Pose}
use Rattle.entry.specs.Fixed.{Fixed}
use Rattle.passes.specs.Fit.{Passes, fit_passes}
use Rattle.wcs_refine.specs.Clip.{statistics, taken, clipped}
use Rattle.query.specs.Query.{Cache, empty, full, query, drifted, Prediction, predictions, pruned}
use Rattle.panel.specs.Points.{within_limit, points_of}
use Rattle.wcs_refine.specs.Associate.{adaptive_px, laid, renamed, same_matches}
use Rattle.wcs_refine.specs.Round.{State, Next, go, done, refuse, Found, settled, too_many, associated, fresh, reused, searched, rest, fitted, round, Ending, refused, ended, Run, carry, loop}
use Rattle.wcs_refine.proofs.Points.{points_within}
use Rattle.wcs_refine.proofs.Along.{either}
use Rattle.wcs_refine.proofs.ClipSteps.{clip_fewer}
use Rattle.wcs_refine.proofs.FewMatches.{few_matches, length_renamed}

-- ---- a clip leaves no more

taken_shorter : (c : Option ℕ) (ms new : List ℕ) → ((n : ℕ) → c ≡ Some n → n ≤ length ms / 2) → length (taken c ms new) ≤ length ms
unfolding taken
taken_shorter None ms new h = omega arith
taken_shorter (Some n) ms new h = omega (arith, h n refl, length-take (n + n) new)

clipped_shorter : (rs : List Float) (t : Option MedianSigma) (ms : List ℕ) → length (clipped rs t ms) ≤ length ms
unfolding clipped
clipped_shorter rs None ms = omega arith
clipped_shorter rs (Some t) ms =
    let x = mad_clip_matches rs ms t.median t.sigma in
    taken_shorter x.answer ms x.matches (clip_fewer rs ms x.matches t.median t.sigma {c = x.answer} refl)

-- ---- a round

module _ (k : Fixed) (spots directions : List Float) (m : ℕ) (room : 2 * within_limit spots k.limit ≤ m) where
  abbrev Small : Next → Type 0
  Small (go s) = length s.matches ≤ m
  Small (done s) = length s.matches ≤ m
  Small (refuse x) = Unit {0}

  settled_small : (p : Pose) (ms : List ℕ) (c : Cache) (new : List ℕ) → length ms ≤ m → length new ≤ m → Small (settled p ms c new)
  unfolding settled
  settled_small p ms c new h g =
      either Small (leb 4 (length new / 2) && not (same_matches new ms)) (go (record { pose = p; matches = new; cache = c })) (done (record { pose = p; matches = ms; cache = c })) g h

  associated_small : (p : Pose) (ms : List ℕ) (c : Cache) (r : Float) (qs : List Prediction) → length ms ≤ m → Small (associated k (points_of spots k.limit) p ms c r qs)
  unfolding associated
  associated_small p ms c r qs h =
      let points = points_of spots k.limit in
      let new = renamed qs (matches_of points k.limit (laid qs) (r ⊗ r)) in
      let few : length new ≤ m =
      omega (arith, few_matches points k.limit (laid qs) (r ⊗ r), points_within spots k.limit, length_renamed qs (matches_of points k.limit (laid qs) (r ⊗ r)), room) in
      either Small (too_many k.matcher k.capacity (length (pairs points k.limit (laid qs) (r ⊗ r)))) (refuse 13) (settled p ms c new) tt (settled_small p ms c new h few)

  fresh_small : (p : Pose) (ms : List ℕ) (r : Float) (listed : List ℕ) → length ms ≤ m → Small (fresh k spots directions p ms r listed).next
  unfolding fresh
  fresh_small p ms r listed h =
      let rows = camera_rows p.theta p.ra p.dec in
      associated_small p ms (full (boresight p.ra p.dec) p.theta (pruned k directions rows listed)) r (predictions k directions rows listed) h

  reused_small : (p : Pose) (ms : List ℕ) (r : Float) (b : List Float) (theta : Float) (listed : List ℕ) (d : Bool) → length ms ≤ m
      → Small (reused k spots directions p ms r b theta listed d).next
  unfolding reused
  reused_small p ms r b theta listed true h = fresh_small p ms r (query k directions p) h
  reused_small p ms r b theta listed false h =
      associated_small p ms (full b theta listed) r (predictions k directions (camera_rows p.theta p.ra p.dec) listed) h

  searched_small : (p : Pose) (ms : List ℕ) (r : Float) (c : Cache) → length ms ≤ m → Small (searched k spots directions p ms r c).next
  unfolding searched
  searched_small p ms r empty h = fresh_small p ms r (query k directions p) h
  searched_small p ms r (full b theta listed) h = reused_small p ms r b theta listed (drifted k p b theta) h

  rest_small : (p : Pose) (ms : List ℕ) (c : Cache) (rs : List Float) → length ms ≤ m → Small (rest k spots directions p ms c rs).next
  unfolding rest
  rest_small p ms c rs h =
      let less : length (clipped rs (statistics rs) ms) ≤ m = omega (arith, clipped_shorter rs (statistics rs) ms, h) in
      searched_small p (clipped rs (statistics rs) ms) (adaptive_px k (statistics rs)) c less

  fitted_small : (s : State) (rs : List Row) (f : Passes) → length s.matches ≤ m → Small (fitted k spots directions s rs f).found.next
  unfolding fitted
  fitted_small s rs f h =
      let x = residuals (view_of f.pose k.cut) rs in
      either (λ (y : Found). Small y.next) f.fine (rest k spots directions f.pose s.matches s.cache x)
      (record { next = refuse 12; queries = []; comparisons = 0 })
      (rest_small f.pose s.matches s.cache x h) tt

  round_small : (s : State) → length s.matches ≤ m → Small (round k spots directions s).found.next
  unfolding round
  round_small s h = fitted_small s (rows spots directions s.matches) (fit_passes 10 k.cut (rows spots directions s.matches) s.pose) h

  -- ---- the loop

  abbrev pub Ends : Ending → Type 0
  Ends (refused x) = Unit {0}
  Ends (ended s) = length s.matches ≤ m

  carry_ends : (n : ℕ) (qs : List (List ℕ)) (c : ℕ) (x : Next) (f : State → Run) → Small x
      → ((s : State) → length s.matches ≤ m → Ends (f s).ending) → Ends (carry n qs c x f).ending
  unfolding carry
  carry_ends n qs c (go s) f h g = g s h
  carry_ends n qs c (done s) f h g = h
  carry_ends n qs c (refuse x) f h g = h

  pub loop_ends : (n : ℕ) (s : State) → length s.matches ≤ m → Ends (loop k spots directions n s).ending
  unfolding loop
  loop_ends zero s h = h
  loop_ends (suc n) s h =
      let r = round k spots directions s in
      carry_ends r.passes r.found.queries r.found.comparisons r.found.next (λ t. loop k spots directions n t) (round_small s h) (λ t g. loop_ends n t g)
