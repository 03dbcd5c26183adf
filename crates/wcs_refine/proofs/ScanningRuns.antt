-- A run with the matcher that scans, beside the same run with the one that lists: it compares nothing, is never refused with 13, and is the same in all else
-- unless the listed run is. One round, and the loop. Assumes nothing.
use Rattle.std.proofs.Common.{◌≡◌, ℕ, zero, suc, ◌+◌, ◌/◌, max, Bool, true, false, cond, not, ◌&&◌, ltb, leb, List, [], ◌∷◌, ◌++◌, length, refl, ap, ◌∙◌, ◌⊎◌, inl, inr, arith}
use lib.Ieee.{Float}
use Rattle.rounding.specs.Arith.{◌⊗◌}
use Rattle.pairs.specs.Pairs.{Pair, pairs}
use Rattle.matching.specs.Greedy.{matches_of}
use Rattle.project.specs.Camera.{boresight, camera_rows}
use Rattle.panel.specs.Points.{points_of}
use Rattle.fit.specs.Rows.{rows, view_of}
use Rattle.residuals.specs.Residual.{residuals}
use Rattle.fit.specs.declared.Pose.{Pose}
use Rattle.entry.specs.Fixed.{Fixed}
use Rattle.entry.specs.declared.Matcher.{Matcher}
use Rattle.entry.specs.declared.Matcher.TheVariants.{Listing, Scanning}
use Rattle.passes.specs.Fit.{Passes, fit_passes}
use Rattle.query.specs.Query.{Cache, empty, full, query, drifted, Prediction, predictions, pruned}
use Rattle.wcs_refine.specs.Clip.{statistics, clipped}
use Rattle.wcs_refine.specs.Associate.{adaptive_px, laid, renamed, same_matches}
use Rattle.wcs_refine.specs.Round.{State, Next, go, done, refuse, Found, settled, too_many, associated, ordering, compared, fresh, reused, searched, rest, fitted, round, refused, Run, carry, loop}
use Rattle.wcs_refine.proofs.Along.{either}
use Rattle.wcs_refine.proofs.SameButMatcher.{with_matcher, query_kept, drifted_kept, radius_kept, predictions_kept, pruned_kept}

-- ---- what is shown of a search

-- the same search, of no comparisons
abbrev uncompared : Found → Found
uncompared x = record { next = x.next; queries = x.queries; comparisons = 0 }

-- x with the matcher that lists, y with the one that scans
record SearchesAlike (x y : Found) : Type 0 where
  compares_none : y.comparisons ≡ 0
  not_13 : y.next ≡ refuse 13 → ⊥
  same : (x.next ≡ refuse 13) ⊎ (y ≡ uncompared x)

-- what the matcher's answer is made into, after the queries `asked`
abbrev turned : Fixed → List Float → Pose → List ℕ → Cache → Float → List Prediction → List (List ℕ) → Found
turned k points p ms c r qs asked = record { next = associated k points p ms c r qs; queries = asked; comparisons = compared k points r qs }

module _ (k : Fixed) where
  abbrev listing : Fixed
  listing = with_matcher Listing k

  abbrev scanning : Fixed
  scanning = with_matcher Scanning k

  settled_not_13 : (p : Pose) (ms : List ℕ) (c : Cache) (new : List ℕ) → settled p ms c new ≡ refuse 13 → ⊥
  unfolding settled
  settled_not_13 p ms c new =
      either (λ (x : Next). x ≡ refuse 13 → ⊥) (leb 4 (length new / 2) && not (same_matches new ms))
      (go (record { pose = p; matches = new; cache = c })) (done (record { pose = p; matches = ms; cache = c })) (λ e. cc) (λ e. cc)

  turned_alike : (points : List Float) (p : Pose) (ms : List ℕ) (c : Cache) (r : Float) (qs : List Prediction) (asked : List (List ℕ))
      → SearchesAlike (turned listing points p ms c r qs asked) (turned scanning points p ms c r qs asked)
  unfolding associated compared too_many ordering
  turned_alike points p ms c r qs asked = by (ltb k.capacity (length near))
    where
      near : List Pair
      near = pairs points k.limit (laid qs) (r ⊗ r)

      new : List ℕ
      new = renamed qs (matches_of points k.limit (laid qs) (r ⊗ r))

      next : Next
      next = settled p ms c new

      by : (b : Bool) → SearchesAlike (record { next = cond b (refuse 13) next; queries = asked; comparisons = cond b 0 (ordering Listing near) })
          (record { next = next; queries = asked; comparisons = 0 })
      by true = record { compares_none = refl; not_13 = settled_not_13 p ms c new; same = inl refl }
      by false = record { compares_none = refl; not_13 = settled_not_13 p ms c new; same = inr refl }

  -- ---- a round

  module _ (spots directions : List Float) where
    fresh_is : (m : Matcher) (p : Pose) (ms : List ℕ) (r : Float) (listed : List ℕ)
        → let axes = camera_rows p.theta p.ra p.dec in
        fresh (with_matcher m k) spots directions p ms r listed
        ≡ turned (with_matcher m k) (points_of spots k.limit) p ms (full (boresight p.ra p.dec) p.theta (pruned k directions axes listed)) r
        (predictions k directions axes listed) (listed ∷ [])
    unfolding fresh
    fresh_is m p ms r listed = λ i.
        let axes = camera_rows p.theta p.ra p.dec in
        turned (with_matcher m k) (points_of spots k.limit) p ms (full (boresight p.ra p.dec) p.theta (pruned_kept m k directions axes listed i)) r
        (predictions_kept m k directions axes listed i) (listed ∷ [])

    fresh_alike : (p : Pose) (ms : List ℕ) (r : Float) (listed : List ℕ)
        → SearchesAlike (fresh listing spots directions p ms r listed) (fresh scanning spots directions p ms r listed)
    fresh_alike p ms r listed = rw (fresh_is Listing p ms r listed, fresh_is Scanning p ms r listed) (turned_alike _ _ _ _ _ _ _)

    asked_alike : (p : Pose) (ms : List ℕ) (r : Float)
        → SearchesAlike (fresh listing spots directions p ms r (query listing directions p)) (fresh scanning spots directions p ms r (query scanning directions p))
    asked_alike p ms r = rw (query_kept Listing k directions p, query_kept Scanning k directions p) (fresh_alike p ms r (query k directions p))

    reused_alike : (p : Pose) (ms : List ℕ) (r : Float) (b : List Float) (theta : Float) (listed : List ℕ) (due : Bool)
        → SearchesAlike (reused listing spots directions p ms r b theta listed due) (reused scanning spots directions p ms r b theta listed due)
    unfolding reused
    reused_alike p ms r b theta listed true = asked_alike p ms r
    reused_alike p ms r b theta listed false =
        let axes = camera_rows p.theta p.ra p.dec in
        rw (predictions_kept Listing k directions axes listed, predictions_kept Scanning k directions axes listed)
        (turned_alike (points_of spots k.limit) p ms (full b theta listed) r (predictions k directions axes listed) [])

    searched_alike : (p : Pose) (ms : List ℕ) (r : Float) (c : Cache) → SearchesAlike (searched listing spots directions p ms r c) (searched scanning spots directions p ms r c)
    unfolding searched
    searched_alike p ms r empty = asked_alike p ms r
    searched_alike p ms r (full b theta listed) =
        rw (drifted_kept Listing k p b theta, drifted_kept Scanning k p b theta) (reused_alike p ms r b theta listed (drifted k p b theta))

    rest_alike : (p : Pose) (ms : List ℕ) (c : Cache) (rs : List Float) → SearchesAlike (rest listing spots directions p ms c rs) (rest scanning spots directions p ms c rs)
    unfolding rest
    rest_alike p ms c rs =
        let t = statistics rs in
        rw (radius_kept Listing k t, radius_kept Scanning k t) (searched_alike p (clipped rs t ms) (adaptive_px k t) c)

    fit_alike : (b : Bool) (x y : Found) → SearchesAlike x y
        → let unfit : Found = record { next = refuse 12; queries = []; comparisons = 0 } in SearchesAlike (cond b x unfit) (cond b y unfit)
    fit_alike true x y h = h
    fit_alike false x y h = record { compares_none = refl; not_13 = λ e. cc; same = inr refl }

    -- the passes of a round, with either matcher
    abbrev passes_of : State → Passes
    passes_of s = fit_passes 10 k.cut (rows spots directions s.matches) s.pose

    round_alike : (s : State) → SearchesAlike (round listing spots directions s).found (round scanning spots directions s).found
    unfolding round fitted
    round_alike s =
        let rs = rows spots directions s.matches in
        let f = passes_of s in
        fit_alike f.fine _ _ (rest_alike f.pose s.matches s.cache (residuals (view_of f.pose k.cut) rs))

    passes_same : (m : Matcher) (s : State) → (round (with_matcher m k) spots directions s).passes ≡ (passes_of s).passes
    unfolding round fitted
    passes_same m s = refl

-- ---- the loop

-- the same run, of no comparisons
abbrev pub uncounted_run : Run → Run
uncounted_run r = record { ending = r.ending; rounds = r.rounds; passes = r.passes; queries = r.queries; comparisons = 0 }

-- x with the matcher that lists, y with the one that scans
pub record RunsAlike (x y : Run) : Type 0 where
  pub compares_none : y.comparisons ≡ 0
  pub not_13 : y.ending ≡ refused 13 → ⊥
  pub same : (x.ending ≡ refused 13) ⊎ (y ≡ uncounted_run x)

module _ (f g : State → Run) (h : (t : State) → RunsAlike (f t) (g t)) (n : ℕ) where
  carry_none : (qs : List (List ℕ)) (x : Next) → (carry n qs 0 x g).comparisons ≡ 0
  unfolding carry
  carry_none qs (go s) = omega (arith, (h s).compares_none)
  carry_none qs (done s) = refl
  carry_none qs (refuse y) = refl

  carry_not_13 : (qs : List (List ℕ)) (m : ℕ) (x : Next) → (x ≡ refuse 13 → ⊥) → (carry n qs m x g).ending ≡ refused 13 → ⊥
  unfolding carry
  carry_not_13 qs m (go s) l e = (h s).not_13 e
  carry_not_13 qs m (done s) l e = cc
  carry_not_13 qs m (refuse y) l e = let i : refuse y ≡ refuse 13 = cc in l i

  carry_same : (qs : List (List ℕ)) (m : ℕ) (x : Next) → ((carry n qs m x f).ending ≡ refused 13) ⊎ (carry n qs 0 x g ≡ uncounted_run (carry n qs m x f))
  unfolding carry
  carry_same qs m (go s) = elim (h s).same [
    | inl e ↦ inl e
    | inr e ↦ inr (ap (λ (r : Run). record { ending = r.ending; rounds = suc r.rounds; passes = n + r.passes; queries = qs ++ r.queries; comparisons = max 0 r.comparisons }) e)
  ]
  carry_same qs m (done s) = inr refl
  carry_same qs m (refuse y) = inr refl

  refused_ends : (qs : List (List ℕ)) (m : ℕ) → (carry n qs m (refuse 13) f).ending ≡ refused 13
  unfolding carry
  refused_ends qs m = refl

  carry_alike : (x y : Found) → SearchesAlike x y → RunsAlike (carry n x.queries x.comparisons x.next f) (carry n y.queries y.comparisons y.next g)
  carry_alike x y a = record {
    compares_none = ap (λ (m : ℕ). (carry n y.queries m y.next g).comparisons) a.compares_none ∙ carry_none y.queries y.next;
    not_13 = carry_not_13 y.queries y.comparisons y.next a.not_13;
    same = elim a.same [
      | inl e ↦ inl (ap (λ (z : Next). (carry n x.queries x.comparisons z f).ending) e ∙ refused_ends x.queries x.comparisons)
      | inr e ↦ elim (carry_same x.queries x.comparisons x.next) [
        | inl d ↦ inl d
        | inr d ↦ inr (ap (λ (z : Found). carry n z.queries z.comparisons z.next g) e ∙ d)
      ]
    ];
  }

pub runs_alike : (k : Fixed) (spots directions : List Float) (n : ℕ) (s : State)
    → RunsAlike (loop (with_matcher Listing k) spots directions n s) (loop (with_matcher Scanning k) spots directions n s)
unfolding loop
runs_alike k spots directions zero s = record { compares_none = refl; not_13 = λ e. cc; same = inr refl }
runs_alike k spots directions (suc n) s =
    rw (passes_same k spots directions Listing s, passes_same k spots directions Scanning s)
    (carry_alike (λ t. loop (with_matcher Listing k) spots directions n t) (λ t. loop (with_matcher Scanning k) spots directions n t)
    (λ t. runs_alike k spots directions n t) _ _ _ (round_alike k spots directions s))
