-- Two runs with the same fixed values, the same spots within the limit, and the same directions and spots wherever a match names or a query lists them,
-- go through the same states: one round, and the loop. Assumes nothing.
use Rattle.std.proofs.Common.{◌≡◌, ℕ, zero, suc, ◌/◌, ◌<◌, Bool, true, false, cond, not, ◌&&◌, leb, List, [], ◌∷◌, length, refl, ap, ◌∙◌, subst, arith}
use lib.Ieee.{Float}
use Rattle.rounding.specs.Arith.{◌⊗◌}
use Rattle.pairs.specs.Pairs.{pairs}
use Rattle.matching.specs.Greedy.{matches_of}
use Rattle.project.specs.Camera.{boresight, camera_rows}
use Rattle.fit.specs.Rows.{Row, rows, view_of}
use Rattle.residuals.specs.Residual.{residuals}
use Rattle.fit.specs.declared.Pose.{Pose}
use Rattle.entry.specs.Fixed.{Fixed}
use Rattle.passes.specs.Fit.{Passes, fit_passes}
use Rattle.wcs_refine.specs.Clip.{statistics, clipped}
use Rattle.query.specs.Query.{Cache, empty, full, query, drifted, Prediction, predictions, pruned}
use Rattle.panel.specs.Points.{within_limit, points_of}
use Rattle.panel.proofs.Laying.{points_same}
use Rattle.wcs_refine.specs.Associate.{adaptive_px, laid, renamed, same_matches}
use Rattle.wcs_refine.specs.Round.{State, Next, go, done, refuse, Found, Round, settled, too_many, associated, compared, fresh, reused, searched, rest, fitted, round, Ending, refused, ended, Run, carry, loop}
use Rattle.wcs_refine.proofs.Along.{All, all-++, either}
use Rattle.wcs_refine.proofs.Remaining.{Predicts, found_all, clipped_all, predictions_all, pruned_all}
use Rattle.wcs_refine.proofs.Points.{points_within}
use Rattle.wcs_refine.proofs.Lookups.{SameSpot, SameDirection, Shared, rows_same, query_same, predictions_same, pruned_same}

-- ---- what a run names or lists is the same in both
module _ (sa sb da db : List Float) where
  abbrev pub Q : ℕ → Type 0
  Q = SameDirection da db

  abbrev pub CacheShared : Cache → Type 0
  CacheShared empty = Unit {0}
  CacheShared (full b t l) = All Q l

  pub record StateShared (s : State) : Type 0 where
    pub matches : Shared sa sb da db s.matches
    pub cache : CacheShared s.cache

  abbrev pub NextShared : Next → Type 0
  NextShared (go s) = StateShared s
  NextShared (done s) = StateShared s
  NextShared (refuse n) = Unit {0}

  abbrev pub EndShared : Ending → Type 0
  EndShared (refused n) = Unit {0}
  EndShared (ended s) = StateShared s

  abbrev pub ListsShared : List (List ℕ) → Type 0
  ListsShared = All (All Q)

  module _ (k : Fixed) (as_long : length sa ≡ length sb) (near : (n : ℕ) → n < within_limit sa k.limit → SameSpot sa sb n) where
    -- ---- the matcher
    abbrev seen : List Float → List Float
    seen spots = points_of spots k.limit

    seen_same : seen sa ≡ seen sb
    seen_same = points_same sa sb as_long k.limit near

    associated_shared : (p : Pose) (ms : List ℕ) (c : Cache) (r : Float) (qs : List Prediction) → Shared sa sb da db ms → CacheShared c → All (Predicts (SameSpot sa sb) Q) qs
        → NextShared (associated k (seen sa) p ms c r qs)
    unfolding associated settled
    associated_shared p ms c r qs hm hc hq =
        let new = renamed qs (matches_of (seen sa) k.limit (laid qs) (r ⊗ r)) in
        let hn : Shared sa sb da db new = found_all (SameSpot sa sb) Q (seen sa) k.limit qs (r ⊗ r) (λ n l. near n (omega (arith, points_within sa k.limit))) hq in
        either NextShared (too_many k.matcher k.capacity (length (pairs (seen sa) k.limit (laid qs) (r ⊗ r)))) (refuse 13) (settled p ms c new) tt
        (either NextShared (leb 4 (length new / 2) && not (same_matches new ms)) (go (record { pose = p; matches = new; cache = c })) (done (record { pose = p; matches = ms; cache = c }))
        (record { matches = hn; cache = hc }) (record { matches = hm; cache = hc }))

    -- ---- the search
    fresh_same : (p : Pose) (ms : List ℕ) (r : Float) (l : List ℕ) → All Q l → fresh k sa da p ms r l ≡ fresh k sb db p ms r l
    unfolding fresh
    fresh_same p ms r l h = λ t.
        let axes = camera_rows p.theta p.ra p.dec in
        let c = full (boresight p.ra p.dec) p.theta (pruned_same da db k axes l h t) in
        let qs = predictions_same da db k axes l h t in
        record { next = associated k (seen_same t) p ms c r qs; queries = l ∷ []; comparisons = compared k (seen_same t) r qs }

    asked_same : (p : Pose) (ms : List ℕ) (r : Float) → All Q (query k da p) → All Q (query k db p) → fresh k sa da p ms r (query k da p) ≡ fresh k sb db p ms r (query k db p)
    asked_same p ms r h g = fresh_same p ms r (query k da p) h ∙ ap (fresh k sb db p ms r) (query_same da db k p h g)

    reused_same : (p : Pose) (ms : List ℕ) (r : Float) (b : List Float) (th : Float) (l : List ℕ) (x : Bool) → All Q l
        → ListsShared (reused k sa da p ms r b th l x).queries → ListsShared (reused k sb db p ms r b th l x).queries → reused k sa da p ms r b th l x ≡ reused k sb db p ms r b th l x
    unfolding reused fresh
    reused_same p ms r b th l true c h g = asked_same p ms r h.0 g.0
    reused_same p ms r b th l false c h g = λ t.
        let qs = predictions_same da db k (camera_rows p.theta p.ra p.dec) l c t in
        record { next = associated k (seen_same t) p ms (full b th l) r qs; queries = []; comparisons = compared k (seen_same t) r qs }

    searched_same : (p : Pose) (ms : List ℕ) (r : Float) (c : Cache) → CacheShared c
        → ListsShared (searched k sa da p ms r c).queries → ListsShared (searched k sb db p ms r c).queries → searched k sa da p ms r c ≡ searched k sb db p ms r c
    unfolding searched fresh
    searched_same p ms r empty c h g = asked_same p ms r h.0 g.0
    searched_same p ms r (full b th l) c h g = reused_same p ms r b th l (drifted k p b th) c h g

    -- ---- the round
    chosen : (b : Bool) (x y z : Found) → (ListsShared x.queries → ListsShared y.queries → x ≡ y) → ListsShared (cond b x z).queries → ListsShared (cond b y z).queries → cond b x z ≡ cond b y z
    chosen true x y z e h g = e h g
    chosen false x y z e h g = refl

    fitted_same : (s : State) (rs : List Row) (f : Passes) → CacheShared s.cache
        → ListsShared (fitted k sa da s rs f).found.queries → ListsShared (fitted k sb db s rs f).found.queries → fitted k sa da s rs f ≡ fitted k sb db s rs f
    unfolding fitted rest
    fitted_same s rs f c h g =
        let vs = residuals (view_of f.pose k.cut) rs in
        let t = statistics vs in
        let p = f.pose in
        let ms = clipped vs t s.matches in
        let r = adaptive_px k t in
        let e = chosen f.fine (searched k sa da p ms r s.cache) (searched k sb db p ms r s.cache)
        (record { next = refuse 12; queries = []; comparisons = 0 })
        (searched_same p ms r s.cache c) h g in
        λ i. record { found = e i; passes = f.passes }

    round_same : (s : State) → StateShared s → ListsShared (round k sa da s).found.queries → ListsShared (round k sb db s).found.queries → round k sa da s ≡ round k sb db s
    unfolding round
    round_same s i h g =
        subst (λ (rs : List Row). ListsShared (fitted k sb db s rs (fit_passes 10 k.cut rs s.pose)).found.queries → round k sa da s ≡ fitted k sb db s rs (fit_passes 10 k.cut rs s.pose))
        (rows_same sa sb da db s.matches i.matches)
        (fitted_same s (rows sa da s.matches) (fit_passes 10 k.cut (rows sa da s.matches) s.pose) i.cache h) g

    -- ---- what a round leaves is shared again
    fresh_shared : (p : Pose) (ms : List ℕ) (r : Float) (l : List ℕ) → Shared sa sb da db ms → All Q l → NextShared (fresh k sa da p ms r l).next
    unfolding fresh
    fresh_shared p ms r l hm hl =
        let axes = camera_rows p.theta p.ra p.dec in
        associated_shared p ms (full (boresight p.ra p.dec) p.theta (pruned k da axes l)) r (predictions k da axes l) hm
        (pruned_all (SameSpot sa sb) Q k da axes l hl) (predictions_all (SameSpot sa sb) Q k da axes l hl)

    reused_shared : (p : Pose) (ms : List ℕ) (r : Float) (b : List Float) (th : Float) (l : List ℕ) (x : Bool) → Shared sa sb da db ms → All Q l
        → ListsShared (reused k sa da p ms r b th l x).queries → NextShared (reused k sa da p ms r b th l x).next
    unfolding reused fresh
    reused_shared p ms r b th l true hm c h = fresh_shared p ms r (query k da p) hm h.0
    reused_shared p ms r b th l false hm c h =
        let axes = camera_rows p.theta p.ra p.dec in
        associated_shared p ms (full b th l) r (predictions k da axes l) hm c (predictions_all (SameSpot sa sb) Q k da axes l c)

    searched_shared : (p : Pose) (ms : List ℕ) (r : Float) (c : Cache) → Shared sa sb da db ms → CacheShared c
        → ListsShared (searched k sa da p ms r c).queries → NextShared (searched k sa da p ms r c).next
    unfolding searched fresh
    searched_shared p ms r empty hm c h = fresh_shared p ms r (query k da p) hm h.0
    searched_shared p ms r (full b th l) hm c h = reused_shared p ms r b th l (drifted k p b th) hm c h

    chosen_shared : (b : Bool) (x : Found) → (ListsShared x.queries → NextShared x.next)
        → let z : Found = record { next = refuse 12; queries = []; comparisons = 0 } in ListsShared (cond b x z).queries → NextShared (cond b x z).next
    chosen_shared true x e h = e h
    chosen_shared false x e h = tt

    round_shared : (s : State) → StateShared s → ListsShared (round k sa da s).found.queries → NextShared (round k sa da s).found.next
    unfolding round fitted rest
    round_shared s i h =
        let rs = rows sa da s.matches in
        let f = fit_passes 10 k.cut rs s.pose in
        let vs = residuals (view_of f.pose k.cut) rs in
        let t = statistics vs in
        let ms = clipped vs t s.matches in
        chosen_shared f.fine (searched k sa da f.pose ms (adaptive_px k t) s.cache)
        (searched_shared f.pose ms (adaptive_px k t) s.cache (clipped_all (SameSpot sa sb) Q vs t s.matches i.matches) i.cache) h

    -- ---- the loop
    first : (n : ℕ) (q : List (List ℕ)) (c : ℕ) (x : Next) (f : State → Run) → ListsShared (carry n q c x f).queries → ListsShared q
    unfolding carry
    first n q c (go s) f h = (all-++ (All Q) q (f s).queries h).0
    first n q c (done s) f h = h
    first n q c (refuse m) f h = h

    abbrev pub Same : Run → Run → Type 0
    Same a b = ListsShared a.queries → ListsShared b.queries → (a ≡ b) × EndShared a.ending

    carry_same : (n : ℕ) (q : List (List ℕ)) (c : ℕ) (x : Next) (f g : State → Run) → NextShared x
        → ((t : State) → StateShared t → Same (f t) (g t)) → Same (carry n q c x f) (carry n q c x g)
    unfolding carry
    carry_same n q c (go s) f g i r h l =
        let e = r s i (all-++ (All Q) q (f s).queries h).1 (all-++ (All Q) q (g s).queries l).1 in
        (ap (λ (r : Run). carry n q c (go s) (λ t. r)) e.0, e.1)
    carry_same n q c (done s) f g i r h l = (refl, i)
    carry_same n q c (refuse m) f g i r h l = (refl, tt)

    -- a round and what follows it, as a function of the round
    abbrev onward : (State → Run) → Round → Run
    onward f r = carry r.passes r.found.queries r.found.comparisons r.found.next f

    pub loop_same : (n : ℕ) (s : State) → StateShared s → Same (loop k sa da n s) (loop k sb db n s)
    unfolding loop
    loop_same zero s i h g = (refl, i)
    loop_same (suc n) s i h g =
        let ra = round k sa da s in
        let rb = round k sb db s in
        let fa : State → Run = λ t. loop k sa da n t in
        let fb : State → Run = λ t. loop k sb db n t in
        let ha = first ra.passes ra.found.queries ra.found.comparisons ra.found.next fa h in
        let hb = first rb.passes rb.found.queries rb.found.comparisons rb.found.next fb g in
        subst (λ (r : Round). ListsShared (onward fb r).queries → (onward fa ra ≡ onward fb r) × EndShared (onward fa ra).ending) (round_same s i ha hb)
        (carry_same ra.passes ra.found.queries ra.found.comparisons ra.found.next fa fb (round_shared s i ha) (λ t j. loop_same n t j) h)
        g
