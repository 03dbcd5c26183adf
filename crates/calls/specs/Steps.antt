-- The steps of a refinement call, over plain variables: from equations on one pass, one search, one closing, each small enough to be computed,
-- to the outcome of the whole call. Assumes nothing.
use Rattle.std.specs.Prelude.{◌≡◌, Bool, false, Option, Some, None, ltb, length}
use Rattle.std.proofs.Math.Path.{refl}
use Rattle.std.proofs.Common.{◌∙◌}
use Rattle.std.proofs.Math.Bool.{true, cond}
use mathlib.Core.List.{List, [], ◌∷◌, ◌++◌}
use Prim.Native.Nat.{ℕ, zero, suc, ◌+◌, ◌/◌, max}
use Rattle.std.specs.Float.Ieee.{Float}
use Rattle.rounding.specs.Arith.{zero64}
use Rattle.stats.specs.declared.MedianSigma.{MedianSigma}
use Rattle.project.specs.Camera.{boresight, camera_rows}
use Rattle.panel.specs.Points.{points_of}
use Rattle.fit.specs.Rows.{Row, rows, view_of}
use Rattle.fit.specs.Normal.{no_matches, with_rows, normal_matrix, solved_sums, ls_fit_once}
use Rattle.residuals.specs.Residual.{residuals, in_front, mad_clip_matches}
use Rattle.solve.specs.Covariance.{covariance_from_normal}
use Rattle.project.specs.Project.{cd_from_theta}
use Rattle.fit.specs.declared.Pose.{Pose}
use Rattle.fit.specs.declared.Counted.{Counted}
use Rattle.fit.specs.declared.View.{View}
use Rattle.solve.specs.declared.Solution.TheVariants.{Solved}
use Rattle.entry.specs.Arguments.{Call}
use Rattle.entry.specs.Check.{refusal}
use Rattle.entry.specs.Fixed.{Fixed, fixed}
use Rattle.passes.specs.Fit.{Passes, fit_passes, passed, goes_on, moved, sound, still}
use Rattle.wcs_refine.specs.Clip.{statistics, clipped, taken}
use Rattle.wcs_refine.specs.Associate.{adaptive_px}
use Rattle.query.specs.Query.{empty, full, query, axis32, least_cos, scanned, drifted, Prediction, predictions, pruned}
use Rattle.wcs_refine.specs.Round.{State, Next, go, done, refuse, Found, Round, associated, compared, fresh, reused, searched, rest, fitted, round}
use Rattle.wcs_refine.specs.Round.{Ending, refused, ended, Run, carry, loop}
use Rattle.wcs_refine.specs.Closing.{Closed, fine, if_sound, refitted, recleaned, cleaned_by, cleaned, sum_squares, root_mean, Report, reported}
use Rattle.wcs_refine.specs.Call.{Answer, no, ok, start, run_of, queries, queries_after, closed, finished, answer, answer_after, left, Outcome, outcome}

-- ---- the passes of the fit

-- One pass over the rows rs from the pose p: the view, the sums, the solution, and the pose q that it moves to, sound or not, at rest or not.
pub record Pass
    (cut : Float) (rs : List Row) (p : Pose) (w : View) (t : Counted) (a b c : Float) (q : Pose) (whole rests : Bool)
    : Type 0 where
  pub enough : ltb (length rs) 3 ≡ false
  pub view : view_of p cut ≡ w
  pub sums : with_rows true w no_matches rs ≡ t
  pub solution : solved_sums t ≡ Solved a b c
  pub pose : moved p a b c ≡ q
  pub soundness : sound q ≡ whole
  pub stillness : still a b c ≡ rests

-- What the passes come to, by its parts.
abbrev pub passes_of : Pose → ℕ → Bool → Passes
passes_of p n b = record { pose = p; passes = n; fine = b }

module _ {cut : Float} {rs : List Row} {p : Pose} {w : View} {t : Counted} {a b c : Float} {q : Pose} where
  one_pass : {whole rests : Bool} (n : ℕ) → Pass cut rs p w t a b c q whole rests →
      fit_passes (suc n) cut rs p ≡ goes_on whole rests q (λ u. fit_passes n cut rs u)
  unfolding fit_passes passed ls_fit_once
  one_pass n h =
      let next : Pose → Passes = λ u. fit_passes n cut rs u in
      (λ i. cond (h.enough i) (passes_of p 0 true)
      (passed p (solved_sums (with_rows true (h.view i) no_matches rs)) next))
      ∙ (λ i. passed p (solved_sums (h.sums i)) next)
      ∙ (λ i. passed p (h.solution i) next)
      ∙ (λ i. goes_on (sound (h.pose i)) (still a b c) (h.pose i) next)
      ∙ (λ i. goes_on (h.soundness i) (h.stillness i) q next)

  -- The pass is the last one, since the pose rests (`last_pass`) or is not sound (`unsound_pass`); or others follow (`next_pass`).
  pub last_pass : (n : ℕ) → Pass cut rs p w t a b c q true true → fit_passes (suc n) cut rs p ≡ passes_of q 1 true
  unfolding goes_on
  last_pass n h = one_pass n h

  pub unsound_pass :
      {rests : Bool} (n : ℕ) → Pass cut rs p w t a b c q false rests → fit_passes (suc n) cut rs p ≡ passes_of q 1 false
  unfolding goes_on
  unsound_pass n h = one_pass n h

  pub next_pass : {u : Pose} {m : ℕ} {d : Bool} (n : ℕ) → Pass cut rs p w t a b c q true false →
      fit_passes n cut rs q ≡ passes_of u m d → fit_passes (suc n) cut rs p ≡ passes_of u (suc m) d
  unfolding goes_on
  next_pass n h e = one_pass n h ∙ (λ i. passes_of (e i).pose (suc (e i).passes) (e i).fine)

-- Fewer than three rows have no pass.
pub no_pass : (n : ℕ) (cut : Float) (rs : List Row) (p : Pose) → ltb (length rs) 3 ≡ true
    → fit_passes (suc n) cut rs p ≡ passes_of p 0 true
unfolding fit_passes
no_pass n cut rs p h =
    λ i. cond (h i) (passes_of p 0 true) (passed p (ls_fit_once (view_of p cut) rs) (λ u. fit_passes n cut rs u))

-- ---- the search

-- Residuals at the pose p, their statistics, the matches after the clip, and the radius of the search.
pub record Measured (k : Fixed) (rs : List Row) (p : Pose) (ms : List ℕ) (w : View) (vs : List Float) (st : Option MedianSigma)
    (left : List ℕ) (r : Float) : Type 0 where
  pub view : view_of p k.cut ≡ w
  pub values : residuals w rs ≡ vs
  pub summary : statistics vs ≡ st
  pub clip : clipped vs st ms ≡ left
  pub radius : adaptive_px k st ≡ r

-- A search, a round and a run by their parts.
abbrev pub found_of : Next → List (List ℕ) → ℕ → Found
found_of x qs y = record { next = x; queries = qs; comparisons = y }

abbrev pub round_of : Next → List (List ℕ) → ℕ → ℕ → Round
round_of x qs n y = record { found = found_of x qs y; passes = n }

abbrev pub ran_of : Ending → ℕ → ℕ → List (List ℕ) → ℕ → Run
ran_of e r n q y = record { ending = e; rounds = r; passes = n; queries = q; comparisons = y }

-- A fresh query at the pose p, what is cached of it, the predictions, what the matcher comes to, and its comparisons.
pub record Queried (k : Fixed) (spots directions : List Float) (p : Pose) (ms : List ℕ) (r : Float)
    (b axis : List Float) (c : Float)
    (listed : List ℕ) (m : List (List Float)) (near : List ℕ) (qs : List Prediction) (x : Next) (y : ℕ) : Type 0 where
  pub centre : boresight p.ra p.dec ≡ b
  pub narrow : axis32 b ≡ axis
  pub least : least_cos k ≡ c
  pub scan : scanned directions axis c 0 k.count ≡ listed
  pub camera : camera_rows p.theta p.ra p.dec ≡ m
  pub cached : pruned k directions m listed ≡ near
  pub places : predictions k directions m listed ≡ qs
  pub matcher : associated k (points_of spots k.limit) p ms (full b p.theta near) r qs ≡ x
  pub counted : compared k (points_of spots k.limit) r qs ≡ y

module _ {k : Fixed} {spots directions : List Float} {p : Pose} {ms : List ℕ} {r : Float} {b axis : List Float}
    {c : Float}
    {listed : List ℕ} {m : List (List Float)} {near : List ℕ} {qs : List Prediction} {x : Next} {y : ℕ}
    (h : Queried k spots directions p ms r b axis c listed m near qs x y) where
  fresh_found : fresh k spots directions p ms r (query k directions p) ≡ found_of x (listed ∷ []) y
  unfolding fresh query
  fresh_found =
      let found : List ℕ → Found = λ l. fresh k spots directions p ms r l in
      (λ i. found (scanned directions (axis32 (h.centre i)) (least_cos k) 0 k.count))
      ∙ (λ i. found (scanned directions (h.narrow i) (h.least i) 0 k.count))
      ∙ (λ i. found (h.scan i))
      ∙ (λ i. found_of (associated k (points_of spots k.limit) p ms (full (h.centre i) p.theta (pruned k directions (h.camera i) listed)) r
      (predictions k directions (h.camera i) listed)) (listed ∷ [])
      (compared k (points_of spots k.limit) r (predictions k directions (h.camera i) listed)))
      ∙ (λ i. found_of (associated k (points_of spots k.limit) p ms (full b p.theta (h.cached i)) r (h.places i)) (listed ∷ [])
      (compared k (points_of spots k.limit) r (h.places i)))
      ∙ (λ i. found_of (h.matcher i) (listed ∷ []) (h.counted i))

  -- The first search of a call has nothing cached; a later one queries anew where the pose has drifted.
  pub first_search : searched k spots directions p ms r empty ≡ found_of x (listed ∷ []) y
  unfolding searched
  first_search = fresh_found

  pub new_search : (b0 : List Float) (t0 : Float) (l0 : List ℕ) → drifted k p b0 t0 ≡ true →
      searched k spots directions p ms r (full b0 t0 l0) ≡ found_of x (listed ∷ []) y
  unfolding searched reused
  new_search b0 t0 l0 d = (λ i. reused k spots directions p ms r b0 t0 l0 (d i)) ∙ fresh_found

-- A search by the query that is cached, from which the pose p has not drifted.
pub record Reused (k : Fixed) (spots directions : List Float) (p : Pose) (ms : List ℕ) (r : Float) (b : List Float)
    (t : Float) (listed : List ℕ)
    (m : List (List Float)) (qs : List Prediction) (x : Next) (y : ℕ) : Type 0 where
  pub near : drifted k p b t ≡ false
  pub camera : camera_rows p.theta p.ra p.dec ≡ m
  pub places : predictions k directions m listed ≡ qs
  pub matcher : associated k (points_of spots k.limit) p ms (full b t listed) r qs ≡ x
  pub counted : compared k (points_of spots k.limit) r qs ≡ y

-- The search with what is cached.
pub same_search :
    {k : Fixed} {spots directions : List Float} {p : Pose} {ms : List ℕ} {r : Float} {b : List Float} {t : Float}
    {listed : List ℕ}
    {m : List (List Float)} {qs : List Prediction} {x : Next} {y : ℕ} → Reused k spots directions p ms r b t listed m qs x y →
    searched k spots directions p ms r (full b t listed) ≡ found_of x [] y
unfolding searched reused
same_search {k} {spots} {directions} {p} {ms} {r} {b} {t} {listed} h =
    (λ i. reused k spots directions p ms r b t listed (h.near i))
    ∙ (λ i. found_of (associated k (points_of spots k.limit) p ms (full b t listed) r (predictions k directions (h.camera i) listed)) []
    (compared k (points_of spots k.limit) r (predictions k directions (h.camera i) listed)))
    ∙ (λ i. found_of (associated k (points_of spots k.limit) p ms (full b t listed) r (h.places i)) [] (compared k (points_of spots k.limit) r (h.places i)))
    ∙ (λ i. found_of (h.matcher i) [] (h.counted i))

module _ (k : Fixed) (spots directions : List Float) where
  -- ---- the round

  -- The passes are fine, and the search comes to x, with y comparisons.
  pub whole_round :
      (s : State) {rs : List Row} {p : Pose} {n : ℕ} {w : View} {vs : List Float} {st : Option MedianSigma} {ms : List ℕ}
      {r : Float}
      {x : Next} {q : List (List ℕ)} {y : ℕ} → rows spots directions s.matches ≡ rs
      → fit_passes 10 k.cut rs s.pose ≡ passes_of p n true →
      Measured k rs p s.matches w vs st ms r →
      searched k spots directions p ms r s.cache ≡ found_of x q y → round k spots directions s ≡ round_of x q n y
  unfolding round fitted rest
  whole_round s {rs} {p} {n} {w} {vs} {st} {ms} {r} e f h g =
      let found : List Float → Round = λ v. record { found = rest k spots directions p s.matches s.cache v; passes = n } in
      let by : List ℕ → Float → Round = λ l x. record { found = searched k spots directions p l x s.cache; passes = n } in
      (λ i. fitted k spots directions s (e i) (fit_passes 10 k.cut (e i) s.pose))
      ∙ (λ i. fitted k spots directions s rs (f i))
      ∙ (λ i. found (residuals (h.view i) rs))
      ∙ (λ i. found (h.values i))
      ∙ (λ i. by (clipped vs (h.summary i) s.matches) (adaptive_px k (h.summary i)))
      ∙ (λ i. by (h.clip i) (h.radius i))
      ∙ (λ i. record { found = g i; passes = n })

  -- A pass leaves the pose unsound: refusal 12.
  pub unsound_round : (s : State) {rs : List Row} {p : Pose} {n : ℕ} →
      rows spots directions s.matches ≡ rs → fit_passes 10 k.cut rs s.pose ≡ passes_of p n false →
      round k spots directions s ≡ round_of (refuse 12) [] n 0
  unfolding round fitted
  unsound_round s {rs} e f =
      (λ i. fitted k spots directions s (e i) (fit_passes 10 k.cut (e i) s.pose)) ∙
      (λ i. fitted k spots directions s rs (f i))

  -- ---- the loop

  -- A round after which the loop goes on, is done or refuses, and the loop with no round left.
  one_round : (n : ℕ) (s : State) {x : Next} {q : List (List ℕ)} {m y : ℕ} →
      round k spots directions s ≡ round_of x q m y → loop k spots directions (suc n) s
      ≡ carry m q y x (λ t. loop k spots directions n t)
  unfolding loop
  one_round n s e = λ i. carry (e i).passes (e i).found.queries (e i).found.comparisons (e i).found.next (λ t. loop k spots directions n t)

  pub go_round :
      (n : ℕ) (s : State) {t : State} {q : List (List ℕ)} {m y : ℕ} {z : Ending} {r l : ℕ} {u : List (List ℕ)} {v : ℕ} →
      round k spots directions s ≡ round_of (go t) q m y → loop k spots directions n t ≡ ran_of z r l u v →
      loop k spots directions (suc n) s ≡ ran_of z (suc r) (m + l) (q ++ u) (max y v)
  unfolding carry
  go_round n s {t} {q} {m} {y} e f =
      one_round n s e
      ∙ (λ i. ran_of (f i).ending (suc (f i).rounds) (m + (f i).passes) (q ++ (f i).queries) (max y (f i).comparisons))

  pub done_round : (n : ℕ) (s : State) {t : State} {q : List (List ℕ)} {m y : ℕ} →
      round k spots directions s ≡ round_of (done t) q m y → loop k spots directions (suc n) s ≡ ran_of (ended t) 1 m q y
  unfolding carry
  done_round n s e = one_round n s e

  pub refused_round : (n : ℕ) (s : State) {z : ℕ} {q : List (List ℕ)} {m y : ℕ} →
      round k spots directions s ≡ round_of (refuse z) q m y → loop k spots directions (suc n) s ≡ ran_of (refused z) 1 m q y
  unfolding carry
  refused_round n s e = one_round n s e

  pub no_round : (s : State) → loop k spots directions zero s ≡ ran_of (ended s) 0 0 [] 0
  unfolding loop
  no_round s = refl

  -- ---- the closing

  -- Fewer than six matches are not clipped.
  pub no_clip : (n : ℕ) (p : Pose) (ms : List ℕ) → ltb (length ms / 2) 6 ≡ true
      → cleaned k spots directions (suc n) p ms ≡ fine p ms
  unfolding cleaned
  no_clip n p ms h = rw h

-- A clip of the matches ms at the pose p: what it answers, and the matches afterwards.
pub record Clipping (k : Fixed) (spots directions : List Float) (p : Pose) (ms : List ℕ) (rs : List Row) (w : View)
    (vs : List Float)
    (st : MedianSigma) (c : Option ℕ) (new : List ℕ) : Type 0 where
  pub enough : ltb (length ms / 2) 6 ≡ false
  pub looked : rows spots directions ms ≡ rs
  pub view : view_of p k.cut ≡ w
  pub values : residuals w rs ≡ vs
  pub summary : statistics vs ≡ Some st
  pub clip : mad_clip_matches vs ms st.median st.sigma ≡ record { answer = c; matches = new }

-- The fit on the matches that a clip has kept.
pub record Refit (k : Fixed) (spots directions : List Float) (p : Pose) (kept : List ℕ) (rs : List Row) (w : View)
    (t : Counted) (a b c : Float)
    (q : Pose) : Type 0 where
  pub looked : rows spots directions kept ≡ rs
  pub view : view_of p k.cut ≡ w
  pub sums : with_rows true w no_matches rs ≡ t
  pub solution : solved_sums t ≡ Solved a b c
  pub pose : moved p a b c ≡ q
  pub soundness : sound q ≡ true

module _ {k : Fixed} {spots directions : List Float} {p : Pose} {ms : List ℕ} {rs : List Row} {w : View}
    {vs : List Float} {st : MedianSigma} where
  one_clip : {c : Option ℕ} {new : List ℕ} (n : ℕ) → Clipping k spots directions p ms rs w vs st c new →
      cleaned k spots directions (suc n) p ms
      ≡ recleaned k spots directions p ms c new (λ q kept. cleaned k spots directions n q kept)
  unfolding cleaned cleaned_by
  one_clip n h =
      let after : Pose → List ℕ → Closed = λ q kept. cleaned k spots directions n q kept in
      let by : List Float → Closed = λ v. cleaned_by k spots directions p ms v (statistics v) after in
      (λ i. cond (h.enough i) (fine p ms) (by (residuals (view_of p k.cut) (h.looked i))))
      ∙ (λ i. by (residuals (h.view i) rs))
      ∙ (λ i. by (h.values i))
      ∙ (λ i. cleaned_by k spots directions p ms vs (h.summary i) after)
      ∙ (λ i. recleaned k spots directions p ms (h.clip i).answer (h.clip i).matches after)

  -- Nothing is clipped; or a fit follows on what is kept, and then the next clip.
  pub last_clip : {new : List ℕ} (n : ℕ) → Clipping k spots directions p ms rs w vs st None new →
      cleaned k spots directions (suc n) p ms ≡ fine p ms
  unfolding recleaned
  last_clip n h = one_clip n h

  pub next_clip :
      {j : ℕ} {new kept : List ℕ} {rs' : List Row} {w' : View} {t : Counted} {a b c : Float} {q : Pose} {z : Closed}
      (n : ℕ) →
      Clipping k spots directions p ms rs w vs st (Some j) new → taken (Some j) ms new ≡ kept
      → Refit k spots directions p kept rs' w' t a b c q →
      cleaned k spots directions n q kept ≡ z → cleaned k spots directions (suc n) p ms ≡ z
  unfolding recleaned refitted ls_fit_once if_sound
  next_clip {kept = kept} {q = q} n h l f e =
      let after : Pose → Closed = λ u. cleaned k spots directions n u kept in
      one_clip n h
      ∙ (λ i. refitted p (ls_fit_once (view_of p k.cut) (rows spots directions (l i))) (λ u. cleaned k spots directions n u (l i)))
      ∙ (λ i. refitted p (solved_sums (with_rows true (f.view i) no_matches (f.looked i))) after)
      ∙ (λ i. refitted p (solved_sums (f.sums i)) after)
      ∙ (λ i. refitted p (f.solution i) after)
      ∙ (λ i. if_sound (sound (f.pose i)) (f.pose i) after)
      ∙ (λ i. if_sound (f.soundness i) q after)
      ∙ e

-- The report on the pose p and the rows rs.
pub record Reported (k : Fixed) (p : Pose) (rs : List Row) (w : View) (vs : List Float) (sum : Float) (t : Counted)
    (cd : List (List Float)) (rms : Float) (cov : List (List Float)) : Type 0 where
  pub view : view_of p k.cut ≡ w
  pub values : in_front (residuals w rs) ≡ vs
  pub squares : sum_squares vs zero64 ≡ sum
  pub normal : normal_matrix w rs ≡ t
  pub matrix : cd_from_theta p.theta k.scale k.mirror ≡ cd
  pub mean : root_mean sum vs ≡ rms
  pub spread : covariance_from_normal t.sums.ata sum t.n ≡ cov

-- A report by its parts.
abbrev pub report_of : Pose → List (List Float) → Float → List (List Float) → List ℕ → Report
report_of p cd rms cov ms = record { pose = p; cd = cd; rms = rms; covariance = cov; matches = ms }

whole_report : {k : Fixed} {p : Pose} {rs : List Row} {w : View} {vs : List Float} {sum : Float} {t : Counted}
    {cd : List (List Float)} {rms : Float} {cov : List (List Float)} (ms : List ℕ) →
    Reported k p rs w vs sum t cd rms cov → reported k p ms rs ≡ report_of p cd rms cov ms
unfolding reported
whole_report {k} {p} {rs} {w} {vs} {sum} {t} {cd} {rms} {cov} ms h =
    let by : List Float → Float → Counted → Report = λ v s m.
    report_of p (cd_from_theta p.theta k.scale k.mirror) (root_mean s v)
    (covariance_from_normal m.sums.ata s m.n) ms in
    (λ i. by (in_front (residuals (h.view i) rs)) (sum_squares (in_front (residuals (h.view i) rs)) zero64)
    (normal_matrix (h.view i) rs))
    ∙ (λ i. by (h.values i) (sum_squares (h.values i) zero64) (h.normal i))
    ∙ (λ i. by vs (h.squares i) t)
    ∙ (λ i. report_of p (h.matrix i) (h.mean i) (h.spread i) ms)

-- ---- the call

-- The call is accepted, and its run starts with k and s.
pub record Begun (c : Call) (k : Fixed) (s : State) : Type 0 where
  pub accepted : refusal c ≡ 0
  pub same : fixed c ≡ k
  pub begins : start c.given ≡ s

-- The outcome of a call by its answer, with the lists that such an answer leaves.
abbrev pub outcome_of : Call → Answer → Outcome
outcome_of c a = record { answer = a; lent = left c.given.lent 0 a }

module _ {c : Call} {k : Fixed} {s : State} (h : Begun c k s) where
  ran : {r : Run} → loop k c.spots c.directions c.given.rounds s ≡ r → run_of c ≡ r
  unfolding run_of
  ran e = (λ i. loop (h.same i) c.spots c.directions c.given.rounds (h.begins i)) ∙ e

  -- The queries of an accepted call are those of its run, whatever that comes to.
  pub queried_call : {z : Ending} {r n : ℕ} {q : List (List ℕ)} {y : ℕ} →
      loop k c.spots c.directions c.given.rounds s ≡ ran_of z r n q y → queries c ≡ q
  unfolding queries
  queried_call e = (λ i. queries_after c (h.accepted i)) ∙ (λ i. (ran e i).queries)

  outcome_of_lem : {a : Answer} → answer c ≡ a → outcome c ≡ outcome_of c a
  unfolding outcome
  outcome_of_lem e = λ i. record { answer = e i; lent = left c.given.lent (h.accepted i) (e i) }

  -- A refusal of the run is the call's.
  pub refused_call :
      {z r n : ℕ} {q : List (List ℕ)} {y : ℕ} → loop k c.spots c.directions c.given.rounds s ≡ ran_of (refused z) r n q y
      → outcome c ≡ outcome_of c (no z)
  unfolding answer finished
  refused_call e = outcome_of_lem ((λ i. answer_after c (h.accepted i)) ∙ (λ i. finished c (ran e i).ending (ran e i)))

  -- An accepted call reports on what the closing leaves.
  pub accepted_call :
      {t : State} {r n : ℕ} {q : List (List ℕ)} {y : ℕ} {p : Pose} {ms : List ℕ} {rs : List Row} {w : View} {vs : List Float}
      {sum : Float} {m : Counted} {cd : List (List Float)} {rms : Float} {cov : List (List Float)} →
      loop k c.spots c.directions c.given.rounds s ≡ ran_of (ended t) r n q y →
      cleaned k c.spots c.directions 3 t.pose t.matches ≡ fine p ms →
      rows c.spots c.directions ms ≡ rs → Reported k p rs w vs sum m cd rms cov →
      outcome c ≡ outcome_of c (ok (report_of p cd rms cov ms) r n (length q) y)
  unfolding answer finished closed
  accepted_call {t} {r} {n} {q} {y} {p} {ms} {rs} e f g u =
      let end : Run = ran_of (ended t) r n q y in
      outcome_of_lem
      ((λ i. answer_after c (h.accepted i))
      ∙ (λ i. finished c (ran e i).ending (ran e i))
      ∙ (λ i. closed c (cleaned (h.same i) c.spots c.directions 3 t.pose t.matches) end)
      ∙ (λ i. closed c (f i) end)
      ∙ (λ i. ok (reported (h.same i) p ms (g i)) r n (length q) y)
      ∙ (λ i. ok (whole_report ms u i) r n (length q) y))
