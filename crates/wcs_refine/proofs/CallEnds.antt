-- From the run's start to what the call hands back: the start, the closing, the answer, and the lists. Assumes nothing.
use Rattle.std.specs.Prelude.{Result, Ok, Err, IsErrAnd}
use Rattle.refusal.specs.declared.Refusal.{Refusal}
use Rattle.refusal.specs.Number.{number_of}
use Rattle.std.proofs.Common.{◌≡◌, ℕ, zero, suc, ◌+◌, ◌*◌, ◌/◌, ◌%◌, ◌≤◌, false, List, length, take, drop, replicate, sym, refl, ap, ◌∙◌, subst, arith, length-take-le, take_at}
use lib.Ieee.{Float}
use Rattle.rounding.specs.Arith.{zero64}
use Rattle.fit.specs.Rows.{rows}
use Rattle.fit.specs.declared.Pose.{Pose}
use Rattle.pairs.specs.Candidates.{capacity}
use Rattle.entry.specs.Arguments.{Call, Given, Lent, spot_count, match_count, direction_count, total}
use Rattle.entry.specs.Check.{refusal}
use Rattle.entry.specs.Fixed.{Fixed, fixed}
use Rattle.entry.specs.Entry.{fixed_of}
use Rattle.entry.specs.declared.Settings.{Settings}
use Rattle.query.specs.Query.{Cache, empty}
use Rattle.lists.specs.Fronted.{fronted}
use Rattle.wcs_refine.specs.Round.{State, Ending, refused, ended, Run, loop}
use Rattle.wcs_refine.specs.Closing.{Closed, unsound, fine, cleaned, Report, reported}
use Rattle.wcs_refine.specs.Cleaning.{closed_of, CleanedTo, report_of}
use Rattle.wcs_refine.specs.Keeping.{cache_of, counts_of, RanTo}
use Rattle.wcs_refine.specs.Call.{Answer, no, ok, start, run_of, closed, finished, answer_after, answer, cleared, left, outcome}
use Rattle.wcs_refine.specs.Returned.{Values, refused_with, accepted, values_of, handed, Returned, returned, lists, Answers}
use Rattle.wcs_refine.specs.Ending.{concluded, ending_at, closing_of, answer_of, result_after, Answered}
use Rattle.wcs_refine.specs.Stepping.{loop_of}
use Rattle.panel.specs.Points.{within_limit}
use Rattle.wcs_refine.specs.declared.WcsRefineResult.{WcsRefineResult}
use Rattle.wcs_refine.specs.declared.cleaning.Cleaned.{Cleaned}
use Rattle.wcs_refine.specs.declared.reporting.Numbers.{Numbers}
use Rattle.wcs_refine.specs.declared.rounds.Counts.{Counts}
use Rattle.wcs_refine.specs.declared.course.Course.{Course}
use Rattle.wcs_refine.proofs.LoopEnds.{Ends, loop_ends}
use Rattle.wcs_refine.proofs.CallBounds.{passed}

-- ---- the start

abbrev state : Pose → List ℕ → Cache → State
state p ms c = record { pose = p; matches = ms; cache = c }

pub begin_state : (ms l after : List ℕ) (p q : Pose) → after ≡ fronted ms l → length ms % 2 ≡ 0 → p ≡ q → (b : List Float) (t : Float) (x : List ℕ)
    → state p (take (2 * (length ms / 2)) after) (cache_of false b t x) ≡ state q ms empty
unfolding cache_of
begin_state ms l after p q e even f b t x =
    let n : length ms ≡ 2 * (length ms / 2) = omega arith in
    ap (λ (y : Pose). state y (take (2 * (length ms / 2)) after) empty) f
    ∙ ap (λ (y : List ℕ). state q y empty) (ap (take (2 * (length ms / 2))) e ∙ take_at ms (drop (length ms) l) (2 * (length ms / 2)) n)

-- ---- the closing

module _ (k : Settings) (ss ds : List Float) (p : Pose) (used : ℕ) (before after l : List ℕ) (n : Counts) where
  abbrev pub Closes : List ℕ → Result WcsRefineResult Refusal → Type 0
  Closes out v = Answered (concluded (fixed_of k) ss ds (cleaned (fixed_of k) ss ds 3 p (take (2 * used) before)) n) l out v

  closes : (r : Result Cleaned Refusal) → CleanedTo k.cut ss ds p used before after r → {out : List ℕ} {v : Result WcsRefineResult Refusal}
      → Answered (concluded (fixed_of k) ss ds (closed_of r after) n) l out v → Closes out v
  closes r d {out} {v} a =
      subst (λ (y : Closed). Answered (concluded (fixed_of k) ss ds y n) l out v) (d.closed (fixed_of k) refl) a

  pub closes_unsound : (x : Refusal) → CleanedTo k.cut ss ds p used before after (Err x) → Closes l (Err x)
  unfolding concluded values_of result_after handed
  closes_unsound x d = closes (Err x) d (record { values = ap (λ (y : Refusal). refused_with (number_of y)) d.refusal; list = refl })

  -- of the first j numbers, which are the matches that are left, the report and the front of the result list
  module _ (q : Cleaned) (d : CleanedTo k.cut ss ds p used before after (Ok q)) (j : ℕ) (x : Numbers) {out : List ℕ} (is : j ≡ 2 * q.used) (long : length after ≡ length before)
      (fits : 2 * used ≤ length before)
      (w : report_of x q.pose (take j after) ≡ reported (fixed_of k) q.pose (take j after) (rows ss ds (take j after)))
      (o : out ≡ fronted (take j after) l) where
    front_count : length (take j after) / 2 ≡ q.used
    front_count =
        let room : j ≤ length after = omega (arith, is, long, fits, d.fewer) in
        omega (arith, length-take-le j after room, is)

    abbrev answered : WcsRefineResult
    answered = record {
      matches = q.used;
      rounds = n.rounds;
      passes = n.passes;
      queries = n.queries;
      comparisons = n.comparisons;
      pose = q.pose;
      cd = x.cd;
      rmse_rad = x.rms;
      cov = x.cov;
    }

    handed_is : handed (Ok answered) ≡ accepted (report_of x q.pose (take j after)) n.rounds n.passes n.queries n.comparisons
    unfolding handed accepted
    handed_is =
        ap (λ (m : ℕ). record {
          refusal = 0;
          matches = m;
          rounds = n.rounds;
          passes = n.passes;
          queries = n.queries;
          comparisons = n.comparisons;
          pose = q.pose;
          cd = x.cd;
          rmse_rad = x.rms;
          cov = x.cov;
        }) (sym front_count)

    pub closes_fine : Closes out (Ok answered)
    unfolding concluded values_of result_after
    closes_fine =
        let ms = take j after in
        let whole : fine q.pose ms ≡ fine q.pose (take (2 * q.used) after) = ap (λ (m : ℕ). fine q.pose (take m after)) is in
        let it : Answered (ok (report_of x q.pose ms) n.rounds n.passes n.queries n.comparisons) l out (Ok answered) = record { values = handed_is; list = o } in
        closes (Ok q) d
        (subst (λ (y : Closed). Answered (concluded (fixed_of k) ss ds y n) l out (Ok answered)) whole
        (subst (λ (y : Report). Answered (ok y n.rounds n.passes n.queries n.comparisons) l out (Ok answered)) w it))

-- ---- what the start and the run are lent

count_is : (c : Call) → (fixed c).count ≡ direction_count c
unfolding fixed
count_is c = refl

capacity_is : (c : Call) → (fixed c).capacity ≡ capacity c.given.lent.distances c.given.lent.indices
unfolding fixed
capacity_is c = refl

pub begin_fits : (c : Call) → refusal c ≡ 0 → (length c.given.matches ≤ length c.given.lent.numbers) × (length c.given.matches % 2 ≡ 0)
begin_fits c lawful = (omega (arith, (passed c lawful).even, (passed c lawful).numbers), (passed c lawful).even)

module _ (c : Call) (k : Settings) (same : fixed_of k ≡ fixed c) where
  pub count_fits : k.count ≡ direction_count c
  count_fits = ap (λ (x : Fixed). x.count) same ∙ count_is c

  pub room_fits : spot_count c + k.count ≤ total c
  room_fits = omega (arith, count_fits)

-- the lists of a call have room for its course, and for the state that its run starts from
pub run_fits : (c : Call) → refusal c ≡ 0 → (k : Settings) → fixed_of k ≡ fixed c → (used : ℕ) → used ≡ match_count c
    → (numbers : List ℕ) → length numbers ≡ length c.given.lent.numbers
    → (16 * total c ≤ length numbers) × (16 * total c ≤ length c.given.lent.floats)
    × (k.capacity ≡ capacity c.given.lent.distances c.given.lent.indices) × (used ≤ total c) × (0 ≤ k.count)
run_fits c lawful k same used e numbers long =
    let b = passed c lawful in (
      omega (arith, b.numbers, long),
      omega (arith, b.floats),
      ap (λ (x : Fixed). x.capacity) same ∙ capacity_is c,
      omega (arith, e),
      omega arith,
    )

-- ---- the answer of a run

module _ (c : Course) (most : ℕ) (s left : State) where
  abbrev made : Run
  made = loop_of c most s

  abbrev ends_in : Ending → Counts → Answer
  ends_in e n = ending_at (fixed_of c.k) c.spots.now c.directions.now e n

  pub run_refused : (x : Refusal) → RanTo left made (Err x) → (l : List ℕ) → Answered (answer_of c most s) l l (Err x)
  unfolding values_of result_after handed
  run_refused x ran l =
      let it : Answered (no (number_of x)) l l (Err x) = record { values = refl; list = refl } in
      subst (λ (y : Ending). Answered (ends_in y (counts_of made)) l l (Err x)) ran it

  module _ (n : Counts) (ran : RanTo left made (Ok n)) where
    pub run_ended : {l out : List ℕ} {v : Result WcsRefineResult Refusal} → Answered (closing_of c left n) l out v → Answered (answer_of c most s) l out v
    run_ended {l} {out} {v} a =
        subst (λ (y : Ending). Answered (ends_in y (counts_of made)) l out v) ran.ending
        (subst (λ (m : Counts). Answered (ends_in (ended left) m) l out v) ran.counts a)

    -- no more matches are left than there were, or than spots within the limit
    pub run_leaves : (m : ℕ) → 2 * within_limit c.spots.now c.k.limit ≤ m → length s.matches ≤ m → length left.matches ≤ m
    run_leaves m room few =
        subst (Ends (fixed_of c.k) c.spots.now c.directions.now m room) (sym ran.ending)
        (loop_ends (fixed_of c.k) c.spots.now c.directions.now m room most s few)

-- ---- the answer of a call that passes the checks

limit_is : (c : Call) → (fixed c).limit ≡ c.given.limit
unfolding fixed
limit_is c = refl

starts_with : (g : Given) → (start g).matches ≡ g.matches
unfolding start
starts_with g = refl

run_is : (c : Call) → loop (fixed c) c.spots c.directions c.given.rounds (start c.given) ≡ run_of c
unfolding run_of
run_is c = refl

closed_is : (c : Call) (x : Closed) (u : Run) → concluded (fixed c) c.spots c.directions x (counts_of u) ≡ closed c x u
unfolding closed concluded
closed_is c unsound u = refl
closed_is c (fine p ms) u = refl

finished_is : (c : Call) (e : Ending) (u : Run) → ending_at (fixed c) c.spots c.directions e (counts_of u) ≡ finished c e u
unfolding finished
finished_is c (refused x) u = refl
finished_is c (ended s) u = closed_is c (cleaned (fixed c) c.spots c.directions 3 s.pose s.matches) u

-- the result list has room for the matches that a run starts from, and for one of each spot within the limit
pub result_fits : (c : Call) → refusal c ≡ 0 → (k : Settings) → fixed_of k ≡ fixed c → (used : ℕ) → used ≡ match_count c
    → (c.given.rounds ≤ 64) × (2 * used ≤ length c.given.lent.result) × (2 * within_limit c.spots k.limit ≤ length c.given.lent.result)
result_fits c lawful k same used e =
    let b = passed c lawful in (
      b.rounds,
      omega (arith, e, b.result),
      omega (arith, ap (λ (x : Fixed). x.limit) same, limit_is c, b.result),
    )

module _ (c : Call) (lawful : refusal c ≡ 0) where
  abbrev by : Run → Answer
  by u = ending_at (fixed c) c.spots c.directions u.ending (counts_of u)

  pub answer_is : (d : Course) (s : State) → fixed_of d.k ≡ fixed c → d.spots.now ≡ c.spots → d.directions.now ≡ c.directions → s ≡ start c.given
      → answer_of d c.given.rounds s ≡ answer c
  unfolding answer
  answer_is d s same ss ds begun =
      ap (λ (x : Fixed). (let u = loop x d.spots.now d.directions.now c.given.rounds s in ending_at x d.spots.now d.directions.now u.ending (counts_of u))) same
      ∙ ap (λ (x : List Float). (let u = loop (fixed c) x d.directions.now c.given.rounds s in ending_at (fixed c) x d.directions.now u.ending (counts_of u))) ss
      ∙ ap (λ (x : List Float). (let u = loop (fixed c) c.spots x c.given.rounds s in ending_at (fixed c) c.spots x u.ending (counts_of u))) ds
      ∙ ap (λ (x : State). by (loop (fixed c) c.spots c.directions c.given.rounds x)) begun
      ∙ ap by (run_is c) ∙ finished_is c (run_of c).ending (run_of c) ∙ ap (answer_after c) (sym lawful)

-- ---- the lists

left_late : (l : Lent) (a : Answer) → cleared (result_after l.result a) l ≡ left l 0 a
unfolding left result_after
left_late l (no n) = refl
left_late l (ok r rounds passes queries comparisons) = refl

left_early : (l : Lent) (n : ℕ) (a : Answer) → (n ≡ 0 → ⊥) → l ≡ left l n a
unfolding left
left_early l zero a f = absurd (f refl)
left_early l (suc n) a f = refl

abbrev both : Values → Lent → Returned
both r l = record { result = r; lent = l }

both_is : (c : Call) → both (values_of (answer c)) (left c.given.lent (refusal c) (answer c)) ≡ returned (outcome c)
unfolding returned outcome
both_is c = refl

cleared_is : (result : List ℕ) (l : Lent) (a b d e : ℕ) → a ≡ length l.numbers → b ≡ length l.floats → d ≡ length l.distances → e ≡ length l.indices
    → lists (replicate a 0) (replicate b zero64) (replicate d zero64) (replicate e 0) result ≡ cleared result l
unfolding cleared
cleared_is result l a b d e i j m n = rw (i, j, m, n)

-- the run's answer, and its lists cleared
pub run_returns : (c : Call) → refusal c ≡ 0 → {out : List ℕ} {v : Result WcsRefineResult Refusal} → Answered (answer c) c.given.lent.result out v
    → (a b d e : ℕ) → a ≡ length c.given.lent.numbers → b ≡ length c.given.lent.floats → d ≡ length c.given.lent.distances → e ≡ length c.given.lent.indices
    → {ns : List ℕ} {fs ds : List Float} {is : List ℕ} → ns ≡ replicate a 0 → fs ≡ replicate b zero64 → ds ≡ replicate d zero64 → is ≡ replicate e 0
    → Answers c v (lists ns fs ds is out)
run_returns c lawful {out} {v} w a b d e i j m n {ns} {fs} {ds} {is} p q s t =
    let l = c.given.lent in
    let lent : lists ns fs ds is out ≡ left l (refusal c) (answer c) =
    ap (λ (x : List ℕ). lists x fs ds is out) p ∙ ap (λ (x : List Float). lists (replicate a 0) x ds is out) q ∙ ap (λ (x : List Float). lists (replicate a 0) (replicate b zero64) x is out) s
    ∙ ap (λ (x : List ℕ). lists (replicate a 0) (replicate b zero64) (replicate d zero64) x out) t ∙ cleared_is out l a b d e i j m n
    ∙ ap (λ (x : List ℕ). cleared x l) w.list ∙ left_late l (answer c) ∙ ap (λ (n : ℕ). left l n (answer c)) (sym lawful) in
    ap (λ (x : Values). both x (lists ns fs ds is out)) w.values ∙ ap (both (values_of (answer c))) lent ∙ both_is c

answer_early : (c : Call) (n : ℕ) → refusal c ≡ n → (n ≡ 0 → ⊥) → answer c ≡ no n
unfolding answer
answer_early c zero e f = absurd (f refl)
answer_early c (suc n) e f = ap (answer_after c) e

-- refused by a check: nothing is written
pub check_returns : (c : Call) (n : ℕ) → n ≡ refusal c → (n ≡ 0 → ⊥) → (v : Result WcsRefineResult Refusal) → handed v ≡ refused_with n → Answers c v c.given.lent
unfolding values_of
check_returns c n e f v w =
    let l = c.given.lent in
    let is : no n ≡ answer c = sym (answer_early c n (sym e) f) in
    let lent : l ≡ left l (refusal c) (answer c) = left_early l n (answer c) f ∙ ap (λ (x : ℕ). left l x (answer c)) e in
    ap (λ (x : Values). both x l) w ∙ ap (λ (x : Answer). both (values_of x) l) is ∙ ap (both (values_of (answer c))) lent ∙ both_is c

-- a refusal handed on by `?`
pub handed_on : (v : Result WcsRefineResult Refusal) (r : Refusal) → IsErrAnd v (λ e. e ≡ r) → handed v ≡ refused_with (number_of r)
unfolding handed
handed_on (Ok x) r h = absurd h
handed_on (Err e) r h = ap (λ (x : Refusal). refused_with (number_of x)) h
