-- The rounds one by one: what is left of them, with the counts so far, gives the whole; and what a round at most counts. Assumes nothing.
use Rattle.std.proofs.Common.{◌≡◌, ℕ, zero, suc, ◌+◌, ◌-◌, ◌<◌, ◌≤◌, max, Bool, true, false, ltb, List, [], ◌++◌, length, sym, refl, ap, ◌∙◌, subst, arith, length-append}
use lib.Ieee.{Float}
use Rattle.fit.specs.Normal.{ls_fit_once}
use Rattle.fit.specs.Rows.{Row, rows, view_of}
use Rattle.residuals.specs.Residual.{residuals}
use Rattle.fit.specs.declared.Pose.{Pose}
use Rattle.solve.specs.declared.Solution.{Solution}
use Rattle.solve.specs.declared.Solution.TheVariants.{Solved, Failed}
use Rattle.entry.specs.declared.Settings.{Settings}
use Rattle.entry.specs.Fixed.{Fixed}
use Rattle.entry.specs.Entry.{fixed_of}
use Rattle.passes.specs.Fit.{moved, sound, still, Passes, goes_on, passed, fit_passes}
use Rattle.wcs_refine.specs.Clip.{statistics, clipped}
use Rattle.query.specs.Query.{query, Cache, empty, full, drifted}
use Rattle.wcs_refine.specs.Associate.{adaptive_px}
use Rattle.wcs_refine.specs.Round.{State, Next, refuse, Found, Round, fresh, reused, searched, rest, fitted, round, Ending, refused, ended, Run, carry, loop}
use Rattle.wcs_refine.specs.Keeping.{next_of, RoundedAs, RoundTo, counts_of, RanTo}
use Rattle.wcs_refine.specs.Stepping.{round_of}
use Rattle.std.specs.Prelude.{Result, Ok}
use Rattle.refusal.specs.declared.Refusal.{Refusal}
use Rattle.wcs_refine.specs.declared.course.Course.{Course}
use Rattle.wcs_refine.specs.declared.rounds.Rounded.{Rounded}
use Rattle.wcs_refine.specs.declared.rounds.Counts.{Counts}
use Rattle.wcs_refine.proofs.Along.{either}

-- ---- at most so many passes as are asked for

one_more : (n : ℕ) (b c : Bool) (q : Pose) (after : Pose → Passes) → (after q).passes ≤ n → (goes_on b c q after).passes ≤ suc n
unfolding goes_on
one_more n false c q after h = omega arith
one_more n true true q after h = omega arith
one_more n true false q after h = omega arith

solved_more : (n : ℕ) (p : Pose) (s : Solution) (after : Pose → Passes) → ((q : Pose) → (after q).passes ≤ n) → (passed p s after).passes ≤ suc n
unfolding passed
solved_more n p Failed after h = omega arith
solved_more n p (Solved a b c) after h = one_more n (sound (moved p a b c)) (still a b c) (moved p a b c) after (h (moved p a b c))

few_passes : (n : ℕ) (cut : Float) (rs : List Row) (p : Pose) → (fit_passes n cut rs p).passes ≤ n
unfolding fit_passes
few_passes zero cut rs p = omega arith
few_passes (suc n) cut rs p =
    either (λ (x : Passes). x.passes ≤ suc n) (ltb (length rs) 3) (record { pose = p; passes = 0; fine = true })
    (passed p (ls_fit_once (view_of p cut) rs) (λ q. fit_passes n cut rs q)) (omega arith)
    (solved_more n p (ls_fit_once (view_of p cut) rs) (λ q. fit_passes n cut rs q) (λ q. few_passes n cut rs q))

-- ---- a round makes at most one query

abbrev Fair : Found → Type 0
Fair f = length f.queries ≤ 1

module _ (k : Fixed) (ss ds : List Float) (p : Pose) (ms : List ℕ) (r : Float) where
  fresh_fair : (l : List ℕ) → Fair (fresh k ss ds p ms r l)
  unfolding fresh
  fresh_fair l = omega arith

  reused_fair : (b : List Float) (theta : Float) (l : List ℕ) (t : Bool) → Fair (reused k ss ds p ms r b theta l t)
  unfolding reused
  reused_fair b theta l true = fresh_fair (query k ds p)
  reused_fair b theta l false = omega arith

  searched_fair : (c : Cache) → Fair (searched k ss ds p ms r c)
  unfolding searched
  searched_fair empty = fresh_fair (query k ds p)
  searched_fair (full b theta l) = reused_fair b theta l (drifted k p b theta)

rest_fair : (k : Fixed) (ss ds : List Float) (p : Pose) (ms : List ℕ) (c : Cache) (rs : List Float) → Fair (rest k ss ds p ms c rs)
unfolding rest
rest_fair k ss ds p ms c rs = searched_fair k ss ds p (clipped rs (statistics rs) ms) (adaptive_px k (statistics rs)) c

fitted_fair : (k : Fixed) (ss ds : List Float) (s : State) (rs : List Row) (f : Passes) → Fair (fitted k ss ds s rs f).found
unfolding fitted
fitted_fair k ss ds s rs f =
    let es = residuals (view_of f.pose k.cut) rs in
    either Fair f.fine (rest k ss ds f.pose s.matches s.cache es) (record { next = refuse 12; queries = []; comparisons = 0 })
    (rest_fair k ss ds f.pose s.matches s.cache es) (omega arith)

round_fair : (k : Fixed) (ss ds : List Float) (s : State) → Fair (round k ss ds s).found
unfolding round
round_fair k ss ds s = fitted_fair k ss ds s (rows ss ds s.matches) (fit_passes 10 k.cut (rows ss ds s.matches) s.pose)

round_passes : (k : Fixed) (ss ds : List Float) (s : State) → (round k ss ds s).passes ≤ 10
unfolding round fitted
round_passes k ss ds s = few_passes 10 k.cut (rows ss ds s.matches) s.pose

-- ---- the loop

-- How a run ends, with its counts.
pub record Sums : Type 0 where
  pub ending : Ending
  pub counts : Counts

abbrev counted : ℕ → ℕ → ℕ → ℕ → Counts
counted i p q m = record { rounds = i; passes = p; queries = q; comparisons = m }

abbrev ends : Ending → Counts → Sums
ends e c = record { ending = e; counts = c }

abbrev pub totals : Run → Sums
totals r = ends r.ending (counts_of r)

-- The same after what was counted before it.
abbrev pub later : Counts → Run → Sums
later c r =
    ends r.ending
    (counted (c.rounds + r.rounds) (c.passes + r.passes) (c.queries + length r.queries) (max c.comparisons r.comparisons))

ends_same : (e : Ending) {i j p r q u m n : ℕ} → i ≡ j → p ≡ r → q ≡ u → m ≡ n → ends e (counted i p q m) ≡ ends e (counted j r u n)
ends_same e a b c d = cc

-- a round of x passes, the queries qs and y comparisons
module _ (c : Counts) (x y : ℕ) (qs : List (List ℕ)) (s : State) (f : State → Run) where
  abbrev more : Counts
  more = counted (c.rounds + 1) (c.passes + x) (c.queries + length qs) (max c.comparisons y)

  carry_on : {b : Bool} → b ≡ false → later more (f s) ≡ later c (carry x qs y (next_of b s) f)
  unfolding next_of carry
  carry_on h =
      let r = f s in
      let i : c.rounds + 1 + r.rounds ≡ c.rounds + suc r.rounds = omega arith in
      let p : c.passes + x + r.passes ≡ c.passes + (x + r.passes) = omega arith in
      let q : c.queries + length qs + length r.queries ≡ c.queries + length (qs ++ r.queries) = omega (arith, length-append qs r.queries) in
      let m : max (max c.comparisons y) r.comparisons ≡ max c.comparisons (max y r.comparisons) = omega arith in
      ends_same r.ending i p q m ∙ ap (λ (b : Bool). later c (carry x qs y (next_of b s) f)) (sym h)

  carry_ends : {b : Bool} → b ≡ true → ends (ended s) more ≡ later c (carry x qs y (next_of b s) f)
  unfolding next_of carry
  carry_ends h = ap (λ (b : Bool). later c (carry x qs y (next_of b s) f)) (sym h)

loop_next : (k : Fixed) (ss ds : List Float) (n : ℕ) (s : State)
    → (let r = round k ss ds s in loop k ss ds (suc n) s ≡ carry r.passes r.found.queries r.found.comparisons r.found.next (λ t. loop k ss ds n t))
unfolding loop
loop_next k ss ds n s = refl

-- ---- a turn, after i rounds with counts c: a round from the state s

module _ (k : Settings) (ss ds : List Float) (s : State) where
  abbrev this : Round
  this = round (fixed_of k) ss ds s

  module _ (most i : ℕ) (c : Counts) (less : i < most) {whole : Sums} (left : later c (loop (fixed_of k) ss ds (most - i) s) ≡ whole) where
    -- the rounds after it
    abbrev onward : State → Run
    onward t = loop (fixed_of k) ss ds (most - (i + 1)) t

    turn : later c (carry this.passes this.found.queries this.found.comparisons this.found.next onward) ≡ whole
    turn =
        let e : most - i ≡ suc (most - (i + 1)) = omega arith in
        ap (later c) (sym (loop_next (fixed_of k) ss ds (most - (i + 1)) s))
        ∙ sym (ap (λ (x : ℕ). later c (loop (fixed_of k) ss ds x s)) e) ∙ left

    pub turn_refused : {x : ℕ} → refuse x ≡ this.found.next → refused x ≡ whole.ending
    unfolding carry
    turn_refused e =
        ap (λ (x : Next). (later c (carry this.passes this.found.queries this.found.comparisons x onward)).ending) e
        ∙ ap (λ (x : Sums). x.ending) turn

    -- it leaves r, and the state next; o: the most comparisons by then
    module _ (next : State) (r : Rounded) (d : RoundedAs next this r) {o : ℕ} (e : o ≡ max c.comparisons r.found.step.comparisons) where
      abbrev by_then : Counts
      by_then = counted (c.rounds + 1) (c.passes + r.passes) (c.queries + r.found.queries) o

      by_then_is : by_then ≡ more c this.passes this.found.comparisons this.found.queries next onward
      by_then_is =
          let p = d.passes in
          let q = d.found.count in
          let m : o ≡ max c.comparisons this.found.comparisons = e ∙ ap (max c.comparisons) d.found.comparisons in
          cc

      abbrev carried : Next → Sums
      carried x = later c (carry this.passes this.found.queries this.found.comparisons x onward)

      pub turn_on : r.found.step.converged ≡ false → later by_then (onward next) ≡ whole
      turn_on h =
          ap (λ (x : Counts). later x (onward next)) by_then_is
          ∙ carry_on c this.passes this.found.comparisons this.found.queries next onward h ∙ ap carried d.found.next ∙ turn

      pub turn_ends : r.found.step.converged ≡ true → ends (ended next) by_then ≡ whole
      turn_ends h =
          ap (ends (ended next)) by_then_is
          ∙ carry_ends c this.passes this.found.comparisons this.found.queries next onward h ∙ ap carried d.found.next ∙ turn

  pub turn_passes : (next : State) (r : Rounded) → RoundedAs next this r → r.passes ≤ 10
  turn_passes next r d = omega (arith, d.passes, round_passes (fixed_of k) ss ds s)

  pub turn_queries : (next : State) (r : Rounded) → RoundedAs next this r → r.found.queries ≤ 1
  turn_queries next r d = omega (arith, d.found.count, round_fair (fixed_of k) ss ds s)

-- on an equal course
pub on_course : (c d : Course) (left s : State) (r : Result Rounded Refusal) → d ≡ c → RoundTo left (round_of d s) r → RoundTo left (round_of c s) r
on_course c d left s r e h = subst (λ (x : Course). RoundTo left (round_of x s) r) e h

-- ---- after the last round, and the answer

pub rounds_end : (k : Fixed) (ss ds : List Float) (most : ℕ) (s : State) (i : ℕ) (c : Counts) {whole : Sums} → most ≤ i
    → later c (loop k ss ds (most - i) s) ≡ whole → ends (ended s) c ≡ whole
unfolding loop
rounds_end k ss ds most s i c h left =
    let e : most - i ≡ 0 = omega arith in
    let x : c.rounds ≡ c.rounds + 0 = omega arith in
    let p : c.passes ≡ c.passes + 0 = omega arith in
    let q : c.queries ≡ c.queries + 0 = omega arith in
    let m : c.comparisons ≡ max c.comparisons 0 = omega arith in
    ends_same (ended s) x p q m ∙ sym (ap (λ (x : ℕ). later c (loop k ss ds x s)) e) ∙ left

pub ran : {left : State} {u : Run} {c : Counts} → ends (ended left) c ≡ totals u → RanTo left u (Ok c)
ran e = record { ending = ap (λ (x : Sums). x.ending) e; counts = ap (λ (x : Sums). x.counts) e }
