-- A call with the matcher that scans, beside the same call with the one that lists: the start, the closing and the checks on entry read no matcher, and
-- the checks never refuse with 13. Assumes nothing.
use Rattle.std.proofs.Common.{◌≡◌, ℕ, zero, suc, ◌/◌, List, length, refl, sym, ap, ◌∙◌, inl, inr, arith}
use lib.Ieee.{Float}
use Rattle.panel.specs.Spots.{spot_numbers}
use Rattle.fit.specs.Rows.{Row, rows}
use Rattle.fit.specs.declared.Pose.{Pose}
use Rattle.entry.specs.Arguments.{Call}
use Rattle.entry.specs.Check.{counts_refused, measures_refused, numbers_refused, weights_refused, names_refused, or_else, refusal_of, refusal}
use Rattle.entry.specs.Fixed.{fixed_from, fixed, start_pose}
use Rattle.entry.specs.declared.Matcher.{Matcher}
use Rattle.entry.specs.declared.Matcher.TheVariants.{Listing, Scanning}
use Rattle.wcs_refine.specs.Round.{Ending, refused, ended, Run, loop}
use Rattle.wcs_refine.specs.Closing.{Closed, unsound, fine, cleaned, reported}
use Rattle.wcs_refine.specs.Call.{no, ok, start, run_of, closed, finished, answer_after, answer}
use Rattle.wcs_refine.specs.Returned.{values_of, refused_with, accepted}
use Rattle.wcs_refine.specs.Choice.{choosing, uncounted}
use Rattle.wcs_refine.proofs.SameButMatcher.{with_matcher, cleaned_kept, reported_kept}
use Rattle.wcs_refine.proofs.ScanningRuns.{uncounted_run, RunsAlike, runs_alike}

-- ---- the checks never refuse with 13

or_not_13 : {a b : ℕ} → (a ≡ 13 → ⊥) → (b ≡ 13 → ⊥) → or_else a b ≡ 13 → ⊥
unfolding or_else
or_not_13 {a = zero} f g e = g e
or_not_13 {a = suc a} f g e = f e

counts_not_13 : (spots matches directions rounds : ℕ) → counts_refused spots matches directions rounds ≡ 13 → ⊥
unfolding counts_refused
counts_not_13 spots matches directions rounds e = grind arith

measures_not_13 : (scale radius cut : Float) → measures_refused scale radius cut ≡ 13 → ⊥
unfolding measures_refused
measures_not_13 scale radius cut e = grind arith

numbers_not_13 : (spots directions : List Float) (rotation : List (List Float)) → numbers_refused spots directions rotation ≡ 13 → ⊥
unfolding numbers_refused
numbers_not_13 spots directions rotation e = grind arith

weights_not_13 : (spots : List Float) → weights_refused spots ≡ 13 → ⊥
unfolding weights_refused
weights_not_13 spots e = grind arith

names_not_13 : (matches : List ℕ) (s d limit numbers floats result : ℕ) → names_refused matches s d limit numbers floats result ≡ 13 → ⊥
unfolding names_refused
names_not_13 matches s d limit numbers floats result e = grind arith

refusal_not_13 : (c : Call) → refusal c ≡ 13 → ⊥
unfolding refusal refusal_of
refusal_not_13 c =
    let g = c.given in
    let l = g.lent in
    or_not_13 (counts_not_13 (length c.spots) (length g.matches) (length c.directions) g.rounds)
    (or_not_13 (measures_not_13 g.scale g.radius g.cut)
    (or_not_13 (numbers_not_13 c.spots c.directions g.rotation)
    (or_not_13 (weights_not_13 c.spots)
    (names_not_13 g.matches (length c.spots / spot_numbers) (length c.directions / 3) g.limit (length l.numbers) (length l.floats) (length l.result)))))

-- ---- the two calls

module _ (c : Call) where
  abbrev listing : Call
  listing = choosing Listing c

  abbrev scanning : Call
  scanning = choosing Scanning c

  fixed_is : (m : Matcher) → fixed (choosing m c) ≡ with_matcher m (fixed c)
  unfolding fixed fixed_from
  fixed_is m = refl

  start_is : (m : Matcher) → start (choosing m c).given ≡ start c.given
  unfolding start start_pose
  start_is m = refl

  run_is : (m : Matcher) → run_of (choosing m c) ≡ loop (with_matcher m (fixed c)) c.spots c.directions c.given.rounds (start c.given)
  unfolding run_of
  run_is m = λ i. loop (fixed_is m i) c.spots c.directions c.given.rounds (start_is m i)

  run_alike : RunsAlike (run_of listing) (run_of scanning)
  run_alike = rw (run_is Listing, run_is Scanning) (runs_alike (fixed c) c.spots c.directions c.given.rounds (start c.given))

  -- ---- the closing

  reported_same : (p : Pose) (ms : List ℕ) (rs : List Row) → reported (fixed scanning) p ms rs ≡ reported (fixed listing) p ms rs
  reported_same p ms rs = rw (fixed_is Listing, fixed_is Scanning) (reported_kept Scanning (fixed c) p ms rs ∙ sym (reported_kept Listing (fixed c) p ms rs))

  cleaned_same : (n : ℕ) (p : Pose) (ms : List ℕ) → cleaned (fixed scanning) c.spots c.directions n p ms ≡ cleaned (fixed listing) c.spots c.directions n p ms
  cleaned_same n p ms =
      rw (fixed_is Listing, fixed_is Scanning)
      (cleaned_kept Scanning (fixed c) c.spots c.directions n p ms ∙ sym (cleaned_kept Listing (fixed c) c.spots c.directions n p ms))

  closed_same : (x : Closed) (l : Run) → closed scanning x (uncounted_run l) ≡ uncounted (closed listing x l)
  unfolding closed uncounted
  closed_same unsound l = refl
  closed_same (fine p ms) l = λ i. ok (reported_same p ms (rows c.spots c.directions ms) i) l.rounds l.passes (length l.queries) 0

  finished_same : (e : Ending) (l : Run) → finished scanning e (uncounted_run l) ≡ uncounted (finished listing e l)
  unfolding finished uncounted
  finished_same (refused n) l = refl
  finished_same (ended s) l =
      ap (λ (x : Closed). closed scanning x (uncounted_run l)) (cleaned_same 3 s.pose s.matches)
      ∙ closed_same (cleaned (fixed listing) c.spots c.directions 3 s.pose s.matches) l

  refused_13 : (e : Ending) (l : Run) → e ≡ refused 13 → finished listing e l ≡ no 13
  unfolding finished
  refused_13 (refused n) l e = cc
  refused_13 (ended s) l e = cc

  after_same : (n : ℕ) → (answer_after listing n ≡ no 13 → ⊥) → answer_after scanning n ≡ uncounted (answer_after listing n)
  unfolding uncounted
  after_same zero f = elim run_alike.same [
    | inl e ↦ absurd (f (refused_13 (run_of listing).ending (run_of listing) e))
    | inr e ↦ ap (λ (r : Run). finished scanning r.ending r) e ∙ finished_same (run_of listing).ending (run_of listing)
  ]
  after_same (suc n) f = refl

  pub answers_same : (answer listing ≡ no 13 → ⊥) → answer scanning ≡ uncounted (answer listing)
  unfolding answer refusal
  answers_same = after_same (refusal c)

  -- ---- the call that scans, alone

  closed_not_13 : (x : Closed) (r : Run) → closed scanning x r ≡ no 13 → ⊥
  unfolding closed
  closed_not_13 unsound r e = cc
  closed_not_13 (fine p ms) r e = cc

  finished_not_13 : (e : Ending) (r : Run) → (e ≡ refused 13 → ⊥) → finished scanning e r ≡ no 13 → ⊥
  unfolding finished
  finished_not_13 (refused n) r l e = let h : refused n ≡ refused 13 = cc in l h
  finished_not_13 (ended s) r l e = closed_not_13 _ r e

  after_not_13 : (n : ℕ) → (n ≡ 13 → ⊥) → answer_after scanning n ≡ no 13 → ⊥
  after_not_13 zero f e = finished_not_13 (run_of scanning).ending (run_of scanning) run_alike.not_13 e
  after_not_13 (suc n) f e = let h : suc n ≡ 13 = cc in f h

  pub answer_not_13 : answer scanning ≡ no 13 → ⊥
  unfolding answer
  answer_not_13 = after_not_13 (refusal scanning) (refusal_not_13 scanning)

  closed_count : (x : Closed) (r : Run) → r.comparisons ≡ 0 → (values_of (closed scanning x r)).comparisons ≡ 0
  unfolding closed values_of refused_with accepted
  closed_count unsound r e = refl
  closed_count (fine p ms) r e = e

  finished_count : (e : Ending) (r : Run) → r.comparisons ≡ 0 → (values_of (finished scanning e r)).comparisons ≡ 0
  unfolding finished values_of refused_with
  finished_count (refused n) r e = refl
  finished_count (ended s) r e = closed_count _ r e

  after_count : (n : ℕ) → (values_of (answer_after scanning n)).comparisons ≡ 0
  unfolding values_of refused_with
  after_count zero = finished_count (run_of scanning).ending (run_of scanning) run_alike.compares_none
  after_count (suc n) = refl

  pub answer_count : (values_of (answer scanning)).comparisons ≡ 0
  unfolding answer
  answer_count = after_count (refusal scanning)
