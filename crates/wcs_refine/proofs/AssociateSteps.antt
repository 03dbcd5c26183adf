-- The answers of the association: refused, the state as it came, or with the new matches. Assumes nothing.
use Rattle.std.proofs.Common.{◌≡◌, ℕ, ◌+◌, ◌-◌, ◌*◌, ◌/◌, ◌<◌, ◌≤◌, Bool, true, false, cond, not, ◌&&◌, leb, List, ◌++◌, length, get_or, take, drop, sym, refl, ap, ◌∙◌, subst, arith, length-append, length-drop, get_or-drop, get_or-take, take-take, take_at, get_or-append-add, ext_get_or, le-leb}
use borrow.Author.Tests.{lt-leb}
use lib.Seq.{slice, length-slice}
use lib.Ieee.{Float}
use Rattle.rounding.specs.Arith.{◌⊗◌}
use Rattle.pairs.specs.Pairs.{pairs}
use Rattle.matching.specs.Greedy.{Match, flat, matches_of}
use Rattle.pairs.specs.Candidates.{capacity}
use Rattle.fit.specs.declared.Pose.{Pose}
use Rattle.entry.specs.declared.Settings.{Settings}
use Rattle.entry.specs.Entry.{fixed_of}
use Rattle.query.specs.Query.{Cache, Prediction}
use Rattle.wcs_refine.specs.Associate.{laid, renamed, same_matches}
use Rattle.wcs_refine.specs.Listing.{renamed_by}
use Rattle.wcs_refine.specs.Round.{State, Next, go, done, refuse, settled, too_many, ordering, associated, compared}
use Rattle.wcs_refine.specs.Keeping.{cache_of, held_cache, held_matches, held_state, next_of, Fits, Predicted, StepAs, AssociatedTo}
use Rattle.wcs_refine.specs.Comparing.{Kept, Comparable, Compared, NewAt, Tallied, FoundTo}
use Rattle.wcs_refine.specs.declared.associating.Tally.{Tally}
use Rattle.query.specs.declared.Held.{Held}
use Rattle.std.specs.Prelude.{Result, Ok, Err, is_err, IfOk}
use Rattle.std.proofs.lemmas.Result.{IfErr-at_err}
use Rattle.refusal.specs.declared.Refusal.{Refusal}
use Rattle.refusal.specs.declared.Refusal.TheVariants.{ManyPairs}
use Rattle.refusal.specs.Number.{number_of}
use Rattle.wcs_refine.proofs.Meant.{renamed_is}
use Rattle.wcs_refine.proofs.NewMatches.{lone_matches, renamed_many}
use Rattle.wcs_refine.proofs.FindSteps.{slice_front}
use Rattle.wcs_refine.proofs.TableSteps.{kept_back}

-- ---- parts that stay

slice_at_place : (a e j : ℕ) (l : List ℕ) → a + j < e → get_or (slice a e l) j 0 ≡ get_or l (a + j) 0
slice_at_place a e j l h = get_or-drop a (take e l) j 0 ∙ get_or-take e l (a + j) 0 h

-- a part behind the table
slice_kept : (base n a e : ℕ) (m o : List ℕ) → Kept base n m o → base + n ≤ a → e ≤ length o → slice a e m ≡ slice a e o
slice_kept base n a e m o k h fits =
    let long : e ≤ length m = omega (arith, k.long) in
    ext_get_or 0 (slice a e m) (slice a e o) (length-slice a e m long ∙ sym (length-slice a e o fits))
    (λ j p.
    let q : a + j < e = omega (arith, length-slice a e m long) in
    slice_at_place a e j m q ∙ kept_back base n m o k (a + j) (omega arith) ∙ sym (slice_at_place a e j o q))

-- a part behind what was brought to the front
slice_behind : (a e : ℕ) (x l : List ℕ) (k : ℕ) → length x ≡ k → k ≤ a → a ≤ e → e ≤ length l → slice a e (x ++ drop k l) ≡ slice a e l
slice_behind a e x l k s h low fits =
    let long : e ≤ length (x ++ drop k l) = omega (arith, length-append x (drop k l), length-drop k l) in
    ext_get_or 0 (slice a e (x ++ drop k l)) (slice a e l) (length-slice a e (x ++ drop k l) long ∙ sym (length-slice a e l fits))
    (λ j p.
    let q : a + j < e = omega (arith, length-slice a e (x ++ drop k l) long) in
    let u : a + j ≡ length x + (a + j - k) = omega arith in
    let v : k + (a + j - k) ≡ a + j = omega arith in
    slice_at_place a e j (x ++ drop k l) q ∙ ap (λ (i : ℕ). get_or (x ++ drop k l) i 0) u ∙ get_or-append-add x (drop k l) (a + j - k) 0
    ∙ get_or-drop k l (a + j - k) 0 ∙ ap (λ (i : ℕ). get_or l i 0) v ∙ sym (slice_at_place a e j l q))

state_of : {p : Pose} {ms ms' : List ℕ} {c c' : Cache} → ms ≡ ms' → c ≡ c' → ◌≡◌ {A = State} (record { pose = p; matches = ms; cache = c }) (record { pose = p; matches = ms'; cache = c' })
state_of u v = cc

matches_same : (n : ℕ) (h : Held) (m o : List ℕ) → h.used ≤ n → take (4 * n) m ≡ take (4 * n) o → held_matches h m ≡ held_matches h o
matches_same n h m o u e =
    let p : 2 * h.used ≤ 4 * n = omega arith in
    sym (take-take (2 * h.used) (4 * n) m p) ∙ ap (take (2 * h.used)) e ∙ take-take (2 * h.used) (4 * n) o p

cache_same : (n : ℕ) (h : Held) (m o : List ℕ) → h.cached ≤ n → take (4 * n) m ≡ take (4 * n) o → held_cache n h m ≡ held_cache n h o
cache_same n h m o u e = ap (cache_of h.filled h.boresight h.theta) (slice_front (2 * n) (2 * n + h.cached) (4 * n) m o (omega arith) e)

-- ---- what the new matches are taken for

module _ (p : Pose) (ms : List ℕ) (c : Cache) (new : List ℕ) where
  abbrev stays : State
  stays = record { pose = p; matches = ms; cache = c }

  abbrev goes : State
  goes = record { pose = p; matches = new; cache = c }

  and_none : (b : Bool) → b && false ≡ false
  and_none true = refl
  and_none false = refl

  settled_few : length new / 2 < 4 → done stays ≡ settled p ms c new
  unfolding settled
  settled_few h = sym (ap (λ (b : Bool). cond (b && not (same_matches new ms)) (go goes) (done stays)) (lt-leb 4 (length new / 2) h))

  settled_same : same_matches new ms ≡ true → done stays ≡ settled p ms c new
  unfolding settled
  settled_same e =
      sym
      (ap (λ (b : Bool). cond (leb 4 (length new / 2) && not b) (go goes) (done stays)) e
      ∙ ap (λ (b : Bool). cond b (go goes) (done stays)) (and_none (leb 4 (length new / 2))))

  settled_new : 4 ≤ length new / 2 → same_matches new ms ≡ false → go goes ≡ settled p ms c new
  unfolding settled
  settled_new h e =
      sym
      (ap (λ (b : Bool). cond (leb 4 (length new / 2) && not b) (go goes) (done stays)) e
      ∙ ap (λ (b : Bool). cond (b && true) (go goes) (done stays)) (le-leb 4 (length new / 2) h))

-- ---- the answers

abbrev with_used : Held → ℕ → Held
with_used h n = record {
  pose = h.pose;
  used = n;
  filled = h.filled;
  boresight = h.boresight;
  theta = h.theta;
  cached = h.cached;
}

module _ (k : Settings) (n q : ℕ) (spots floats d : List Float) (ix before : List ℕ) (h : Held) (r : Float) (after : List ℕ) (f : Result Tally Refusal)
    (lent : k.capacity ≡ capacity d ix) (room : length spots / 2 + q ≤ n) (many : 16 * n ≤ length before) (fits : Fits k n h) (few : k.count ≤ n)
    (w : FoundTo k.matcher n q spots k.limit r floats d ix before after f) where
  abbrev points : List Float
  points = slice (2 * n) (2 * n + 2 * q) floats

  abbrev found : List Match
  found = matches_of spots k.limit points (r ⊗ r)

  abbrev new : List ℕ
  new = renamed_by (slice (3 * n) (3 * n + q) before) (flat found)

  abbrev wanted : List Prediction → Next
  wanted qs = associated (fixed_of k) spots h.pose (held_matches h before) (held_cache n h before) r qs

  over_is : (qs : List Prediction) → Predicted n q before floats qs → too_many k.matcher k.capacity (length (pairs spots k.limit (laid qs) (r ⊗ r))) ≡ is_err f
  over_is qs p =
      ap (λ (m : ℕ). too_many k.matcher m (length (pairs spots k.limit (laid qs) (r ⊗ r)))) lent
      ∙ ap (λ (l : List Float). too_many k.matcher (capacity d ix) (length (pairs spots k.limit l (r ⊗ r)))) p.points ∙ sym w.full

  new_is : (qs : List Prediction) → Predicted n q before floats qs → renamed qs (matches_of spots k.limit (laid qs) (r ⊗ r)) ≡ new
  new_is qs p =
      ap (λ (l : List Float). renamed qs (matches_of spots k.limit l (r ⊗ r))) p.points ∙ sym (renamed_is qs found)
      ∙ ap (λ (l : List ℕ). renamed_by l (flat found)) p.ids

  wanted_is : (qs : List Prediction) → Predicted n q before floats qs → (b : Bool) → is_err f ≡ b
      → cond b (refuse 13) (settled h.pose (held_matches h before) (held_cache n h before) new) ≡ wanted qs
  unfolding associated
  wanted_is qs p b e =
      sym
      (ap (λ (x : Bool). cond x (refuse 13) (settled h.pose (held_matches h before) (held_cache n h before) (renamed qs (matches_of spots k.limit (laid qs) (r ⊗ r)))))
      (over_is qs p ∙ e)
      ∙ ap (λ (l : List ℕ). cond b (refuse 13) (settled h.pose (held_matches h before) (held_cache n h before) l)) (new_is qs p))

  pub refused : (left : State) {x : Refusal} → f ≡ Err x → AssociatedTo k n spots h r q before floats left (Err x)
  refused left {x} e =
      let is : x ≡ ManyPairs = IfErr-at_err (λ (y : Refusal). y ≡ ManyPairs) e w.refusal in
      λ qs p. ap (λ (y : Refusal). refuse (number_of y)) is ∙ wanted_is qs p true (ap is_err e)

  module _ (t : Tally) (some : f ≡ Ok t) where
    e : is_err f ≡ false
    e = ap is_err some

    told : Tallied k.matcher n q spots k.limit r floats before after t
    told = subst (λ (x : Result Tally Refusal). IfOk x (Tallied k.matcher n q spots k.limit r floats before after)) some w.found

    abbrev at : NewAt n t.within t.count new before after
    at = told.there

    -- the comparisons on the predictions
    compared_is : (qs : List Prediction) → Predicted n q before floats qs → t.comparisons ≡ compared (fixed_of k) spots r qs
    unfolding compared
    compared_is qs p =
        told.comparisons ∙ ap (λ (l : List Float). ordering k.matcher (pairs spots k.limit l (r ⊗ r))) (sym p.points)
        ∙ ap (λ (b : Bool). cond b 0 (ordering k.matcher (pairs spots k.limit (laid qs) (r ⊗ r)))) (sym (over_is qs p ∙ e))

    new_many : length new ≡ 2 * t.count
    new_many = omega (arith, renamed_many (slice (3 * n) (3 * n + q) before) found, told.count)

    -- the state as it came
    stayed : (last : List ℕ) → take (4 * n) last ≡ take (4 * n) before
        → done (held_state n h before) ≡ settled h.pose (held_matches h before) (held_cache n h before) new
        → StepAs k n spots h r q before floats (held_state n h last) (record { converged = true; comparisons = t.comparisons })
    unfolding next_of
    stayed last same x = record {
      next = λ qs p.
          ap (λ (s : State). done s) (state_of (matches_same n h last before fits.used same) (cache_same n h last before (omega (arith, fits.cached)) same))
          ∙ x ∙ wanted_is qs p false e;
      comparisons = compared_is;
    }

    pub too_few : t.count < 4 → StepAs k n spots h r q before floats (held_state n h after) (record { converged = true; comparisons = t.comparisons })
    too_few x = stayed after at.front (settled_few h.pose (held_matches h before) (held_cache n h before) new (omega (arith, new_many)))

    pub can_compare : Comparable (4 * n) t.within (8 * n) t.count h.used after
    can_compare = record {
      places = record {
        present = omega (arith, fits.used);
        table = omega (arith, told.within, room);
        fits = omega (arith, at.room, at.long, many);
      };
      zeros = at.zeros;
      lone = rw (at.list, told.within) (lone_matches spots k.limit points (r ⊗ r) (slice (3 * n) (3 * n + q) before));
    }

    module _ {m : List ℕ} {b : Bool} (x : Compared (4 * n) t.within (8 * n) t.count h.used m after b) where
      answer : b ≡ same_matches new (held_matches h before)
      answer =
          x.answer ∙ ap (λ (l : List ℕ). same_matches l (take (2 * h.used) after)) at.list
          ∙ ap (same_matches new) (matches_same n h after before fits.used at.front)

      front : take (4 * n) m ≡ take (4 * n) before
      front = x.kept.front ∙ at.front

      pub not_new : b ≡ true → StepAs k n spots h r q before floats (held_state n h m) (record { converged = true; comparisons = t.comparisons })
      not_new y = stayed m front (settled_same h.pose (held_matches h before) (held_cache n h before) new (sym answer ∙ y))

      there : slice (8 * n) (8 * n + 2 * t.count) m ≡ new
      there =
          slice_kept (4 * n) t.within (8 * n) (8 * n + 2 * t.count) m after x.kept (omega (arith, told.within, room)) (omega (arith, at.room, at.long, many))
          ∙ at.list

      pub taken : {last : List ℕ} → b ≡ false → 4 ≤ t.count → last ≡ slice (8 * n) (8 * n + 2 * t.count) m ++ drop (2 * t.count) m
          → StepAs k n spots h r q before floats (held_state n (with_used h t.count) last) (record { converged = false; comparisons = t.comparisons })
      unfolding next_of
      taken {last} y z brought =
          let now : last ≡ new ++ drop (2 * t.count) m = brought ∙ ap (λ (l : List ℕ). l ++ drop (2 * t.count) m) there in
          let ms : take (2 * t.count) last ≡ new = ap (take (2 * t.count)) now ∙ take_at new (drop (2 * t.count) m) (2 * t.count) new_many in
          let part : slice (2 * n) (2 * n + h.cached) last ≡ slice (2 * n) (2 * n + h.cached) before =
          ap (slice (2 * n) (2 * n + h.cached)) now
          ∙ slice_behind (2 * n) (2 * n + h.cached) new m (2 * t.count) new_many (omega (arith, at.room)) (omega arith)
          (omega (arith, fits.cached, at.long, many, x.kept.long))
          ∙ slice_front (2 * n) (2 * n + h.cached) (4 * n) m before (omega (arith, fits.cached)) front in
          record {
            next = λ qs p.
                ap (λ (s : State). go s) (state_of ms (ap (cache_of h.filled h.boresight h.theta) part))
                ∙ settled_new h.pose (held_matches h before) (held_cache n h before) new (omega (arith, new_many)) (sym answer ∙ y) ∙ wanted_is qs p false e;
            comparisons = compared_is;
          }

      pub few_taken : t.count ≤ n
      few_taken = at.room
