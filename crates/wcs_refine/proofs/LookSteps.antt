-- The first half of a round's search, step by step: the query, the predictions and the pruned list in their regions, and what they come to together.
-- Assumes nothing.
use Rattle.std.proofs.Common.{◌≡◌, ℕ, zero, suc, ◌+◌, ◌-◌, ◌*◌, ◌/◌, ◌≤◌, min, Bool, true, false, cond, List, [], ◌∷◌, ◌++◌, length, take, drop, sym, refl, ap, ◌∙◌, subst, append_assoc, arith, length-append, length-drop, length-take, length-take-le, take-take, drop-drop, take_at, take-add, drop_at}
use lib.Ieee.{Float, le}
use lib.Seq.{take-append-le, slice, length-slice}
use borrow.Rule.Slice.PartMut.{take_put, drop_put, same_len_mid}
use Rattle.project.specs.Camera.{boresight, camera_rows}
use Rattle.fit.specs.Rows.{direction_at}
use Rattle.fit.specs.declared.Pose.{Pose}
use Rattle.entry.specs.declared.Settings.{Settings}
use Rattle.entry.specs.Entry.{fixed_of}
use Rattle.entry.specs.Fixed.{Fixed, search_radius, requery_margin, prune_r, keep_r}
use Rattle.query.specs.Query.{dot32, axis32, Cache, full, scanned, query, drifted, Prediction, predictions, pruned}
use Rattle.panel.specs.Points.{points_of}
use Rattle.wcs_refine.specs.Associate.{laid}
use Rattle.wcs_refine.specs.Round.{State, Found, associated, compared, fresh, reused, searched}
use Rattle.query.specs.Listing.{least_cos_of, falling, standing, Fronted}
use Rattle.wcs_refine.specs.Listing.{points, ids_of, Told}
use Rattle.wcs_refine.specs.Keeping.{cache_of, held_cache, held_matches, Fits, AssociatedTo, LookedTo, SearchedTo}
use Rattle.query.specs.Sighting.{due, afresh, kept}
use Rattle.wcs_refine.specs.Sighting.{ListedTo, ToldTo, PrunedTo}
use Rattle.std.specs.Prelude.{Ok, Err}
use Rattle.refusal.specs.declared.Refusal.{Refusal}
use Rattle.query.specs.declared.Held.{Held}
use Rattle.wcs_refine.specs.declared.associating.Step.{Step}
use Rattle.query.specs.declared.Looked.{Looked}
use Rattle.query.specs.declared.Fall.{Fall}
use Rattle.query.proofs.Meant.{least_cos_is, pruned_is}
use Rattle.wcs_refine.proofs.Meant.{ids_are, points_are}

-- ---- a part of a list

module _ {A : Type 0} where
  -- a list with other things in the place of a part
  abbrev put : ℕ → ℕ → List A → List A → List A
  put a e l new = take a l ++ (new ++ drop (e - a) (drop a l))

  cut_mid : (p new w : List A) (a c : ℕ) → length p ≡ a → length new ≡ c → slice a (a + c) (p ++ (new ++ w)) ≡ new
  cut_mid p new w a c e f =
      let long : length (p ++ new) ≡ a + c = length-append p new ∙ omega arith in
      ap (λ (l : List A). slice a (a + c) l) (sym (append_assoc p new w)) ∙ ap (drop a) (take_at (p ++ new) w (a + c) long) ∙ drop_at p new a e

  -- of a part, what now stands at its front
  cut_front : (a e c : ℕ) (l ys new mid : List A) → a ≤ length l → length new ≡ c → ys ≡ new ++ drop (length new) mid
      → slice a (a + c) (put a e l ys) ≡ new
  cut_front a e c l ys new mid fits is f =
      ap (λ (y : List A). slice a (a + c) (put a e l y)) f
      ∙ ap (λ (y : List A). slice a (a + c) (take a l ++ y)) (append_assoc new (drop (length new) mid) (drop (e - a) (drop a l)))
      ∙ cut_mid (take a l) new (drop (length new) mid ++ drop (e - a) (drop a l)) a c (length-take-le a l fits) is

  slice_is : (a c : ℕ) (l : List A) → a ≤ length l → slice a (a + c) l ≡ take c (drop a l)
  slice_is a c l fits = ap (drop a) (take-add a c l) ∙ drop_at (take a l) (take c (drop a l)) a (length-take-le a l fits)

  slice_same : (a c : ℕ) (l m : List A) → a ≤ length l → length m ≡ length l → drop a m ≡ drop a l → slice a (a + c) m ≡ slice a (a + c) l
  slice_same a c l m fits long e = slice_is a c m (omega arith) ∙ ap (take c) e ∙ sym (slice_is a c l fits)

-- ---- how many

one_more : (b : Bool) (j : ℕ) (l : List ℕ) (n : ℕ) → length l ≤ n → length (cond b (j ∷ l) l) ≤ suc n
one_more true j l n h = omega arith
one_more false j l n h = omega arith

scanned_few : (ds axis : List Float) (least : Float) (j n : ℕ) → length (scanned ds axis least j n) ≤ n
unfolding scanned
scanned_few ds axis least j zero = omega arith
scanned_few ds axis least j (suc n) =
    one_more (le least (dot32 axis (direction_at ds j))) j (scanned ds axis least (suc j) n) n (scanned_few ds axis least (suc j) n)

standing_few : (f : ℕ → Fall) (l : List ℕ) → length (standing f l) ≤ length l
unfolding standing
standing_few f [] = omega arith
standing_few f (j ∷ l) = one_more (f j).inside j (standing f l) (length l) (standing_few f l)

two_more : (b : Bool) (j : ℕ) (x y : Float) (l : List ℕ) (m : List Float) → length m ≡ 2 * length l
    → length (cond b (x ∷ y ∷ m) m) ≡ 2 * length (cond b (j ∷ l) l)
two_more true j x y l m h = omega arith
two_more false j x y l m h = h

points_many : (f : ℕ → Fall) (l : List ℕ) → length (points f l) ≡ 2 * length (standing f l)
unfolding points standing
points_many f [] = refl
points_many f (j ∷ l) = two_more (f j).inside j (f j).x (f j).y (standing f l) (points f l) (points_many f l)

-- ---- the query

scan_is : (k : Fixed) (ds : List Float) (p : Pose) {b axis : List Float} {s m least : Float} → b ≡ boresight p.ra p.dec → axis ≡ axis32 b
    → s ≡ search_radius k → m ≡ requery_margin k → least ≡ least_cos_of s m → scanned ds axis least 0 k.count ≡ query k ds p
unfolding query
scan_is k ds p {b} {axis} {s} {m} {least} e f g h i =
    ap (λ (a : List Float). scanned ds a least 0 k.count) (f ∙ ap axis32 e)
    ∙ ap (λ (x : Float). scanned ds (axis32 (boresight p.ra p.dec)) x 0 k.count)
    (i ∙ ap (λ (x : Float). least_cos_of x m) g ∙ ap (least_cos_of (search_radius k)) h ∙ least_cos_is k)

-- the region has room for every direction
module _ (k : Settings) (n : ℕ) (ds : List Float) (p : Pose) (l ys : List ℕ) (c : ℕ)
    (all : k.count ≡ length ds / 3) (few : k.count ≤ n) (room : 16 * n ≤ length l) where
  scans_all : min (length ds / 3) (length (take (3 * n - 2 * n) (drop (2 * n) l))) ≡ k.count
  scans_all = omega (arith, length-take (3 * n - 2 * n) (drop (2 * n) l), length-drop (2 * n) l)

  pub cone_listed : {b axis : List Float} {s m least : Float} → b ≡ boresight p.ra p.dec → axis ≡ axis32 b
      → s ≡ search_radius (fixed_of k) → m ≡ requery_margin (fixed_of k) → least ≡ least_cos_of s m
      → Fronted (scanned ds axis least 0 (min (length ds / 3) (length (take (3 * n - 2 * n) (drop (2 * n) l))))) (take (3 * n - 2 * n) (drop (2 * n) l)) ys c
      → ListedTo k n ds p l (put (2 * n) (3 * n) l ys) c
  cone_listed {b} {axis} {s} {m} {least} e f g h i t =
      let r = subst (λ (x : ℕ). Fronted (scanned ds axis least 0 x) (take (3 * n - 2 * n) (drop (2 * n) l)) ys c) scans_all t in
      let fits : 2 * n ≤ length l = omega arith in
      let small = scanned_few ds axis least 0 k.count in
      record {
        few = omega (arith, r.count);
        listed =
            cut_front (2 * n) (3 * n) c l ys (scanned ds axis least 0 k.count) _ fits (sym r.count) r.list
            ∙ scan_is (fixed_of k) ds p e f g h i;
        matches = take_put (2 * n) (3 * n - 2 * n) l ys fits;
      }

-- ---- the predictions

module _ (k : Settings) (n c : ℕ) (ds : List Float) (rows : List (List Float)) (l : List ℕ) (few : c ≤ n) (room : 16 * n ≤ length l) where
  pub predicts : (m : List ℕ) (fs ys : List Float) (q : ℕ) {r : Float} → 16 * n ≤ length fs → r ≡ prune_r (fixed_of k)
      → Told (falling k.scale k.cut r ds rows) (2 * n) c (3 * n) l m (take (4 * n - 2 * n) (drop (2 * n) fs)) ys q
      → ToldTo k n c ds rows l m (put (2 * n) (4 * n) fs ys) q
  predicts m fs ys q {r} far e t =
      let f = falling k.scale k.cut r ds rows in
      let js = slice (2 * n) (2 * n + c) l in
      let wide : 3 * n ≤ length l = omega arith in
      let near : 2 * n ≤ length fs = omega arith in
      let end : 2 * n + c ≤ length l = omega arith in
      let less : 2 * n ≤ 3 * n = omega arith in
      let front : length (take (3 * n) l) ≡ 3 * n = length-take-le (3 * n) l wide in
      let within : 2 * n ≤ length (take (3 * n) l) = omega arith in
      let small = standing_few f js in
      let size = length-slice (2 * n) (2 * n + c) l end in
      let now : m ≡ take (3 * n) l ++ (standing f js ++ drop (3 * n + q) l) =
      t.ids ∙ append_assoc (take (3 * n) l) (standing f js) (drop (3 * n + q) l) in
      let many : length (points f js) ≡ 2 * q = points_many f js ∙ ap (λ (x : ℕ). 2 * x) (sym t.count) in
      record {
        few = omega (arith, t.count);
        predicted = record {
          ids =
              sym (ids_are (fixed_of k) ds rows js) ∙ ap (λ (x : Float). standing (falling k.scale k.cut x ds rows) js) (sym e)
              ∙ sym (cut_mid (take (3 * n) l) (standing f js) (drop (3 * n + q) l) (3 * n) q front (sym t.count))
              ∙ ap (λ (x : List ℕ). slice (3 * n) (3 * n + q) x) (sym now);
          points =
              sym (points_are (fixed_of k) ds rows js) ∙ ap (λ (x : Float). points (falling k.scale k.cut x ds rows) js) (sym e)
              ∙ sym (cut_front (2 * n) (4 * n) (2 * q) fs ys (points f js) (take (4 * n - 2 * n) (drop (2 * n) fs)) near many t.xy);
        };
        listed = t.unchanged;
        matches =
            ap (take (2 * n)) now ∙ take-append-le (2 * n) (take (3 * n) l) (standing f js ++ drop (3 * n + q) l) within
            ∙ take-take (2 * n) (3 * n) l less;
      }

  -- ---- the pruned list

  pub prunes : (ys : List ℕ) (d : ℕ) {r : Float} → r ≡ keep_r (fixed_of k) → length ys ≡ length (take (2 * n + c - 2 * n) (drop (2 * n) l))
      → Fronted (standing (falling k.scale k.cut r ds rows) (take (2 * n + c - 2 * n) (drop (2 * n) l)))
      (take (2 * n + c - 2 * n) (drop (2 * n) l)) ys d
      → PrunedTo k n c ds rows l (put (2 * n) (2 * n + c) l ys) d
  prunes ys d {r} e long t =
      let f = falling k.scale k.cut r ds rows in
      let mid = take (2 * n + c - 2 * n) (drop (2 * n) l) in
      let fits : 2 * n ≤ length l = omega arith in
      let end : 2 * n + c ≤ length l = omega arith in
      let less : 2 * n ≤ 2 * n + c = omega arith in
      let wide : 3 * n ≤ length l = omega arith in
      let size : 2 * n + c - 2 * n ≡ c = omega arith in
      let is : mid ≡ slice (2 * n) (2 * n + c) l = ap (λ (x : ℕ). take x (drop (2 * n) l)) size ∙ sym (slice_is (2 * n) c l fits) in
      let has : length mid ≡ c = ap length is ∙ length-slice (2 * n) (2 * n + c) l end ∙ size in
      let small = standing_few f mid in
      let whole : length ys ≡ 2 * n + c - 2 * n = omega arith in
      let out = put (2 * n) (2 * n + c) l ys in
      let past = drop_put (2 * n) (2 * n + c) l ys less end whole in
      let same : length out ≡ length l = same_len_mid (2 * n) (2 * n + c - 2 * n) l ys long in
      let three : 2 * n + c + (n - c) ≡ 3 * n = omega arith in
      let rest : (x : List ℕ) → drop (3 * n) x ≡ drop (n - c) (drop (2 * n + c) x) =
      λ x. ap (λ (y : ℕ). drop y x) (sym three) ∙ sym (drop-drop (n - c) (2 * n + c) x) in
      record {
        few = omega (arith, t.count);
        pruned =
            cut_front (2 * n) (2 * n + c) d l ys (standing f mid) mid fits (sym t.count) t.list
            ∙ ap (λ (x : Float). standing (falling k.scale k.cut x ds rows) mid) e ∙ pruned_is (fixed_of k) ds rows mid
            ∙ ap (pruned (fixed_of k) ds rows) is;
        behind = λ q. slice_same (3 * n) q l out wide same (rest out ∙ ap (drop (n - c)) past ∙ sym (rest l));
        matches = take_put (2 * n) (2 * n + c - 2 * n) l ys fits;
      }

-- ---- what the search comes to

-- the camera's axes at a pose
abbrev axes : Pose → List (List Float)
axes p = camera_rows p.theta p.ra p.dec

abbrev answer : Fixed → List Float → Pose → List ℕ → Cache → Float → List Prediction → List (List ℕ) → Found
answer k spots p ms c r qs queries = record {
  next = associated k (points_of spots k.limit) p ms c r qs;
  queries = queries;
  comparisons = compared k (points_of spots k.limit) r qs;
}

module _ (k : Fixed) (spots ds : List Float) (p : Pose) (ms : List ℕ) (r : Float) (b : List Float) (theta : Float) (listed : List ℕ) where
  searched_due : (f : Bool) → cond f (drifted k p b theta) true ≡ true
      → searched k spots ds p ms r (cache_of f b theta listed) ≡ fresh k spots ds p ms r (query k ds p)
  unfolding searched reused cache_of
  searched_due true h = ap (reused k spots ds p ms r b theta listed) h
  searched_due false h = refl

  searched_kept : (f : Bool) → cond f (drifted k p b theta) true ≡ false
      → searched k spots ds p ms r (cache_of f b theta listed)
      ≡ answer k spots p ms (cache_of f b theta listed) r (predictions k ds (axes p) listed) []
  unfolding searched reused cache_of
  searched_kept true h = ap (reused k spots ds p ms r b theta listed) h
  searched_kept false h = let z : ◌≡◌ {A = ℕ} 0 1 = cc in absurd (omega arith)

module _ (k : Settings) (n : ℕ) (ds : List Float) (h : Held) (l : List ℕ) (fits : Fits k n h) {rows : List (List Float)}
    (e : rows ≡ axes h.pose) where
  pub looked_afresh : (l₁ l₂ l₃ : List ℕ) (fs : List Float) (c q d : ℕ) {r : Looked} → due k h ≡ true → ListedTo k n ds h.pose l l₁ c
      → ToldTo k n c ds rows l₁ l₂ fs q → PrunedTo k n c ds rows l₂ l₃ d → r ≡ afresh h d q → LookedTo k n ds h l l₃ fs r
  unfolding fresh cache_of
  looked_afresh l₁ l₂ l₃ fs c q d {r} t a b g w =
      let js = query (fixed_of k) ds h.pose in
      let qs = predictions (fixed_of k) ds (axes h.pose) js in
      let same : predictions (fixed_of k) ds rows (slice (2 * n) (2 * n + c) l₁) ≡ qs =
      ap (predictions (fixed_of k) ds rows) a.listed ∙ ap (λ (x : List (List Float)). predictions (fixed_of k) ds x js) e in
      let cached : slice (2 * n) (2 * n + d) l₃ ≡ pruned (fixed_of k) ds (axes h.pose) js =
      g.pruned ∙ ap (pruned (fixed_of k) ds rows) (b.listed ∙ a.listed) ∙ ap (λ (x : List (List Float)). pruned (fixed_of k) ds x js) e in
      subst (λ (x : Looked). LookedTo k n ds h l l₃ fs x) (sym w) (record {
        predictions = qs;
        queries = js ∷ [];
        predicted = record {
          ids = ap ids_of (sym same) ∙ b.predicted.ids ∙ sym (g.behind q);
          points = ap laid (sym same) ∙ b.predicted.points;
        };
        few = omega (arith, b.few, a.few);
        searched = λ spots ms radius.
            searched_due (fixed_of k) spots ds h.pose ms radius h.boresight h.theta (slice (2 * n) (2 * n + h.cached) l) h.filled t
            ∙ ap (λ (x : List ℕ). answer (fixed_of k) spots h.pose ms (full (boresight h.pose.ra h.pose.dec) h.pose.theta x) radius qs (js ∷ []))
            (sym cached);
        count = refl;
        pose = refl;
        used = refl;
        matches = g.matches ∙ b.matches ∙ a.matches;
        fits = record { used = fits.used; cached = omega (arith, g.few, a.few) };
      })

  pub looked_again : (m : List ℕ) (fs : List Float) (q : ℕ) {r : Looked} → due k h ≡ false → ToldTo k n h.cached ds rows l m fs q → r ≡ kept h q
      → LookedTo k n ds h l m fs r
  looked_again m fs q {r} t b w =
      let js = slice (2 * n) (2 * n + h.cached) l in
      let qs = predictions (fixed_of k) ds (axes h.pose) js in
      let same : predictions (fixed_of k) ds rows js ≡ qs = ap (λ (x : List (List Float)). predictions (fixed_of k) ds x js) e in
      subst (λ (x : Looked). LookedTo k n ds h l m fs x) (sym w) (record {
        predictions = qs;
        queries = [];
        predicted = record { ids = ap ids_of (sym same) ∙ b.predicted.ids; points = ap laid (sym same) ∙ b.predicted.points };
        few = omega (arith, b.few, fits.cached);
        searched = λ spots ms radius.
            searched_kept (fixed_of k) spots ds h.pose ms radius h.boresight h.theta js h.filled t
            ∙ ap (λ (x : List ℕ). answer (fixed_of k) spots h.pose ms (cache_of h.filled h.boresight h.theta x) radius qs []) (sym b.listed);
        count = refl;
        pose = refl;
        used = refl;
        matches = b.matches;
        fits = fits;
      })

-- ---- the matcher on what the search found

module _ (k : Settings) (n : ℕ) (spots ds : List Float) (h : Held) (radius : Float) (l l₁ : List ℕ) (fs : List Float) (left : State) (fits : h.used ≤ n) where
  matches_same : (g : Held) → g.used ≡ h.used → take (2 * n) l₁ ≡ take (2 * n) l → held_matches g l₁ ≡ held_matches h l
  matches_same g e f =
      let low : 2 * h.used ≤ 2 * n = omega (arith, fits) in
      ap (λ (u : ℕ). take (2 * u) l₁) e ∙ sym (take-take (2 * h.used) (2 * n) l₁ low) ∙ ap (take (2 * h.used)) f
      ∙ take-take (2 * h.used) (2 * n) l low

  module _ (a : Looked) (s : LookedTo k n ds h l l₁ fs a) where
    abbrev pub found : Found
    found = searched (fixed_of k) spots ds h.pose (held_matches h l) radius (held_cache n h l)

    found_is : associated (fixed_of k) (points_of spots k.limit) a.held.pose (held_matches a.held l₁) (held_cache n a.held l₁) radius s.predictions ≡ found.next
    found_is =
        ap (λ (p : Pose). associated (fixed_of k) (points_of spots k.limit) p (held_matches a.held l₁) (held_cache n a.held l₁) radius s.predictions) s.pose
        ∙ ap (λ (x : List ℕ). associated (fixed_of k) (points_of spots k.limit) h.pose x (held_cache n a.held l₁) radius s.predictions)
        (matches_same a.held s.used s.matches)
        ∙ sym (ap (λ (x : Found). x.next) (s.searched spots (held_matches h l) radius))

    pub search_refused : (x : Refusal) → AssociatedTo k n (points_of spots k.limit) a.held radius a.predicted l₁ fs left (Err x)
        → SearchedTo left found (Err x)
    search_refused x m = m s.predictions s.predicted ∙ found_is

    pub searches : (t : Step) → AssociatedTo k n (points_of spots k.limit) a.held radius a.predicted l₁ fs left (Ok t)
        → SearchedTo left found (Ok (record { step = t; queries = a.queries }))
    searches t m = record {
      next = m.next s.predictions s.predicted ∙ found_is;
      count = s.count ∙ sym (ap (λ (x : Found). length x.queries) (s.searched spots (held_matches h l) radius));
      comparisons = m.comparisons s.predictions s.predicted ∙ sym (ap (λ (x : Found). x.comparisons) (s.searched spots (held_matches h l) radius));
    }
