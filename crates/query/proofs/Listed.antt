-- Lists that are written thing by thing from a place on, and the listed directions one by one. Assumes nothing.
use mathlib.Core.Path.{◌≡◌, refl, sym, ap, subst, ◌∙◌}
use mathlib.Core.Bool.{true, false}
use mathlib.Core.List.{List, [], ◌∷◌, ◌++◌, append_assoc, append-nil}
use mathlib.Core.Logic.{◌⊎◌, ⊎_elim}
use Prim.Native.Nat.{ℕ, suc, ◌+◌, ◌-◌, ◌≤◌, ◌<◌}
use native.Mathlib.Numerals.{add-one}
use native.Mathlib.Omega.{arith}
use lib.Ieee.{Float, le}
use lib.ListN.{get_or, length, take, drop, set, length-set, length-append, take-append-drop}
use lib.Seq.{get_or-drop, get_or-take, drop-drop, drop-set-lt, take-suc-set, length-take-le, take-append-le, take-take, take_at, slice, slice-cons, length-slice, ext_get_or}
use Rattle.fit.specs.Rows.{direction_at}
use Rattle.query.specs.Query.{dot32, scanned}
use Rattle.query.specs.Listing.{standing}
use Rattle.query.specs.declared.Fall.{Fall}

-- Of the list m, which was o, k things stand from place `to` on; with the rest that is to come they are all. What is behind them is as it was.
pub record Writing {A : Type 0} (to k : ℕ) (m o rest all : List A) : Type 0 where
  pub long : length m ≡ length o
  pub front : take (to + k) m ++ rest ≡ take to o ++ all
  pub back : drop (to + k) m ≡ drop (to + k) o

pub begin : {A : Type 0} (to : ℕ) (o all : List A) → Writing to 0 o o all all
begin to o all =
    let e : to + 0 ≡ to = omega arith in
    record { long = refl; front = rw e; back = refl }

pub onward : {A : Type 0} {to k : ℕ} {m o rest next all : List A} → rest ≡ next → Writing to k m o rest all → Writing to k m o next all
onward {to = to} {k = k} {m = m} {o = o} {all = all} e w = subst (λ (l : List _). Writing to k m o l all) e w

module _ {A : Type 0} (to k : ℕ) (m o : List A) where
  pub push : {rest all : List A} (a : A) → Writing to k m o (a ∷ rest) all → to + k < length m → Writing to (k + 1) (set m (to + k) a) o rest all
  push {rest} {all} a w h =
      let e : to + (k + 1) ≡ suc (to + k) = omega arith in
      let p : to + k < suc (to + k) = omega arith in
      let past : drop (suc (to + k)) m ≡ drop (suc (to + k)) o = rw (← add-one (to + k), ← drop-drop 1 (to + k) m, ← drop-drop 1 (to + k) o, w.back) in
      record {
        long = length-set m (to + k) a ∙ w.long;
        front = rw (e, take-suc-set m (to + k) a h, append_assoc) w.front;
        back = rw (e, drop-set-lt (suc (to + k)) m (to + k) a p) past;
      }

  module _ {rest all : List A} (w : Writing to k m o rest all) (room : to + k ≤ length m) where
    -- a place in front, and one behind
    pub in_front : (j : ℕ) (d : A) → j < to → get_or m j d ≡ get_or o j d
    in_front j d h =
        let l : length (take (to + k) m) ≡ to + k = length-take-le (to + k) m room in
        let p : to ≤ length (take (to + k) m) = omega arith in
        let q : to ≤ to + k = omega arith in
        let u : length (take to o) ≡ to = length-take-le to o (omega arith) in
        let same : take to m ≡ take to o =
        sym (take-take to (to + k) m q) ∙ sym (take-append-le to (take (to + k) m) rest p) ∙ ap (take to) w.front ∙ take_at (take to o) all to u in
        sym (get_or-take to m j d h) ∙ ap (λ (l : List A). get_or l j d) same ∙ get_or-take to o j d h

    pub behind : (j : ℕ) (d : A) → to + k ≤ j → get_or m j d ≡ get_or o j d
    behind j d h =
        let e : to + k + (j - (to + k)) ≡ j = omega arith in
        rw (← e, ← get_or-drop (to + k) m (j - (to + k)) d, ← get_or-drop (to + k) o (j - (to + k)) d, w.back)

    -- a part in front or behind
    pub part_same : (d : A) (a e : ℕ) → e ≤ length o → (e ≤ to) ⊎ (to + k ≤ a) → slice a e m ≡ slice a e o
    part_same d a e fits side =
        let long : e ≤ length m = omega arith in
        ext_get_or d (slice a e m) (slice a e o) (length-slice a e m long ∙ sym (length-slice a e o fits))
        (λ j p.
        let h : a + j < e = omega (arith, length-slice a e m long) in
        get_or-drop a (take e m) j d ∙ get_or-take e m (a + j) d h
        ∙ ⊎_elim (λ (q : e ≤ to). in_front (a + j) d (omega arith)) (λ (q : to + k ≤ a). behind (a + j) d (omega arith)) side
        ∙ sym (get_or-drop a (take e o) j d ∙ get_or-take e o (a + j) d h))

  module _ {all : List A} (w : Writing to k m o [] all) (room : to + k ≤ length m) where
    pub how_many : k ≡ length all
    how_many =
        let l : length (take (to + k) m) ≡ to + k = length-take-le (to + k) m room in
        let u : length (take to o) ≡ to = length-take-le to o (omega arith) in
        let s : length (take (to + k) m) ≡ length (take to o) + length all = ap length (sym (append-nil (take (to + k) m)) ∙ w.front) ∙ length-append (take to o) all in
        omega arith

    pub whole : m ≡ take to o ++ all ++ drop (to + k) o
    whole =
        sym (take-append-drop (to + k) m)
        ∙ ap (λ (z : List A). z ++ drop (to + k) m) (sym (append-nil (take (to + k) m)) ∙ w.front)
        ∙ ap (λ (z : List A). take to o ++ all ++ z) w.back

-- ---- the same at the front of a list

module _ {A : Type 0} (k : ℕ) (m o : List A) where
  pub front_push : {rest all : List A} (a : A) → Writing 0 k m o (a ∷ rest) all → k < length m → Writing 0 (k + 1) (set m k a) o rest all
  front_push {rest} {all} a w h =
      let e : 0 + k ≡ k = omega arith in
      subst (λ (j : ℕ). Writing 0 (k + 1) (set m j a) o rest all) e (push 0 k m o a w (omega arith))

  module _ {all : List A} (w : Writing 0 k m o [] all) (room : k ≤ length m) where
    pub front_many : k ≡ length all
    front_many = how_many 0 k m o w (omega arith)

    pub front_whole : m ≡ all ++ drop (length all) o
    front_whole =
        let e : 0 + k ≡ length all = omega (arith, front_many) in
        whole 0 k m o w (omega arith) ∙ ap (λ (j : ℕ). all ++ drop j o) e

-- ---- the scan, one direction more

module _ (ds axis : List Float) (least : Float) (n j : ℕ) where
  pub scan_next : j < n → le least (dot32 axis (direction_at ds j)) ≡ true
      → scanned ds axis least j (n - j) ≡ j ∷ scanned ds axis least (j + 1) (n - (j + 1))
  unfolding scanned
  scan_next h b =
      let e : n - j ≡ suc (n - (j + 1)) = omega arith in
      rw (e, scanned, b, add-one j)

  pub scan_not : j < n → le least (dot32 axis (direction_at ds j)) ≡ false
      → scanned ds axis least j (n - j) ≡ scanned ds axis least (j + 1) (n - (j + 1))
  unfolding scanned
  scan_not h b =
      let e : n - j ≡ suc (n - (j + 1)) = omega arith in
      rw (e, scanned, b, add-one j)

  pub scan_none : n ≤ j → scanned ds axis least j (n - j) ≡ []
  unfolding scanned
  scan_none h =
      let e : n - j ≡ 0 = omega arith in
      ap (scanned ds axis least j) e

-- ---- the listed directions, one more

module _ (f : ℕ → Fall) (j : ℕ) (js : List ℕ) where
  pub stands : (f j).inside ≡ true → standing f (j ∷ js) ≡ j ∷ standing f js
  unfolding standing
  stands b = rw b

  pub falls_off : (f j).inside ≡ false → standing f (j ∷ js) ≡ standing f js
  unfolding standing
  falls_off b = rw b

module _ (f : ℕ → Fall) (e i : ℕ) (o : List ℕ) (h : i < e) (fits : e ≤ length o) where
  pub cut_next : slice i e o ≡ get_or o i 0 ∷ slice (i + 1) e o
  cut_next = slice-cons i e o 0 h fits ∙ ap (λ (k : ℕ). get_or o i 0 ∷ slice k e o) (sym (add-one i))

  pub next_stands : (f (get_or o i 0)).inside ≡ true → standing f (slice i e o) ≡ get_or o i 0 ∷ standing f (slice (i + 1) e o)
  next_stands b = ap (standing f) cut_next ∙ stands f (get_or o i 0) (slice (i + 1) e o) b

  pub next_off : (f (get_or o i 0)).inside ≡ false → standing f (slice i e o) ≡ standing f (slice (i + 1) e o)
  next_off b = ap (standing f) cut_next ∙ falls_off f (get_or o i 0) (slice (i + 1) e o) b
