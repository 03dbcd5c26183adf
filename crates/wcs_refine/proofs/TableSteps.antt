-- The table of new matches: one match more is marked, and one present match is struck out. Assumes nothing.
use Rattle.std.proofs.Common.{◌≡◌, ℕ, suc, ◌+◌, ◌-◌, ◌*◌, ◌<◌, ◌≤◌, Bool, true, false, cond, not, ◌&&◌, ◌||◌, eqb, ltb, List, [], ◌∷◌, length, get_or, take, set, sym, refl, ap, ◌∙◌, subst, ⊎_elim, arith, length-set, get_or-drop, get_or-set_other, get_or-take, get_or-set_same, drop-set-lt, ltb-true, le-ltb, lt-ltb, eq-eqb, ne_eqb, eqb-true}
use borrow.Author.Tests.{eqb-false}
use lib.Seq.{slice, slice-cons, slice_empty, length-slice, take-set-le}
use Rattle.wcs_refine.specs.Associate.{Link, links, same_matches}
use Rattle.wcs_refine.specs.Comparing.{link_of, same_link, among, names, Lone, numbered_direction, tells, Kept, Few, Laid, Comparable, Marked}
use Rattle.wcs_refine.proofs.Along.{either}
use Rattle.std.proofs.lemmas.Bool.{and_parts, or_cases, or_left, or_parts, or_right}
use Rattle.wcs_refine.proofs.SameLinks.{never, below_or, same_says, without, without_first, without_later, among_later, takes, takes_one, takes_none, takes_same, one_fewer, differ, none_left}

-- ---- all but the table is kept

module _ (base n : ℕ) (m o : List ℕ) (k : Kept base n m o) where
  pub kept_back : (j : ℕ) → base + n ≤ j → get_or m j 0 ≡ get_or o j 0
  kept_back j h =
      let e : base + n + (j - (base + n)) ≡ j = omega arith in
      rw (← e, ← get_or-drop (base + n) m (j - (base + n)) 0, ← get_or-drop (base + n) o (j - (base + n)) 0, k.back)

  pub kept_front : (j : ℕ) → j < base → get_or m j 0 ≡ get_or o j 0
  kept_front j h = sym (get_or-take base m j 0 h) ∙ ap (λ (l : List ℕ). get_or l j 0) k.front ∙ get_or-take base o j 0 h

  pub kept_set : (s v : ℕ) → s < n → Kept base n (set m (base + s) v) o
  kept_set s v h =
      let p : base ≤ base + s = omega arith in
      let q : base + s < base + n = omega arith in
      record {
        long = length-set m (base + s) v ∙ k.long;
        front = take-set-le base m (base + s) v p ∙ k.front;
        back = drop-set-lt (base + n) m (base + s) v q ∙ k.back;
      }

pub kept_same : (base n : ℕ) (o : List ℕ) → Kept base n o o
kept_same base n o = record { long = refl; front = refl; back = refl }

-- another place of the table
other : (base s r v : ℕ) (m : List ℕ) → (r ≡ s → ⊥) → get_or (set m (base + s) v) (base + r) 0 ≡ get_or m (base + r) 0
other base s r v m h = get_or-set_other m (base + s) (base + r) v 0 (λ e. h (omega (arith, e)))

-- numbers of the table stay at most t
pub few_set : (base n t : ℕ) (m : List ℕ) (s v : ℕ) → base + n ≤ length m → s < n → v ≤ t → Few base n t m → Few base n t (set m (base + s) v)
few_set base n t m s v long h low f = record { few = λ r p. by r p (eqb r s) refl }
  where
    by : (r : ℕ) → r < n → (b : Bool) → eqb r s ≡ b → get_or (set m (base + s) v) (base + r) 0 ≤ t
    by r p true e =
        let q : base + s < length m = omega arith in
        omega (arith, get_or-set_same m (base + s) v 0 q, ap (λ (j : ℕ). get_or (set m (base + s) v) (base + j) 0) (eqb-true r s e))
    by r p false e = omega (arith, other base s r v m (eqb-false r s e), f.few r p)

-- ---- what the table tells

and_false : (a b c : Bool) → a ≡ true → (b && (not a && c)) ≡ false
and_false a true c h = rw h
and_false a false c h = refl

and_true : (a b c : Bool) → a ≡ false → b ≡ true → (b && (not a && c)) ≡ c
and_true a b c h g = rw (h, g)

module _ (base n start : ℕ) (m o : List ℕ) (x : Link) where
  pub tells_number : (k : ℕ) → get_or m (base + x.spot) 0 ≡ k
      → tells base n start m o x ≡ ltb x.spot n && (not (eqb k 0) && eqb x.direction (numbered_direction start o k))
  unfolding tells
  tells_number k e = ap (λ (j : ℕ). ltb x.spot n && (not (eqb j 0) && eqb x.direction (numbered_direction start o j))) e

  pub tells_zero : get_or m (base + x.spot) 0 ≡ 0 → tells base n start m o x ≡ false
  tells_zero e = tells_number 0 e ∙ and_false (eqb 0 0) (ltb x.spot n) (eqb x.direction (numbered_direction start o 0)) (eq-eqb 0 0 refl)

  pub tells_direction : (k : ℕ) → get_or m (base + x.spot) 0 ≡ k → (k ≡ 0 → ⊥) → x.spot < n → tells base n start m o x ≡ eqb x.direction (numbered_direction start o k)
  tells_direction k e h p =
      tells_number k e ∙ and_true (eqb k 0) (ltb x.spot n) (eqb x.direction (numbered_direction start o k)) (ne_eqb k 0 h) (lt-ltb x.spot n p)

  pub tells_beyond : n ≤ x.spot → tells base n start m o x ≡ false
  unfolding tells
  tells_beyond h = rw (le-ltb x.spot n h)

-- a number written for another spot
tells_other : (base n start s v : ℕ) (m o : List ℕ) (x : Link) → (x.spot ≡ s → ⊥) → tells base n start (set m (base + s) v) o x ≡ tells base n start m o x
tells_other base n start s v m o x h =
    tells_number base n start (set m (base + s) v) o x (get_or m (base + x.spot) 0) (other base s x.spot v m h)
    ∙ sym (tells_number base n start m o x (get_or m (base + x.spot) 0) refl)

-- the same matches in another list
pub tells_same : (base n start : ℕ) (m o : List ℕ) (x : Link) → base + n ≤ start → Kept base n m o → tells base n start m m x ≡ tells base n start m o x
tells_same base n start m o x h k =
    let j = get_or m (base + x.spot) 0 in
    tells_number base n start m m x j refl
    ∙ ap (λ (d : ℕ). ltb x.spot n && (not (eqb j 0) && eqb x.direction d)) (kept_back base n m o k (start + 2 * (j - 1) + 1) (omega arith))
    ∙ sym (tells_number base n start m o x j refl)

-- ---- lists of links

-- two numbers more of a part, and one link
pub two_more : (l : List ℕ) (a i e : ℕ) → a + 2 * i + 1 < e → e ≤ length l
    → slice (a + 2 * i) e l ≡ get_or l (a + 2 * i) 0 ∷ get_or l (a + 2 * i + 1) 0 ∷ slice (a + 2 * (i + 1)) e l
two_more l a i e h fits =
    let p : a + 2 * i < e = omega arith in
    let q : suc (a + 2 * i) < e = omega arith in
    let u : suc (a + 2 * i) ≡ a + 2 * i + 1 = omega arith in
    let v : suc (suc (a + 2 * i)) ≡ a + 2 * (i + 1) = omega arith in
    slice-cons (a + 2 * i) e l 0 p fits
    ∙ ap (λ (s : List ℕ). get_or l (a + 2 * i) 0 ∷ s)
    (slice-cons (suc (a + 2 * i)) e l 0 q fits ∙ ap (λ (j : ℕ). get_or l j 0 ∷ slice (suc (suc (a + 2 * i))) e l) u
    ∙ ap (λ (j : ℕ). get_or l (a + 2 * i + 1) 0 ∷ slice j e l) v)

one_more : (l : List ℕ) (a i e : ℕ) → a + 2 * i + 1 < e → e ≤ length l
    → links (slice (a + 2 * i) e l) ≡ link_of (get_or l (a + 2 * i) 0) (get_or l (a + 2 * i + 1) 0) ∷ links (slice (a + 2 * (i + 1)) e l)
unfolding links
one_more l a i e h fits = ap links (two_more l a i e h fits)

pub no_more : (l : List ℕ) (a i t : ℕ) → i ≡ t → links (slice (a + 2 * i) (a + 2 * t) l) ≡ []
unfolding links
no_more l a i t e = ap (λ (j : ℕ). links (slice (a + 2 * j) (a + 2 * t) l)) e ∙ ap links (slice_empty (a + 2 * t) l)

half : (l : List ℕ) (t : ℕ) → length l ≡ 2 * t → length (links l) ≡ t
unfolding links
half [] t h = omega arith
half (s ∷ []) t h = absurd (omega arith)
half (s ∷ d ∷ l) t h = omega (arith, half l (t - 1) (omega arith))

pub links_many : (l : List ℕ) (a t : ℕ) → a + 2 * t ≤ length l → length (links (slice a (a + 2 * t) l)) ≡ t
links_many l a t h =
    let e : a + 2 * t - a ≡ 2 * t = omega arith in
    half (slice a (a + 2 * t) l) t (length-slice a (a + 2 * t) l h ∙ e)

-- what is not named is not among them, and what is among them is named
unnamed : (y : Link) (l : List Link) → names y.spot l ≡ false → among y l ≡ false
unfolding names among
unnamed y [] h = refl
unnamed y (a ∷ l) h =
    let r = or_parts (eqb y.spot a.spot) (names y.spot l) h in
    rw r.0 (unnamed y l r.1)

named : (x : Link) (l : List Link) → among x l ≡ true → names x.spot l ≡ true
unfolding names among
named x [] h = h
named x (a ∷ l) h =
    ⊎_elim
    (λ u. or_left (eqb x.spot a.spot) (names x.spot l) (and_parts (eqb x.spot a.spot) (eqb x.direction a.direction) u).0)
    (λ u. or_right (eqb x.spot a.spot) (names x.spot l) (named x l u))
    (or_cases (same_link x a) (among x l) h)

named_below : (n s : ℕ) (l : List Link) → Lone n l → names s l ≡ true → s < n
unfolding names
named_below n s [] h g = never g refl
named_below n s (a ∷ l) h g =
    ⊎_elim (λ u. omega (arith, eqb-true s a.spot u, h.0)) (λ u. named_below n s l h.2 u) (or_cases (eqb s a.spot) (names s l) g)

-- ---- one link taken out

module _ (x : Link) where
  without_unnamed : (s : ℕ) (l : List Link) → names s l ≡ false → names s (without x l) ≡ false
  unfolding names without
  without_unnamed s [] h = refl
  without_unnamed s (a ∷ l) h =
      let r = or_parts (eqb s a.spot) (names s l) h in
      either (λ (z : List Link). names s z ≡ false) (same_link x a) l (a ∷ without x l) r.1 (rw r.0 (without_unnamed s l r.1))

  without_lone : (n : ℕ) (l : List Link) → Lone n l → Lone n (without x l)
  unfolding without
  without_lone n [] h = h
  without_lone n (a ∷ l) h =
      either (Lone n) (same_link x a) l (a ∷ without x l) h.2 (h.0, without_unnamed a.spot l h.1, without_lone n l h.2)

  gone_past : (n : ℕ) (a : Link) (l : List Link) → (among x l ≡ true → names x.spot (without x l) ≡ false) → Lone n (a ∷ l) → among x (a ∷ l) ≡ true
      → (p : Bool) → same_link x a ≡ p → names x.spot (without x (a ∷ l)) ≡ false
  unfolding names
  gone_past n a l same h g true u =
      ap (names x.spot) (without_first x a l u) ∙ ap (λ (y : Link). names y.spot l) (same_says x a u) ∙ h.1
  gone_past n a l same h g false u =
      let t : among x l ≡ true = sym (among_later x a l u) ∙ g in
      ap (names x.spot) (without_later x a l u) ∙ neither (eqb x.spot a.spot) refl (same t)
    where
      neither : (b : Bool) → eqb x.spot a.spot ≡ b → names x.spot (without x l) ≡ false → (b || names x.spot (without x l)) ≡ false
      neither true e k = never (ap (λ (s : ℕ). names s l) (sym (eqb-true x.spot a.spot e)) ∙ named x l (sym (among_later x a l u) ∙ g)) h.1
      neither false e k = k

  gone : (n : ℕ) (l : List Link) → Lone n l → among x l ≡ true → names x.spot (without x l) ≡ false
  unfolding among
  gone n [] h g = never g refl
  gone n (a ∷ l) h g = gone_past n a l (gone n l h.2) h g (same_link x a) refl

  others_past : (y a : Link) (l : List Link) → same_link y x ≡ false → among y (without x l) ≡ among y l → (p : Bool) → same_link x a ≡ p
      → among y (without x (a ∷ l)) ≡ among y (a ∷ l)
  unfolding among
  others_past y a l h same true u =
      ap (among y) (without_first x a l u) ∙ sym (among_later y a l (ap (same_link y) (sym (same_says x a u)) ∙ h))
  others_past y a l h same false u = ap (among y) (without_later x a l u) ∙ ap (λ (t : Bool). same_link y a || t) same

  others : (y : Link) (l : List Link) → same_link y x ≡ false → among y (without x l) ≡ among y l
  unfolding among without
  others y [] h = refl
  others y (a ∷ l) h = others_past y a l h (others y l h) (same_link x a) refl

not_same : (y x : Link) → eqb y.spot x.spot ≡ false → same_link y x ≡ false
not_same y x h = ap (λ (t : Bool). t && eqb y.direction x.direction) h

-- ---- marking: with the matches to come, the table tells of all

pub record Marking (base n start t : ℕ) (m o : List ℕ) (rest all : List Link) : Type 0 where
  pub kept : Kept base n m o
  pub few : Few base n t m
  pub zeros : (s : ℕ) → names s rest ≡ true → get_or m (base + s) 0 ≡ 0
  pub lone : Lone n rest
  pub told : (x : Link) → (tells base n start m o x || among x rest) ≡ among x all

pub marking : {base n start t : ℕ} {m o : List ℕ} {rest next all : List Link} → rest ≡ next → Marking base n start t m o rest all → Marking base n start t m o next all
marking {base} {n} {start} {t} {m} {o} {all = all} e w = subst (λ (l : List Link). Marking base n start t m o l all) e w

module _ (base n start t used : ℕ) (o : List ℕ) (c : Comparable base n start t used o) where
  abbrev new : List Link
  new = links (slice start (start + 2 * t) o)

  untold : (x : Link) → tells base n start o o x ≡ false
  untold x =
      ⊎_elim (λ h. tells_zero base n start o o x (c.zeros x.spot h)) (λ h. tells_beyond base n start o o x h) (below_or x.spot n)

  pub mark_begin : Marking base n start t o o new new
  mark_begin = record {
    kept = kept_same base n o;
    few = record { few = λ s h. omega (arith, c.zeros s h) };
    zeros = λ s h. c.zeros s (named_below n s new c.lone h);
    lone = c.lone;
    told = λ x. ap (λ (b : Bool). b || among x new) (untold x);
  }

module _ (base n start t : ℕ) (m o : List ℕ) (y : Link) (rest all : List Link) (i : ℕ) (h : i < t) (table : base + n ≤ length m)
    (d : get_or o (start + 2 * i + 1) 0 ≡ y.direction) (w : Marking base n start t m o (y ∷ rest) all) where
  abbrev after : List ℕ
  after = set m (base + y.spot) (i + 1)

  below : y.spot < n
  below = w.lone.0

  unmarked : (s : ℕ) → names s rest ≡ true → get_or after (base + s) 0 ≡ 0
  unfolding names
  unmarked s g =
      other base y.spot s (i + 1) m (λ e. never (ap (λ (j : ℕ). names j rest) (sym e) ∙ g) w.lone.1)
      ∙ w.zeros s (or_right (eqb s y.spot) (names s rest) g)

  told_new : (x : Link) → eqb x.spot y.spot ≡ true → (tells base n start after o x || among x rest) ≡ among x all
  unfolding among names
  told_new x e =
      let s : x.spot ≡ y.spot = eqb-true x.spot y.spot e in
      let p : base + y.spot < length m = omega (arith, below) in
      let one : i + 1 ≡ 0 → ⊥ = λ (z : i + 1 ≡ 0). omega arith in
      let number : get_or after (base + x.spot) 0 ≡ i + 1 = ap (λ (j : ℕ). get_or after (base + j) 0) s ∙ get_or-set_same m (base + y.spot) (i + 1) 0 p in
      let place : start + 2 * (i + 1 - 1) + 1 ≡ start + 2 * i + 1 = omega arith in
      let u : tells base n start after o x ≡ eqb x.direction y.direction =
      tells_direction base n start after o x (i + 1) number one (omega (arith, below))
      ∙ ap (λ (j : ℕ). eqb x.direction (get_or o j 0)) place ∙ ap (eqb x.direction) d in
      let v : tells base n start m o x ≡ false = tells_zero base n start m o x (w.zeros x.spot (or_left (eqb x.spot y.spot) (names x.spot rest) e)) in
      let f : same_link x y ≡ eqb x.direction y.direction = ap (λ (b : Bool). b && eqb x.direction y.direction) e in
      ap (λ (b : Bool). b || among x rest) (u ∙ sym f) ∙ sym (ap (λ (b : Bool). b || (same_link x y || among x rest)) v) ∙ w.told x

  told_other : (x : Link) → eqb x.spot y.spot ≡ false → (tells base n start after o x || among x rest) ≡ among x all
  unfolding among
  told_other x e =
      ap (λ (b : Bool). b || among x rest) (tells_other base n start y.spot (i + 1) m o x (eqb-false x.spot y.spot e))
      ∙ sym (ap (λ (b : Bool). tells base n start m o x || (b || among x rest)) (not_same x y e)) ∙ w.told x

  told_each : (x : Link) (b : Bool) → eqb x.spot y.spot ≡ b → (tells base n start after o x || among x rest) ≡ among x all
  told_each x true e = told_new x e
  told_each x false e = told_other x e

  pub mark_step : Marking base n start t after o rest all
  mark_step = record {
    kept = kept_set base n m o w.kept y.spot (i + 1) below;
    few = few_set base n t m y.spot (i + 1) table below (omega arith) w.few;
    zeros = unmarked;
    lone = w.lone.2;
    told = λ x. told_each x (eqb x.spot y.spot) refl;
  }

or_none : (b : Bool) → b || false ≡ b
or_none true = refl
or_none false = refl

pub mark_end : (base n start t : ℕ) (m o : List ℕ) → Marking base n start t m o [] (links (slice start (start + 2 * t) o)) → Marked base n start t m o
unfolding among
mark_end base n start t m o w = record { kept = w.kept; few = w.few; told = λ x. sym (or_none (tells base n start m o x)) ∙ w.told x }

-- ---- striking out: the present matches to come are taken from the new ones that are left

pub record Striking (base n start t : ℕ) (m o : List ℕ) (old : List Link) (answer : Bool) : Type 0 where
  pub rem : List Link
  pub kept : Kept base n m o
  pub few : Few base n t m
  pub told : (x : Link) → tells base n start m o x ≡ among x rem
  pub lone : Lone n rem
  pub goes : takes old rem ≡ answer
  pub many : length rem ≡ length old

pub striking : {base n start t : ℕ} {m o : List ℕ} {old next : List Link} {answer : Bool} → old ≡ next → Striking base n start t m o old answer
    → Striking base n start t m o next answer
striking {base} {n} {start} {t} {m} {o} {answer = answer} e w = subst (λ (l : List Link). Striking base n start t m o l answer) e w

module _ (base n start t : ℕ) (m o : List ℕ) where
  pub strike_begin : (used : ℕ) → Comparable base n start t used o → Marked base n start t m o → (ps : List ℕ) → length (links ps) ≡ t
      → Striking base n start t m o (links ps) (same_matches (slice start (start + 2 * t) o) ps)
  strike_begin used c w ps e = record {
    rem = links (slice start (start + 2 * t) o);
    kept = w.kept;
    few = w.few;
    told = w.told;
    lone = c.lone;
    goes = takes_same (slice start (start + 2 * t) o) ps;
    many = links_many o start t c.places.fits ∙ sym e;
  }

  pub strike_end : {answer : Bool} → Striking base n start t m o [] answer → true ≡ answer
  strike_end w = sym (none_left w.rem w.many) ∙ w.goes

  module _ (x : Link) (old : List Link) {answer : Bool} (w : Striking base n start t m o (x ∷ old) answer) where
    pub strike_stop : tells base n start m o x ≡ false → false ≡ answer
    strike_stop h = sym (takes_none x old w.rem (sym (w.told x) ∙ h)) ∙ w.goes

    module _ (table : base + n ≤ length m) (h : tells base n start m o x ≡ true) where
      abbrev struck : List ℕ
      struck = set m (base + x.spot) 0

      is_in : among x w.rem ≡ true
      is_in = sym (w.told x) ∙ h

      in_table : x.spot < n
      unfolding tells
      in_table = ltb-true x.spot n (and_parts (ltb x.spot n) _ h).0

      told_after : (y : Link) (b : Bool) → eqb y.spot x.spot ≡ b → tells base n start struck o y ≡ among y (without x w.rem)
      told_after y true e =
          let s : y.spot ≡ x.spot = eqb-true y.spot x.spot e in
          let p : base + x.spot < length m = omega (arith, in_table) in
          tells_zero base n start struck o y (ap (λ (j : ℕ). get_or struck (base + j) 0) s ∙ get_or-set_same m (base + x.spot) 0 0 p)
          ∙ sym (unnamed y (without x w.rem) (ap (λ (j : ℕ). names j (without x w.rem)) s ∙ gone x n w.rem w.lone is_in))
      told_after y false e =
          tells_other base n start x.spot 0 m o y (eqb-false y.spot x.spot e) ∙ w.told y ∙ sym (others x y w.rem (not_same y x e))

      pub strike_step : Striking base n start t struck o old answer
      strike_step = record {
        rem = without x w.rem;
        kept = kept_set base n m o w.kept x.spot 0 in_table;
        few = few_set base n t m x.spot 0 table in_table (omega arith) w.few;
        told = λ y. told_after y (eqb y.spot x.spot) refl;
        lone = without_lone x n w.rem w.lone;
        goes = sym (takes_one x old w.rem is_in) ∙ w.goes;
        many = omega (arith, one_fewer x w.rem is_in, w.many);
      }

-- ---- the present matches stand at the front of the list

pub compare_begin : (base n start t used : ℕ) (m o : List ℕ) → Comparable base n start t used o → Marked base n start t m o → t ≡ used
    → Striking base n start t m o (links (slice (0 + 2 * 0) (0 + 2 * t) o)) (same_matches (slice start (start + 2 * t) o) (take (2 * used) o))
compare_begin base n start t used m o c w e =
    let p : 2 * used ≡ 0 + 2 * t = omega arith in
    let fits : 0 + 2 * t ≤ length o = omega (arith, c.places.present, c.places.table, c.places.fits) in
    striking (ap (λ (k : ℕ). links (take k o)) p)
    (strike_begin base n start t m o used c w (take (2 * used) o) (ap (λ (k : ℕ). length (links (take k o))) p ∙ links_many o 0 t fits))

module _ (base n start t used : ℕ) (m o : List ℕ) (places : Laid base n start t used o) (same : t ≡ used) (j : ℕ) (h : j < t) {answer : Bool}
    (w : Striking base n start t m o (links (slice (0 + 2 * j) (0 + 2 * t) o)) answer) {r : Bool} {after : List ℕ}
    (e : r ≡ tells base n start m m (link_of (get_or m (2 * j) 0) (get_or m (2 * j + 1) 0)))
    (f : after ≡ cond r (set m (base + get_or m (2 * j) 0) 0) m) where
  abbrev here : Link
  here = link_of (get_or o (0 + 2 * j) 0) (get_or o (0 + 2 * j + 1) 0)

  abbrev later : List Link
  later = links (slice (0 + 2 * (j + 1)) (0 + 2 * t) o)

  spot_same : get_or m (2 * j) 0 ≡ get_or o (0 + 2 * j) 0
  spot_same =
      let p : 2 * j ≡ 0 + 2 * j = omega arith in
      kept_front base n m o w.kept (2 * j) (omega (arith, places.present)) ∙ ap (λ (i : ℕ). get_or o i 0) p

  direction_same : get_or m (2 * j + 1) 0 ≡ get_or o (0 + 2 * j + 1) 0
  direction_same =
      let p : 2 * j + 1 ≡ 0 + 2 * j + 1 = omega arith in
      kept_front base n m o w.kept (2 * j + 1) (omega (arith, places.present)) ∙ ap (λ (i : ℕ). get_or o i 0) p

  known : tells base n start m o here ≡ r
  known =
      sym (tells_same base n start m o here places.table w.kept)
      ∙ ap (λ (s : ℕ). tells base n start m m (link_of s (get_or o (0 + 2 * j + 1) 0))) (sym spot_same)
      ∙ ap (λ (d : ℕ). tells base n start m m (link_of (get_or m (2 * j) 0) d)) (sym direction_same) ∙ sym e

  next : Striking base n start t m o (here ∷ later) answer
  next = striking (one_more o 0 j (0 + 2 * t) (omega arith) (omega (arith, places.present, places.table, places.fits))) w

  pub compare_stop : r ≡ false → (false ≡ answer) × Kept base n after o
  compare_stop g = (
    strike_stop base n start t m o here later next (known ∙ g),
    subst (λ (l : List ℕ). Kept base n l o) (sym (f ∙ ap (λ (b : Bool). cond b (set m (base + get_or m (2 * j) 0) 0) m) g)) w.kept,
  )

  pub compare_go : r ≡ true → Striking base n start t after o later answer
  compare_go g =
      let long : base + n ≤ length m = omega (arith, w.kept.long, places.table, places.fits) in
      subst (λ (l : List ℕ). Striking base n start t l o later answer)
      (sym (f ∙ ap (λ (b : Bool). cond b (set m (base + get_or m (2 * j) 0) 0) m) g ∙ ap (λ (s : ℕ). set m (base + s) 0) spot_same))
      (strike_step base n start t m o here later next long (known ∙ g))

-- one new match more is marked
pub compare_mark : (base n start t used : ℕ) (m o : List ℕ) → Laid base n start t used o → (i : ℕ) → i < t → (all : List Link)
    → Marking base n start t m o (links (slice (start + 2 * i) (start + 2 * t) o)) all
    → Marking base n start t (set m (base + get_or m (start + 2 * i) 0) (i + 1)) o (links (slice (start + 2 * (i + 1)) (start + 2 * t) o)) all
compare_mark base n start t used m o places i h all w =
    let y = link_of (get_or o (start + 2 * i) 0) (get_or o (start + 2 * i + 1) 0) in
    let rest = links (slice (start + 2 * (i + 1)) (start + 2 * t) o) in
    let long : base + n ≤ length m = omega (arith, w.kept.long, places.table, places.fits) in
    subst (λ (s : ℕ). Marking base n start t (set m (base + s) (i + 1)) o rest all)
    (sym (kept_back base n m o w.kept (start + 2 * i) (omega (arith, places.table))))
    (mark_step base n start t m o y rest all i h long refl (marking (one_more o start i (start + 2 * t) (omega arith) places.fits) w))

-- the spot of the next new match is one of the table
pub mark_within : (base n start t used : ℕ) (m o : List ℕ) → Laid base n start t used o → (i : ℕ) → i < t → (all : List Link)
    → Marking base n start t m o (links (slice (start + 2 * i) (start + 2 * t) o)) all → get_or m (start + 2 * i) 0 < n
mark_within base n start t used m o places i h all w =
    let v = marking (one_more o start i (start + 2 * t) (omega arith) places.fits) w in
    omega (arith, v.lone.0, kept_back base n m o w.kept (start + 2 * i) (omega (arith, places.table)))

-- of different lengths, they differ
pub compare_lengths : (base n start t used : ℕ) (o : List ℕ) → Laid base n start t used o → (t ≡ used → ⊥)
    → false ≡ same_matches (slice start (start + 2 * t) o) (take (2 * used) o)
compare_lengths base n start t used o places h =
    let p : 2 * used ≡ 0 + 2 * used = omega arith in
    let old : length (links (take (2 * used) o)) ≡ used = ap (λ (k : ℕ). length (links (take k o))) p ∙ links_many o 0 used (omega (arith, places.present, places.table, places.fits)) in
    let new = links_many o start t places.fits in
    sym (differ (links (take (2 * used) o)) (links (slice start (start + 2 * t) o)) (λ e. h (sym new ∙ sym e ∙ old)))
    ∙ takes_same (slice start (start + 2 * t) o) (take (2 * used) o)
