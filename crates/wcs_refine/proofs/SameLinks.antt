-- Two lists of links that are the same once sorted: the links of the one can be taken from the other, one by one, and none is left. Assumes nothing.
use Rattle.std.proofs.Common.{◌≡◌, ℕ, suc, ◌<◌, ◌≤◌, Bool, true, false, cond, ◌||◌, eqb, ltb, ◌⊎◌, List, [], ◌∷◌, length, sym, refl, ap, ◌∙◌, inl, inr, ⊎_elim, arith, ltb-false, ltb-true, lt-ltb, eq-eqb, eqb-true, le-leb, leb-true}
use Rattle.std.proofs.lemmas.Bool.{or_cases, or_left, or_right, and_parts}
use Rattle.wcs_refine.specs.Associate.{Link, links, link_le, insert_link, sorted_links, same_links, same_matches}
use Rattle.wcs_refine.specs.Comparing.{same_link, among}
use Rattle.wcs_refine.proofs.Along.{either}

-- ---- tests

pub never : {A : Type 0} {b : Bool} → b ≡ true → b ≡ false → A
never p q = let z : ◌≡◌ {A = ℕ} 0 1 = cc in absurd (omega arith)

or_swap : (a b c : Bool) → a || (b || c) ≡ b || (a || c)
or_swap true true c = refl
or_swap true false c = refl
or_swap false b c = refl

both_ways : (a b : Bool) → (a ≡ true → b ≡ true) → (b ≡ true → a ≡ true) → a ≡ b
both_ways true b f g = sym (f refl)
both_ways false true f g = g refl
both_ways false false f g = refl

-- ---- links

same_link_lem : {s t d e : ℕ} → s ≡ t → d ≡ e → ◌≡◌ {A = Link} (record { spot = s; direction = d }) (record { spot = t; direction = e })
same_link_lem p q = cc

pub same_says : (a b : Link) → same_link a b ≡ true → a ≡ b
same_says a b h =
    let r = and_parts (eqb a.spot b.spot) _ h in
    same_link_lem (eqb-true a.spot b.spot r.0) (eqb-true a.direction b.direction r.1)

pub same_self : (a : Link) → same_link a a ≡ true
same_self a = rw (eq-eqb a.spot a.spot refl, eq-eqb a.direction a.direction refl)

-- ---- their order

abbrev Before : Link → Link → Type 0
Before a b = (a.spot < b.spot) ⊎ ((a.spot ≡ b.spot) × (a.direction ≤ b.direction))

le_says : (a b : Link) → link_le a b ≡ true → Before a b
unfolding link_le
le_says a b h =
    ⊎_elim (λ q. inl (ltb-true a.spot b.spot q))
    (λ q. let r = and_parts (eqb a.spot b.spot) _ q in inr (eqb-true a.spot b.spot r.0, leb-true a.direction b.direction r.1))
    (or_cases (ltb a.spot b.spot) _ h)

le_shows : (a b : Link) → Before a b → link_le a b ≡ true
unfolding link_le
le_shows a b h =
    ⊎_elim (λ q. or_left (ltb a.spot b.spot) _ (lt-ltb a.spot b.spot q))
    (λ q. or_right (ltb a.spot b.spot) _ (rw (eq-eqb a.spot b.spot q.0) (le-leb a.direction b.direction q.1)))
    h

pub below_or : (a b : ℕ) → (a < b) ⊎ (b ≤ a)
below_or a b = by (ltb a b) refl
  where
    by : (t : Bool) → ltb a b ≡ t → (a < b) ⊎ (b ≤ a)
    by true e = inl (ltb-true a b e)
    by false e = inr (ltb-false a b e)

le_self : (a : Link) → link_le a a ≡ true
le_self a = le_shows a a (inr (refl, omega arith))

le_either : (a b : Link) → Before a b ⊎ Before b a
le_either a b =
    ⊎_elim (λ u. inl (inl u))
    (λ u.
    ⊎_elim (λ v. inr (inl v))
    (λ v. ⊎_elim (λ x. inl (inr (omega arith, omega arith))) (λ x. inr (inr (omega arith, x))) (below_or a.direction b.direction))
    (below_or b.spot a.spot))
    (below_or a.spot b.spot)

le_other : (a b : Link) → link_le a b ≡ false → link_le b a ≡ true
le_other a b h = ⊎_elim (λ u. never (le_shows a b u) h) (λ u. le_shows b a u) (le_either a b)

le_both : (a b : Link) → link_le a b ≡ true → link_le b a ≡ true → a ≡ b
le_both a b h g =
    ⊎_elim
    (λ u. ⊎_elim (λ v. absurd (omega arith)) (λ v. absurd (omega (arith, v.0))) (le_says b a g))
    (λ u. ⊎_elim (λ v. absurd (omega (arith, u.0))) (λ v. same_link_lem u.0 (omega (arith, u.1, v.1))) (le_says b a g))
    (le_says a b h)

le_through : (a b c : Link) → link_le a b ≡ true → link_le b c ≡ true → link_le a c ≡ true
le_through a b c h g =
    le_shows a c
    (⊎_elim
    (λ u. ⊎_elim (λ v. inl (omega arith)) (λ v. inl (omega (arith, v.0))) (le_says b c g))
    (λ u. ⊎_elim (λ v. inl (omega (arith, u.0))) (λ v. inr (omega (arith, u.0, v.0), omega (arith, u.1, v.1))) (le_says b c g))
    (le_says a b h))

-- what comes after c does not come before what comes before it
le_past : (a b c : Link) → link_le a c ≡ true → link_le b c ≡ false → link_le b a ≡ false
le_past a b c u v = by (link_le b a) refl
  where
    by : (t : Bool) → link_le b a ≡ t → t ≡ false
    by true w = never (le_through b a c w u) v
    by false w = refl

-- ---- inserting

module _ (a b : Link) (l : List Link) where
  insert_first : link_le a b ≡ true → insert_link a (b ∷ l) ≡ a ∷ b ∷ l
  unfolding insert_link
  insert_first h = ap (λ (t : Bool). cond t (a ∷ b ∷ l) (b ∷ insert_link a l)) h

  insert_later : link_le a b ≡ false → insert_link a (b ∷ l) ≡ b ∷ insert_link a l
  unfolding insert_link
  insert_later h = ap (λ (t : Bool). cond t (a ∷ b ∷ l) (b ∷ insert_link a l)) h

  two_ordered : cond (link_le a b) (a ∷ b ∷ l) (b ∷ a ∷ l) ≡ cond (link_le b a) (b ∷ a ∷ l) (a ∷ b ∷ l)
  two_ordered = by (link_le a b) (link_le b a) refl refl
    where
      by : (p q : Bool) → link_le a b ≡ p → link_le b a ≡ q → cond p (a ∷ b ∷ l) (b ∷ a ∷ l) ≡ cond q (b ∷ a ∷ l) (a ∷ b ∷ l)
      by true true u v = let e : a ≡ b = le_both a b u v in cc
      by true false u v = refl
      by false true u v = refl
      by false false u v = never (le_other a b u) v

  two_first : insert_link a l ≡ a ∷ l → insert_link b l ≡ b ∷ l → insert_link a (b ∷ l) ≡ insert_link b (a ∷ l)
  unfolding insert_link
  two_first p q =
      ap (λ (z : List Link). cond (link_le a b) (a ∷ b ∷ l) (b ∷ z)) p ∙ two_ordered
      ∙ ap (λ (z : List Link). cond (link_le b a) (b ∷ a ∷ l) (a ∷ z)) (sym q)

one_first : (a b c : Link) (l : List Link) → link_le a c ≡ true → link_le b c ≡ false → insert_link a (insert_link b (c ∷ l)) ≡ insert_link b (insert_link a (c ∷ l))
one_first a b c l u v =
    ap (insert_link a) (insert_later b c l v) ∙ insert_first a c (insert_link b l) u
    ∙ sym
    (ap (insert_link b) (insert_first a c l u) ∙ insert_later b a (c ∷ l) (le_past a b c u v)
    ∙ ap (λ (z : List Link). a ∷ z) (insert_later b c l v))

insert_past : (a b c : Link) (l : List Link) → insert_link a (insert_link b l) ≡ insert_link b (insert_link a l) → (p q : Bool) → link_le a c ≡ p → link_le b c ≡ q
    → insert_link a (insert_link b (c ∷ l)) ≡ insert_link b (insert_link a (c ∷ l))
insert_past a b c l same true true u v =
    ap (insert_link a) (insert_first b c l v) ∙ two_first a b (c ∷ l) (insert_first a c l u) (insert_first b c l v)
    ∙ sym (ap (insert_link b) (insert_first a c l u))
insert_past a b c l same true false u v = one_first a b c l u v
insert_past a b c l same false true u v = sym (one_first b a c l v u)
insert_past a b c l same false false u v =
    ap (insert_link a) (insert_later b c l v) ∙ insert_later a c (insert_link b l) u ∙ ap (λ (z : List Link). c ∷ z) same
    ∙ sym (ap (insert_link b) (insert_later a c l u) ∙ insert_later b c (insert_link a l) v)

insert_swap : (a b : Link) (l : List Link) → insert_link a (insert_link b l) ≡ insert_link b (insert_link a l)
unfolding insert_link
insert_swap a b [] = two_first a b [] refl refl
insert_swap a b (c ∷ l) = insert_past a b c l (insert_swap a b l) (link_le a c) (link_le b c) refl refl

-- ---- taking one out

unfoldable pub without : Link → List Link → List Link
without x [] = []
without x (a ∷ l) = cond (same_link x a) l (a ∷ without x l)

module _ (x a : Link) (l : List Link) where
  pub without_first : same_link x a ≡ true → without x (a ∷ l) ≡ l
  unfolding without
  without_first h = ap (λ (t : Bool). cond t l (a ∷ without x l)) h

  pub without_later : same_link x a ≡ false → without x (a ∷ l) ≡ a ∷ without x l
  unfolding without
  without_later h = ap (λ (t : Bool). cond t l (a ∷ without x l)) h

  pub among_later : same_link x a ≡ false → among x (a ∷ l) ≡ among x l
  unfolding among
  among_later h = ap (λ (t : Bool). t || among x l) h

not_first : (x b : Link) → link_le x b ≡ false → same_link x b ≡ false
not_first x b h = by (same_link x b) refl
  where
    by : (t : Bool) → same_link x b ≡ t → t ≡ false
    by true w = never (ap (link_le x) (sym (same_says x b w)) ∙ le_self x) h
    by false w = refl

without_past : (x b : Link) (l : List Link) → without x (insert_link x l) ≡ l → (p : Bool) → link_le x b ≡ p → without x (insert_link x (b ∷ l)) ≡ b ∷ l
without_past x b l same true u = ap (without x) (insert_first x b l u) ∙ without_first x x (b ∷ l) (same_self x)
without_past x b l same false u =
    ap (without x) (insert_later x b l u) ∙ without_later x b (insert_link x l) (not_first x b u) ∙ ap (λ (z : List Link). b ∷ z) same

without_insert : (x : Link) (l : List Link) → without x (insert_link x l) ≡ l
unfolding insert_link
without_insert x [] = without_first x x [] (same_self x)
without_insert x (b ∷ l) = without_past x b l (without_insert x l) (link_le x b) refl

sort_past : (x a : Link) (l : List Link) → (among x l ≡ true → sorted_links l ≡ insert_link x (sorted_links (without x l))) → among x (a ∷ l) ≡ true
    → (p : Bool) → same_link x a ≡ p → sorted_links (a ∷ l) ≡ insert_link x (sorted_links (without x (a ∷ l)))
unfolding sorted_links
sort_past x a l same h true u =
    ap (λ (y : Link). insert_link y (sorted_links l)) (sym (same_says x a u)) ∙ ap (λ (z : List Link). insert_link x (sorted_links z)) (sym (without_first x a l u))
sort_past x a l same h false u =
    ap (insert_link a) (same (sym (among_later x a l u) ∙ h)) ∙ insert_swap a x (sorted_links (without x l))
    ∙ ap (λ (z : List Link). insert_link x (sorted_links z)) (sym (without_later x a l u))

sort_out : (x : Link) (l : List Link) → among x l ≡ true → sorted_links l ≡ insert_link x (sorted_links (without x l))
unfolding among
sort_out x [] h = never h refl
sort_out x (a ∷ l) h = sort_past x a l (sort_out x l) h (same_link x a) refl

-- ---- one of the inserted, and of the sorted

among_past : (x a b : Link) (l : List Link) → among x (insert_link a l) ≡ same_link x a || among x l → (p : Bool) → link_le a b ≡ p
    → among x (insert_link a (b ∷ l)) ≡ same_link x a || among x (b ∷ l)
unfolding among
among_past x a b l same true u = ap (among x) (insert_first a b l u)
among_past x a b l same false u =
    ap (among x) (insert_later a b l u) ∙ ap (λ (t : Bool). same_link x b || t) same ∙ or_swap (same_link x b) (same_link x a) (among x l)

among_insert : (x a : Link) (l : List Link) → among x (insert_link a l) ≡ same_link x a || among x l
unfolding among insert_link
among_insert x a [] = refl
among_insert x a (b ∷ l) = among_past x a b l (among_insert x a l) (link_le a b) refl

among_sorted : (x : Link) (l : List Link) → among x (sorted_links l) ≡ among x l
unfolding among sorted_links
among_sorted x [] = refl
among_sorted x (a ∷ l) = among_insert x a (sorted_links l) ∙ ap (λ (t : Bool). same_link x a || t) (among_sorted x l)

-- ---- the same lists

equal_says : (k l : List Link) → same_links k l ≡ true → k ≡ l
unfolding same_links
equal_says [] [] h = refl
equal_says [] (b ∷ l) h = never h refl
equal_says (a ∷ k) [] h = never h refl
equal_says (a ∷ k) (b ∷ l) h =
    let r = and_parts (same_link a b) _ h in
    let e : a ≡ b = same_says a b r.0 in
    let f : k ≡ l = equal_says k l r.1 in
    cc

equal_self : (l : List Link) → same_links l l ≡ true
unfolding same_links
equal_self [] = refl
equal_self (a ∷ l) = rw (eq-eqb a.spot a.spot refl, eq-eqb a.direction a.direction refl) (equal_self l)

insert_same : (x : Link) (k l : List Link) → same_links (insert_link x k) (insert_link x l) ≡ same_links k l
insert_same x k l =
    both_ways (same_links (insert_link x k) (insert_link x l)) (same_links k l)
    (λ h.
    let e : k ≡ l = sym (without_insert x k) ∙ ap (without x) (equal_says (insert_link x k) (insert_link x l) h) ∙ without_insert x l in
    ap (λ (z : List Link). same_links z l) e ∙ equal_self l)
    (λ h. ap (λ (z : List Link). same_links (insert_link x z) (insert_link x l)) (equal_says k l h) ∙ equal_self (insert_link x l))

some_left : (a : Link) (l : List Link) → same_links (insert_link a l) [] ≡ false
unfolding same_links insert_link
some_left a [] = refl
some_left a (b ∷ l) = either (λ (z : List Link). same_links z [] ≡ false) (link_le a b) (a ∷ b ∷ l) (b ∷ insert_link a l) refl refl

-- ---- the present links are taken from the new ones

unfoldable pub takes : List Link → List Link → Bool
takes [] [] = true
takes [] (a ∷ l) = false
takes (x ∷ old) new = cond (among x new) (takes old (without x new)) false

pub takes_one : (x : Link) (old new : List Link) → among x new ≡ true → takes (x ∷ old) new ≡ takes old (without x new)
unfolding takes
takes_one x old new h = ap (λ (t : Bool). cond t (takes old (without x new)) false) h

pub takes_none : (x : Link) (old new : List Link) → among x new ≡ false → takes (x ∷ old) new ≡ false
unfolding takes
takes_none x old new h = ap (λ (t : Bool). cond t (takes old (without x new)) false) h

takes_past : (x : Link) (old new : List Link) → takes old (without x new) ≡ same_links (sorted_links (without x new)) (sorted_links old)
    → (p : Bool) → among x new ≡ p → takes (x ∷ old) new ≡ same_links (sorted_links new) (insert_link x (sorted_links old))
takes_past x old new same true u =
    takes_one x old new u ∙ same ∙ sym (insert_same x (sorted_links (without x new)) (sorted_links old))
    ∙ ap (λ (z : List Link). same_links z (insert_link x (sorted_links old))) (sym (sort_out x new u))
takes_past x old new same false u =
    takes_none x old new u
    ∙ both_ways false (same_links (sorted_links new) (insert_link x (sorted_links old))) (λ h. never h refl)
    (λ h.
    let e = equal_says (sorted_links new) (insert_link x (sorted_links old)) h in
    let t : among x new ≡ true =
    sym (among_sorted x new) ∙ ap (among x) e ∙ among_insert x x (sorted_links old) ∙ or_left (same_link x x) _ (same_self x) in
    never t u)

takes_is : (old new : List Link) → takes old new ≡ same_links (sorted_links new) (sorted_links old)
unfolding takes sorted_links same_links
takes_is [] [] = refl
takes_is [] (a ∷ l) = sym (some_left a (sorted_links l))
takes_is (x ∷ old) new = takes_past x old new (takes_is old (without x new)) (among x new) refl

pub takes_same : (new old : List ℕ) → takes (links old) (links new) ≡ same_matches new old
unfolding same_matches
takes_same new old = takes_is (links old) (links new)

-- ---- how many

fewer_past : (x a : Link) (l : List Link) → (among x l ≡ true → suc (length (without x l)) ≡ length l) → among x (a ∷ l) ≡ true
    → (p : Bool) → same_link x a ≡ p → suc (length (without x (a ∷ l))) ≡ length (a ∷ l)
fewer_past x a l same h true u = ap (λ (z : List Link). suc (length z)) (without_first x a l u)
fewer_past x a l same h false u =
    ap (λ (z : List Link). suc (length z)) (without_later x a l u) ∙ ap suc (same (sym (among_later x a l u) ∙ h))

pub one_fewer : (x : Link) (l : List Link) → among x l ≡ true → suc (length (without x l)) ≡ length l
unfolding among
one_fewer x [] h = never h refl
one_fewer x (a ∷ l) h = fewer_past x a l (one_fewer x l) h (same_link x a) refl

many_past : (x : Link) (old new : List Link) → (takes old (without x new) ≡ true → length old ≡ length (without x new)) → takes (x ∷ old) new ≡ true
    → (p : Bool) → among x new ≡ p → suc (length old) ≡ length new
many_past x old new same h true u = ap suc (same (sym (takes_one x old new u) ∙ h)) ∙ one_fewer x new u
many_past x old new same h false u = never h (takes_none x old new u)

same_many : (old new : List Link) → takes old new ≡ true → length old ≡ length new
unfolding takes
same_many [] [] h = refl
same_many [] (a ∷ l) h = never h refl
same_many (x ∷ old) new h = many_past x old new (same_many old (without x new)) h (among x new) refl

-- lists of different lengths differ
pub differ : (old new : List Link) → (length old ≡ length new → ⊥) → takes old new ≡ false
differ old new h = by (takes old new) refl
  where
    by : (t : Bool) → takes old new ≡ t → t ≡ false
    by true e = absurd (h (same_many old new e))
    by false e = refl

-- as many, and none left to take
pub none_left : (new : List Link) → length new ≡ 0 → takes [] new ≡ true
unfolding takes
none_left [] h = refl
none_left (a ∷ l) h = absurd (omega arith)
