-- Elements are offered in order, and one is taken unless it shares something with one that was taken before: what is taken (`picks`), and that nothing
-- else could be (`chosen`). Assumes nothing.
use Rattle.std.proofs.Common.{◌≡◌, ◌⊎◌, Bool, true, false, cond, ◌||◌, List, [], ◌∷◌, inl, inr, ⊎_elim, refl, sym, ap₂, subst, ◌∙◌}
use Rattle.std.proofs.lemmas.Bool.{false≢true, or_parts, or_from, or_left, or_right, or_cases}
use Rattle.pairs.specs.Elements.{All}
use Rattle.matching.proofs.Members.{Has, all_has, has_all, Chain}

pub both_ways : {b : Bool} → b ≡ true → b ≡ false → ⊥
both_ways h k = false≢true (sym k ∙ h)

pub either_way : {C : Type 0} (b : Bool) → (b ≡ true → C) → (b ≡ false → C) → C
either_way true f g = f refl
either_way false f g = g refl

-- ---- offering

module _ {A : Type 0} (share : A → A → Bool) where
  unfoldable pub clash : A → List A → Bool
  clash x [] = false
  clash x (y ∷ l) = share x y || clash x l

  unfoldable pub picked : List A → List A → List A
  picked taken [] = []
  picked taken (x ∷ l) = cond (clash x taken) (picked taken l) (x ∷ picked (x ∷ taken) l)

  abbrev pub Free : A → A → Type 0
  Free x y = share y x ≡ false

  pub picked_clash : (taken : List A) (x : A) (l : List A) → clash x taken ≡ true → picked taken (x ∷ l) ≡ picked taken l
  unfolding picked
  picked_clash taken x l e = rw e

  pub picked_free : (taken : List A) (x : A) (l : List A) → clash x taken ≡ false → picked taken (x ∷ l) ≡ x ∷ picked (x ∷ taken) l
  unfolding picked
  picked_free taken x l e = rw e

  clash_or : (x y : A) (taken : List A) → clash x (y ∷ taken) ≡ false → (share x y ≡ false) × (clash x taken ≡ false)
  unfolding clash
  clash_or x y taken h = or_parts (share x y) (clash x taken) h

  clash_more : (x y : A) (taken : List A) → share x y ≡ false → clash x taken ≡ false → clash x (y ∷ taken) ≡ false
  unfolding clash
  clash_more x y taken h k = or_from (share x y) (clash x taken) h k

  pub clash_first : (x y : A) (taken : List A) → share x y ≡ true → clash x (y ∷ taken) ≡ true
  unfolding clash
  clash_first x y taken h = or_left (share x y) (clash x taken) h

  pub clash_rest : (x y : A) (taken : List A) → clash x taken ≡ true → clash x (y ∷ taken) ≡ true
  unfolding clash
  clash_rest x y taken h = or_right (share x y) (clash x taken) h

  clash_split : (x y : A) (taken : List A) → clash x (y ∷ taken) ≡ true → (share x y ≡ true) ⊎ (clash x taken ≡ true)
  unfolding clash
  clash_split x y taken h = or_cases (share x y) (clash x taken) h

-- L: not after; E: earlier. What is not after another is the same or earlier.
module _ {A : Type 0} (share : A → A → Bool) (L E : A → A → Type 0)
    (self : (x : A) → share x x ≡ true) (never : (x : A) → E x x → ⊥) (against : (x y : A) → L x y → E y x → ⊥) (strict : (x y : A) → L x y → (x ≡ y) ⊎ E x y) where
  -- why an element was not taken: it shares something with one that was taken before, or with an earlier one of the list
  abbrev pub Barred : List A → List A → A → Type 0
  Barred taken out p = (clash share p taken ≡ true) ⊎ ((n : A) × Has n out × (share p n ≡ true) × E n p)

  -- ---- what is taken

  pub record Taking (S taken out : List A) : Type 0 where
    pub offered : (x : A) → Has x out → Has x S
    pub free : (x : A) → Has x out → clash share x taken ≡ false
    pub alone : Chain (Free share) out
    pub chain : Chain L out
    pub explained : (x : A) → Has x S → Has x out ⊎ Barred taken out x

  skipped : (x : A) (S taken out : List A) → clash share x taken ≡ true → Taking S taken out → Taking (x ∷ S) taken out
  unfolding Has
  skipped x S taken out e t = record {
    offered = λ y q. inr (t.offered y q);
    free = t.free;
    alone = t.alone;
    chain = t.chain;
    explained = λ y q. ⊎_elim (λ (p : x ≡ y). inr (inl (subst (λ (z : A). clash share z taken ≡ true) p e))) (λ p. t.explained y p) q;
  }

  kept : (x : A) (S taken out : List A) → clash share x taken ≡ false → All (L x) S
      → Taking S (x ∷ taken) out → Taking (x ∷ S) taken (x ∷ out)
  unfolding Has Chain
  kept x S taken out e before t = record {
    offered = λ y q. ⊎_elim (λ (p : x ≡ y). inl p) (λ p. inr (t.offered y p)) q;
    free = λ y q. ⊎_elim (λ (p : x ≡ y). subst (λ (z : A). clash share z taken ≡ false) p e) (λ p. (clash_or share y x taken (t.free y p)).1) q;
    alone = (all_has (Free share x) out (λ y q. (clash_or share y x taken (t.free y q)).0), t.alone);
    chain = (all_has (L x) out (λ y q. has_all (L x) S before y (t.offered y q)), t.chain);
    explained = λ y q. ⊎_elim (λ (p : x ≡ y). inl (inl p)) (λ p. because y p (t.explained y p)) q;
  }
    where
      because : (y : A) → Has y S → Has y out ⊎ Barred (x ∷ taken) out y → Has y (x ∷ out) ⊎ Barred taken (x ∷ out) y
      because y p (inl q) = inl (inr q)
      because y p (inr (inl q)) =
          ⊎_elim
          (λ (u : share y x ≡ true). ⊎_elim (λ (v : x ≡ y). inl (inl v)) (λ (v : E x y). inr (inr (x, inl refl, u, v))) (strict x y (has_all (L x) S before y p)))
          (λ (u : clash share y taken ≡ true). inr (inl u))
          (clash_split share y x taken q)
      because y p (inr (inr q)) = inr (inr (q.0, inr (q.1), q.2, q.3))

  pub picks : (S taken : List A) → Chain L S → Taking S taken (picked share taken S)
  unfolding Chain picked Has
  picks [] taken h = record { offered = λ x q. q; free = λ x q. absurd q; alone = tt; chain = tt; explained = λ x q. absurd q }
  picks (x ∷ S) taken h = by (clash share x taken) refl (picks S taken (h.1)) (picks S (x ∷ taken) (h.1))
    where
      by : (b : Bool) → clash share x taken ≡ b → Taking S taken (picked share taken S) → Taking S (x ∷ taken) (picked share (x ∷ taken) S)
          → Taking (x ∷ S) taken (picked share taken (x ∷ S))
      by true e t u = subst (Taking (x ∷ S) taken) (sym (picked_clash share taken x S e)) (skipped x S taken (picked share taken S) e t)
      by false e t u = subst (Taking (x ∷ S) taken) (sym (picked_free share taken x S e)) (kept x S taken (picked share (x ∷ taken) S) e (h.0) u)

  -- ---- nothing else could be taken

  -- What some set R has to have, for its elements to be those that are taken of S: they were offered and are free, no two share anything, and they explain
  -- all others.
  pub record Chosen (S taken : List A) (R : A → Type 0) : Type 0 where
    pub offered : (x : A) → R x → Has x S
    pub free : (x : A) → R x → clash share x taken ≡ false
    pub alone : (x y : A) → R x → R y → share x y ≡ true → x ≡ y
    pub explained : (x : A) → Has x S → R x ⊎ ((clash share x taken ≡ true) ⊎ ((n : A) × R n × (share x n ≡ true) × E n x))

  -- what clashes is not of the set
  passed_by : (p : A) (S taken : List A) (R : A → Type 0) → clash share p taken ≡ true → Chosen (p ∷ S) taken R → Chosen S taken R
  unfolding Has
  passed_by p S taken R e c = record {
    offered = λ x r. ⊎_elim (λ (u : p ≡ x). absurd (both_ways (subst (λ (z : A). clash share z taken ≡ true) u e) (c.free x r))) (λ u. u) (c.offered x r);
    free = c.free;
    alone = c.alone;
    explained = λ x q. c.explained x (inr q);
  }

  -- the first that is offered, if it is free, is of the set, since nothing is earlier
  must_be : (p : A) (S taken : List A) (R : A → Type 0) → All (L p) S → clash share p taken ≡ false → Chosen (p ∷ S) taken R → R p
  unfolding Has
  must_be p S taken R before e c = of (c.explained p (inl refl))
    where
      none_earlier : (n : A) → Has n (p ∷ S) → E n p → ⊥
      none_earlier n (inl u) h = never p (subst (λ (z : A). E z p) (sym u) h)
      none_earlier n (inr u) h = against p n (has_all (L p) S before n u) h

      of : R p ⊎ ((clash share p taken ≡ true) ⊎ ((n : A) × R n × (share p n ≡ true) × E n p)) → R p
      of (inl r) = r
      of (inr (inl h)) = absurd (both_ways h e)
      of (inr (inr (n, r, h, k))) = absurd (none_earlier n (c.offered n r) k)

  -- what is left of the set once its first is taken
  abbrev Without : A → (A → Type 0) → A → Type 0
  Without p R x = R x × (share x p ≡ false)

  taken_first : (p : A) (S taken : List A) (R : A → Type 0) → R p → Chosen (p ∷ S) taken R → Chosen S (p ∷ taken) (Without p R)
  unfolding Has
  taken_first p S taken R first c = record {
    offered = λ x r. ⊎_elim (λ (u : p ≡ x). absurd (both_ways (subst (λ (z : A). share x z ≡ true) (sym u) (self x)) r.1)) (λ u. u) (c.offered x r.0);
    free = λ x r. clash_more share x p taken r.1 (c.free x r.0);
    alone = λ x y r q h. c.alone x y r.0 q.0 h;
    explained = λ x q. because x (c.explained x (inr q));
  }
    where
      Why : A → Type 0
      Why x = Without p R x ⊎ ((clash share x (p ∷ taken) ≡ true) ⊎ ((n : A) × Without p R n × (share x n ≡ true) × E n x))

      barred : (x : A) → share x p ≡ true → Why x
      barred x h = inr (inl (clash_first share x p taken h))

      because : (x : A) → R x ⊎ ((clash share x taken ≡ true) ⊎ ((n : A) × R n × (share x n ≡ true) × E n x)) → Why x
      because x (inl r) = either_way (share x p) (λ h. barred x h) (λ h. inl (r, h))
      because x (inr (inl h)) = inr (inl (clash_rest share x p taken h))
      because x (inr (inr (n, r, h, k))) =
          either_way (share n p)
          (λ e. barred x (subst (λ (z : A). share x z ≡ true) (c.alone n p r first e) h))
          (λ e. inr (inr (n, (r, e), h, k)))

  -- the set is what is taken
  pub chosen : (S taken : List A) (R : A → Type 0) → Chain L S → Chosen S taken R → (x : A) → (R x → Has x (picked share taken S)) × (Has x (picked share taken S) → R x)
  unfolding Chain Has picked
  chosen [] taken R h c x = (λ r. c.offered x r, λ q. absurd q)
  chosen (p ∷ S) taken R h c x =
      either_way (clash share p taken)
      (λ e. subst Same (sym (picked_clash share taken p S e)) (chosen S taken R h.1 (passed_by p S taken R e c) x))
      (λ e.
      let first = must_be p S taken R h.0 e c in
      let rest = chosen S (p ∷ taken) (Without p R) h.1 (taken_first p S taken R first c) x in
      subst Same (sym (picked_free share taken p S e)) (
        λ r. either_way (share x p) (λ k. inl (c.alone p x first r (turned x p r first k))) (λ k. inr (rest.0 (r, k))),
        λ q. ⊎_elim (λ (u : p ≡ x). subst R u first) (λ u. (rest.1 u).0) q,
      ))
    where
      Same : List A → Type 0
      Same l = (R x → Has x l) × (Has x l → R x)

      turned : (x y : A) → R x → R y → share x y ≡ true → share y x ≡ true
      turned x y r q k = subst (λ (z : A). share z x ≡ true) (c.alone x y r q k) (self x)

  -- ---- two lists of the same elements, each in order

  pub same_list : ((x y : A) → E x y → E y x → ⊥) → (l m : List A) → Chain E l → Chain E m → ((x : A) → Has x l → Has x m) → ((x : A) → Has x m → Has x l) → l ≡ m
  unfolding Chain Has
  same_list asym [] [] c d to back = refl
  same_list asym [] (y ∷ m) c d to back = absurd (back y (inl refl))
  same_list asym (x ∷ l) [] c d to back = absurd (to x (inl refl))
  same_list asym (x ∷ l) (y ∷ m) c d to back =
      ap₂ (λ (z : A) (r : List A). z ∷ r) first
      (same_list asym l m c.1 d.1
      (λ z q. later y x l m (sym first) c.0 z q (to z (inr q)))
      (λ z q. later x y m l first d.0 z q (back z (inr q))))
    where
      first : x ≡ y
      first =
          ⊎_elim (λ (u : y ≡ x). sym u)
          (λ (u : Has x m). ⊎_elim (λ (v : x ≡ y). v) (λ (v : Has y l). absurd (asym x y (has_all (E x) l c.0 y v) (has_all (E y) m d.0 x u))) (back y (inl refl)))
          (to x (inl refl))

      -- what follows one head is no head
      later : (a b : A) (r s : List A) → a ≡ b → All (E b) r → (z : A) → Has z r → Has z (a ∷ s) → Has z s
      later a b r s e h z q (inl u) = absurd (never z (subst (λ (w : A). E w z) (sym e ∙ u) (has_all (E b) r h z q)))
      later a b r s e h z q (inr u) = u
