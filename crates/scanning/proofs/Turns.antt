-- Turn by turn: the closest free pair is the first of all free pairs, so what is scanned in enough turns is what is assigned of the pairs in order.
-- Assumes nothing.
use Rattle.std.proofs.Common.{◌≡◌, ℕ, zero, suc, ◌≤◌, Bool, true, false, cond, List, [], ◌∷◌, length, Option, Some, None, MatchOption, inl, inr, refl, sym, ap, subst, ◌∙◌, arith}
use Rattle.pairs.specs.Pairs.{Pair, pairs}
use Rattle.pairs.specs.Elements.{All}
use Rattle.matching.specs.Merge.{not_after}
use Rattle.matching.specs.Greedy.{Match, clashes, assigned}
use Rattle.matching.specs.Meaning.{Frame, Near}
use Rattle.matching.specs.Ordered.{Total}
use Rattle.scanning.specs.Scanning.{closer, closest, taking, scanned}
use Rattle.lists.proofs.Cases.{either}
use Rattle.pairs.proofs.Elements.{all_head, all_tail}
use Rattle.pairs.proofs.Rearranged.{candidates}
use Rattle.matching.proofs.Members.{Has, has_all}
use Rattle.matching.proofs.Merging.{turned, counted_merged}
use Rattle.matching.proofs.Unique.{self, same_length}
use Rattle.matching.proofs.Theorems.{candidates_total}
use Rattle.matching.proofs.Picking.{both_ways, either_way}
use Rattle.matching.proofs.Sharing.{match_of, clashes_clash}
use Rattle.matching.proofs.Nearness.{count, pair_of, in_order, Good, from_has, good_near}
use Rattle.matching.proofs.Precedence.{good_pair}
use Rattle.scanning.proofs.Closest.{FirstFree, begins, ended}

-- ---- the closest free pair

-- what holds of the first and of all that follow
of_more : {A : Type 0} (Q : A → Type 0) (x : A) (l : List A) → Q x → ((y : A) → Has y l → Q y) → (y : A) → Has y (x ∷ l) → Q y
unfolding Has
of_more Q x l h k y (inl e) = subst Q e h
of_more Q x l h k y (inr q) = k y q

module _ (taken : List Match) where
  -- the second pair does not stand before the first, if it is free
  abbrev pub Since : Pair → Pair → Type 0
  Since q p = clashes p taken ≡ false → not_after q p ≡ true

  -- the first of the free pairs of a list
  pub record First (ps : List Pair) (q : Pair) : Type 0 where
    pub there : Has q ps
    pub free : clashes q taken ≡ false
    pub first : (p : Pair) → Has p ps → Since q p

  abbrev pub Closest : List Pair → Option Pair → Type 0
  Closest ps r = MatchOption r ((p : Pair) → Has p ps → clashes p taken ≡ true) (First ps)

  passed : (p : Pair) (ps : List Pair) (r : Option Pair) → clashes p taken ≡ true → Closest ps r → Closest (p ∷ ps) r
  unfolding Has
  passed p ps None e n = of_more (λ z. clashes z taken ≡ true) p ps e n
  passed p ps (Some q) e f = record { there = inr f.there; free = f.free; first = of_more (Since q) p ps (λ k. absurd (both_ways e k)) f.first }

  module _ (P : Pair → Type 0) (total : Total not_after P) where
    nearer : (p : Pair) (ps : List Pair) (r : Option Pair) → P p → All P ps → clashes p taken ≡ false → Closest ps r → Closest (p ∷ ps) (closer p r)
    unfolding Has closer
    nearer p ps None g a e n =
        record { there = inl refl; free = e; first = of_more (Since p) p ps (λ k. self not_after P total p g) (λ x u k. absurd (both_ways (n x u) k)) }
    nearer p ps (Some q) g a e f = by (not_after p q) refl
      where
        good : P q
        good = has_all P ps a q f.there

        by : (b : Bool) → not_after p q ≡ b → Closest (p ∷ ps) (cond b (Some p) (Some q))
        by true o = record {
          there = inl refl;
          free = e;
          first = of_more (Since p) p ps (λ k. self not_after P total p g) (λ x u k. total.through p q x g good (has_all P ps a x u) o (f.first x u k));
        }
        by false o = record { there = inr f.there; free = f.free; first = of_more (Since q) p ps (λ k. turned not_after P total p q g good o) f.first }

    pub found : (ps : List Pair) → All P ps → Closest ps (closest taken ps)
    unfolding closest Has
    found [] a = λ p h. absurd h
    found (p ∷ ps) a =
        either_way (clashes p taken)
        (λ e. rw e (passed p ps (closest taken ps) e (found ps (all_tail P a))))
        (λ e. rw e (nearer p ps (closest taken ps) (all_head P a) (all_tail P a) e (found ps (all_tail P a))))

-- ---- the turns

-- at most one match for each pair
assigned_most : (ps : List Pair) (taken : List Match) → length (assigned taken ps) ≤ length ps
unfolding assigned match_of
assigned_most [] taken = omega arith
assigned_most (p ∷ ps) taken =
    either (λ (l : List Match). length l ≤ suc (length ps)) (clashes p taken) (omega (arith, assigned_most ps taken)) (omega (arith, assigned_most ps (match_of p ∷ taken)))

none_left : (l : List Match) → length l ≤ 0 → [] ≡ l
none_left [] h = refl
none_left (m ∷ l) h = absurd (omega arith)

module _ (f : Frame) where
  abbrev all : List Pair
  all = pairs f.points f.limit f.predicted f.radius_sq

  good : All (Good f) all
  unfolding pairs
  good = candidates (count f) f.points f.predicted f.radius_sq

  near_has : (m : Match) → Near f m → Has (pair_of f m) all
  unfolding pairs
  near_has m h = from_has f m h.distance h.prediction 0 (count f) (omega arith) (omega (arith, h.spot))

  module _ (taken : List Match) where
    free_first : (p : Pair) → First taken all p → FirstFree f taken (match_of p)
    unfolding match_of
    free_first p h = record {
      near = good_near f p g;
      free = sym (clashes_clash p taken) ∙ h.free;
      first = λ n near free.
          subst (λ (z : Pair). not_after z (pair_of f n) ≡ true) (good_pair f p g)
          (h.first (pair_of f n) (near_has n near) (clashes_clash (pair_of f n) taken ∙ free));
    }
      where
        g : Good f p
        g = has_all (Good f) all good p h.there

    turn : (k : ℕ) (r : Option Pair) → Closest taken all r
        → length (assigned taken (in_order f)) ≤ suc k
        → ((m : Match) → length (assigned (m ∷ taken) (in_order f)) ≤ k → scanned k (m ∷ taken) all ≡ assigned (m ∷ taken) (in_order f))
        → taking r (λ m. scanned k (m ∷ taken) all) ≡ assigned taken (in_order f)
    unfolding taking match_of
    turn k None n h next = sym (ended f taken (λ m near. sym (clashes_clash (pair_of f m) taken) ∙ n (pair_of f m) (near_has m near)))
    turn k (Some p) q h next =
        let b = begins f taken (match_of p) (free_first p q) in
        ap (λ (l : List Match). match_of p ∷ l) (next (match_of p) (omega (arith, ap length b))) ∙ sym b

  pub turns : (k : ℕ) (taken : List Match) → length (assigned taken (in_order f)) ≤ k → scanned k taken all ≡ assigned taken (in_order f)
  unfolding scanned
  turns zero taken h = none_left (assigned taken (in_order f)) h
  turns (suc k) taken h =
      turn taken k (closest taken all) (found taken (Good f) (candidates_total (count f) f.points f.predicted f.radius_sq) all good) h (λ m. turns k (m ∷ taken))

  -- as many turns as there are pairs are enough
  pub enough : (k : ℕ) → length all ≤ k → length (assigned [] (in_order f)) ≤ k
  enough k h = omega (arith, assigned_most (in_order f) [], same_length (in_order f) all (λ t. counted_merged not_after t all))
