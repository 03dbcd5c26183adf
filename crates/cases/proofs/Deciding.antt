-- That each test of a match list is true just where its property holds, so that the rows of `Lists.antt` tell of the properties. Assumes nothing.
use Rattle.std.proofs.Common.{◌≡◌, ℕ, zero, suc, ◌/◌, ◌<◌, Bool, true, false, not, ◌||◌, ◌⊎◌, List, [], ◌∷◌, length, sym, refl, ap, subst, inl, inr, arith}
use Rattle.std.specs.Bool.{Decides}
use Rattle.std.specs.Float.Ieee.{lt, eq, le}
use Rattle.std.proofs.lemmas.Bool.{false≢true}
use Rattle.std.proofs.lemmas.Bool.Decides.{not_from_Decides, Decides-like, Decides-not, Decides-and, Decides-or, Decides-eqb, Decides-ltb, Decides-below_and}
use Rattle.pairs.specs.Pairs.{spots_within}
use Rattle.matching.specs.Greedy.{Match}
use Rattle.matching.specs.Meaning.{Frame, At, Taken, Share, apart, Near, Earlier, Once, Explained}
use Rattle.matching.proofs.Sharing.{turned_round}
use Rattle.cases.specs.Deciding.{any_of, all_of, below, stepwise, same, shares, used_once, is_near, is_earlier, accounted, verdict, VerdictsDecide}

-- ---- tests in general

-- Where a property is itself that a test is true.
itself : (b : Bool) → Decides b (b ≡ true)
itself b = (λ h. h, λ h. h)

-- "Not the first, or the second" says that the first gives the second.
implied : {P Q : Type 0} (a b : Bool) → Decides a P → Decides b Q → Decides (not a || b) (P → Q)
implied true b u v = (λ h p. v.0 h, λ h. v.1 (h (u.0 refl)))
implied false b u v = (λ h p. absurd (not_from_Decides false u refl p), λ h. refl)

below_says : (n : ℕ) {t : ℕ → Bool} {P : ℕ → Type 0} → ((k : ℕ) → Decides (t k) (P k)) → Decides (below n t) ((k : ℕ) → k < n → P k)
unfolding below
below_says n {t} {P} each = Decides-below_and t P (λ k. below k t) each refl (λ k. refl) n

-- ---- tests along a list

-- P holds of some pair of a list, of each pair, of each pair and the next.
abbrev Somewhere : (Match → Type 0) → List Match → Type 0
Somewhere P ms = (i : ℕ) × (m : Match) × At ms i m × P m

abbrev Everywhere : (Match → Type 0) → List Match → Type 0
Everywhere P ms = (i : ℕ) (m : Match) → At ms i m → P m

abbrev Onwards : (Match → Match → Type 0) → List Match → Type 0
Onwards P ms = (i : ℕ) (m n : Match) → At ms i m → At ms (suc i) n → P m n

module _ {t : Match → Bool} {P : Match → Type 0} (each : (m : Match) → Decides (t m) (P m)) where
  any_says : (ms : List Match) → Decides (any_of t ms) (Somewhere P ms)
  unfolding any_of At
  any_says [] = (λ h. absurd (false≢true h), λ s. absurd s.2)
  any_says (x ∷ ms) = Decides-like _ found there (Decides-or _ _ (each x) (any_says ms))
    where
      found : P x ⊎ Somewhere P ms → Somewhere P (x ∷ ms)
      found (inl p) = (zero, x, refl, p)
      found (inr (i, m, a, p)) = (suc i, m, a, p)

      there : Somewhere P (x ∷ ms) → P x ⊎ Somewhere P ms
      there (zero, m, e, p) = inl (subst P (sym e) p)
      there (suc i, m, a, p) = inr (i, m, a, p)

  all_says : (ms : List Match) → Decides (all_of t ms) (Everywhere P ms)
  unfolding all_of At
  all_says [] = (λ h i m a. absurd a, λ h. refl)
  all_says (x ∷ ms) = Decides-like _ every (λ h. (h zero x refl, λ i. h (suc i))) (Decides-and _ _ (each x) (all_says ms))
    where
      every : P x × Everywhere P ms → Everywhere P (x ∷ ms)
      every h zero m e = subst P e h.0
      every h (suc i) m a = h.1 i m a

module _ {t : Match → Match → Bool} {P : Match → Match → Type 0} (each : (m n : Match) → Decides (t m n) (P m n)) where
  steps_say : (ms : List Match) → Decides (stepwise t ms) (Onwards P ms)
  unfolding stepwise At
  steps_say [] = (λ h i m n a b. absurd a, λ h. refl)
  steps_say (x ∷ []) = (λ h i m n a b. absurd b, λ h. refl)
  steps_say (x ∷ y ∷ ms) = Decides-like _ every (λ h. (h zero x y refl refl, λ i. h (suc i))) (Decides-and _ _ (each x y) (steps_say (y ∷ ms)))
    where
      every : P x y × Onwards P (y ∷ ms) → Onwards P (x ∷ y ∷ ms)
      every h zero m n d e = subst (P m) e (subst (λ k. P k y) d h.0)
      every h (suc i) m n a b = h.1 i m n a b

-- ---- tests of two pairs

same_says : (m n : Match) → Decides (same m n) (m ≡ n)
unfolding same
same_says m n =
    Decides-like _ (λ e i. record { spot = e.0 i; prediction = e.1 i }) (λ e. (ap (λ k. k.spot) e, ap (λ k. k.prediction) e))
    (Decides-and _ _ (Decides-eqb m.spot n.spot) (Decides-eqb m.prediction n.prediction))

shares_says : (m n : Match) → Decides (shares m n) (Share m n)
unfolding shares
shares_says m n = Decides-or _ _ (Decides-eqb m.spot n.spot) (Decides-eqb m.prediction n.prediction)

module _ (f : Frame) where
  near_says : (m : Match) → Decides (is_near f m) (Near f m)
  unfolding is_near
  near_says m =
      Decides-like _ (λ h. record { spot = h.0.0; prediction = h.0.1; distance = h.1 }) (λ h. ((h.spot, h.prediction), h.distance))
      (Decides-and _ _
      (Decides-and _ _ (Decides-ltb m.spot (spots_within f.points f.limit)) (Decides-ltb m.prediction (length f.predicted / 2)))
      (itself (le (apart f m) f.radius_sq)))

  earlier_says : (m n : Match) → Decides (is_earlier f m n) (Earlier f m n)
  unfolding is_earlier
  earlier_says m n =
      Decides-or _ _ (itself (lt (apart f m) (apart f n)))
      (Decides-and _ _ (itself (eq (apart f m) (apart f n)))
      (Decides-or _ _ (Decides-ltb m.spot n.spot)
      (Decides-and _ _ (Decides-eqb m.spot n.spot) (Decides-ltb m.prediction n.prediction))))

  -- ---- the properties

  -- No later pair shares something with the first, and the later ones are used once.
  once_says : (ms : List Match) → Decides (used_once ms) (Once f ms)
  unfolding used_once At
  once_says [] = (λ h i j m n a. absurd a, λ h. refl)
  once_says (x ∷ ms) =
      Decides-like _ every
      (λ h. (λ (j, n, b, s). omega (arith, h zero (suc j) x n refl b s), λ i j m n a b s. omega (arith, h (suc i) (suc j) m n a b s)))
      (Decides-and _ _ (Decides-not _ (any_says (shares_says x) ms)) (once_says ms))
    where
      every : (¬ Somewhere (Share x) ms) × Once f ms → Once f (x ∷ ms)
      every h zero zero m n d e s = refl
      every h zero (suc j) m n d b s = absurd (h.0 (j, n, b, subst (λ k. Share k n) (sym d) s))
      every h (suc i) zero m n a e s = absurd (h.0 (i, m, a, turned_round m x (subst (Share m) (sym e) s)))
      every h (suc i) (suc j) m n a b s = ap suc (h.1 i j m n a b s)

  accounted_says : (ms : List Match) (m : Match) → Decides (accounted f ms m)
      (Near f m → Taken ms m ⊎ ((n : Match) × Taken ms n × Share m n × Earlier f n m))
  unfolding accounted
  accounted_says ms m =
      implied _ _ (near_says m)
      (Decides-or _ _
      (Decides-like _ (λ (i, n, a, e). (i, subst (At ms i) (sym e) a)) (λ (i, a). (i, m, a, refl)) (any_says (same_says m) ms))
      (Decides-like _ (λ (i, n, a, s). (n, (i, a), s.0, s.1)) (λ (n, (i, a), s, e). (i, n, a, (s, e)))
      (any_says (λ n. Decides-and _ _ (shares_says m n) (earlier_says n m)) ms)))

  -- A pair within the radius is of a spot and a prediction that the test goes through.
  explained_says : (ms : List Match) → Decides (verdict f ms).explained (Explained f ms)
  unfolding verdict
  explained_says ms =
      Decides-like _ (λ h m n. h m.spot n.spot m.prediction n.prediction n) (λ h i u j v. h (record { spot = i; prediction = j }))
      (below_says (spots_within f.points f.limit)
      (λ i. below_says (length f.predicted / 2) (λ j. accounted_says ms (record { spot = i; prediction = j }))))

pub verdicts_decide : VerdictsDecide
unfolding verdict
verdicts_decide f ms = record {
  once = once_says f ms;
  near = all_says (near_says f) ms;
  rising = steps_say (λ m n. itself (le (apart f m) (apart f n))) ms;
  explained = explained_says f ms;
  ordered = steps_say (earlier_says f) ms;
}
