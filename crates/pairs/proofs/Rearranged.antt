-- Looking only at the strips near a prediction finds the pairs that trying all of them finds, in another order. A test is counted over both as a sum
-- over spots and predictions. Assumes nothing.
use Rattle.std.proofs.Common.{◌≡◌, ℕ, zero, suc, ◌+◌, ◌-◌, ◌/◌, ◌<◌, ◌≤◌, Bool, true, false, cond, eqb, List, [], ◌∷◌, length, sym, refl, ap, ◌∙◌, ap₂, zero-add, arith, eqb-true}
use mathlib.Core.Path.{fun_ext}
use borrow.Author.Tests.{eqb-false}
use lib.Ieee.{Float, le}
use Rattle.pairs.specs.Pairs.{Pair, point_at, squared, within, pairs_of, pairs_from}
use Rattle.pairs.specs.Elements.{All, none, more, counted}
use Rattle.pairs.specs.Candidates.{pair}
use Rattle.pairs.specs.Strips.{strip_of, first_strip, last_strip, in_strip, pairs_along, pairs_across, pairs_near, pairs_by_strips}
use Rattle.pairs.specs.Strips.{Laid, Candidate, Rearranged}
use Rattle.pairs.specs.declared.strips.Strips.{Strips}
use Rattle.pairs.proofs.Covered.{covered}
use Rattle.lists.proofs.Cases.{either}
use Rattle.pairs.proofs.Elements.{all_append, counted_append, counted_cons}

-- ---- sums

-- f i + f (i + 1) + .., k summands
sum : (ℕ → ℕ) → ℕ → ℕ → ℕ
sum f i zero = 0
sum f i (suc k) = f i + sum f (suc i) k

sum_zero : (i k : ℕ) → sum (λ _. 0) i k ≡ 0
unfolding sum
sum_zero i zero = refl
sum_zero i (suc k) = omega (arith, sum_zero (suc i) k)

sum_add : (f g : ℕ → ℕ) (i k : ℕ) → sum (λ a. f a + g a) i k ≡ sum f i k + sum g i k
unfolding sum
sum_add f g i zero = omega arith
sum_add f g i (suc k) = omega (arith, sum_add f g (suc i) k)

sum_last : (f : ℕ → ℕ) (i k : ℕ) → sum f i (suc k) ≡ sum f i k + f (i + k)
unfolding sum
sum_last f i zero = let e : i + 0 ≡ i = omega arith in omega (arith, ap f e)
sum_last f i (suc k) = let e : suc i + k ≡ i + suc k = omega arith in omega (arith, ap f e, sum_last f (suc i) k)

sum_same : (f g : ℕ → ℕ) → ((a : ℕ) → f a ≡ g a) → (i k : ℕ) → sum f i k ≡ sum g i k
sum_same f g h i k = ap (λ (u : ℕ → ℕ). sum u i k) (fun_ext h)

sum_exchanged : (f : ℕ → ℕ → ℕ) (i k j l : ℕ) → sum (λ a. sum (f a) j l) i k ≡ sum (λ b. sum (λ a. f a b) i k) j l
unfolding sum
sum_exchanged f i zero j l = sym (sum_zero j l)
sum_exchanged f i (suc k) j l =
    omega (arith, sum_exchanged f (suc i) k j l, sum_add (f i) (λ b. sum (λ a. f a b) (suc i) k) j l)

-- the summand of one place, where that place is u
abbrev only : ℕ → ℕ → ℕ → ℕ
only u v s = cond (eqb u s) v 0

only_other : (u v s : ℕ) → (u ≡ s → ⊥) → only u v s ≡ 0
only_other u v s h = by (eqb u s) refl
  where
    by : (b : Bool) → eqb u s ≡ b → cond b v 0 ≡ 0
    by true e = absurd (h (eqb-true u s e))
    by false e = refl

only_nothing : (u s : ℕ) → only u 0 s ≡ 0
only_nothing u s = either (λ (m : ℕ). m ≡ 0) (eqb u s) refl refl

sum_nothing : (u s k : ℕ) → sum (only u 0) s k ≡ 0
sum_nothing u s k = sum_same (only u 0) (λ _. 0) (only_nothing u) s k ∙ sum_zero s k

sum_outside : (u v s k : ℕ) → u < s → sum (only u v) s k ≡ 0
unfolding sum
sum_outside u v s zero h = refl
sum_outside u v s (suc k) h = omega (arith, only_other u v s (λ e. omega arith), sum_outside u v (suc s) k (omega arith))

sum_picked : (u v s k : ℕ) → s ≤ u → u < s + k → sum (only u v) s k ≡ v
unfolding sum
sum_picked u v s zero h g = absurd (omega arith)
sum_picked u v s (suc k) h g = by (eqb u s) refl (sum_picked u v (suc s) k)
  where
    by : (b : Bool) → eqb u s ≡ b → (suc s ≤ u → u < suc s + k → sum (only u v) (suc s) k ≡ v) → cond b v 0 + sum (only u v) (suc s) k ≡ v
    by true e rest = let q = eqb-true u s e in omega (arith, sum_outside u v (suc s) k (omega arith))
    by false e rest = let q = eqb-false u s e in omega (arith, rest (omega arith) (omega arith))

-- ---- how often a test holds

-- spot i with prediction j
abbrev pair_at : List Float → List Float → ℕ → ℕ → Pair
pair_at points predicted i j = pair (squared (point_at points i) (point_at predicted j)) i j

-- one pair counts once or not at all
hit : (Pair → Bool) → Float → Pair → ℕ
hit t r2 p = counted t (within r2 p [])

module _ (t : Pair → Bool) (r2 : Float) where
  counted_within : (p : Pair) (ps : List Pair) → counted t (within r2 p ps) ≡ hit t r2 p + counted t ps
  unfolding hit within
  counted_within p ps = by (le p.d2 r2)
    where
      by : (b : Bool) → counted t (cond b (p ∷ ps) ps) ≡ counted t (cond b (p ∷ []) []) + counted t ps
      by true = counted_cons t p ps
      by false = unfold counted in omega arith

  -- the pairs of spot i and of prediction j
  module _ (points predicted : List Float) where
    at : ℕ → ℕ → ℕ
    at i j = hit t r2 (pair_at points predicted i j)

    far_away : (i j : ℕ) → le (squared (point_at points i) (point_at predicted j)) r2 ≡ false → at i j ≡ 0
    unfolding at hit within counted
    far_away i j h = rw h

    counted_of : (i j k : ℕ) → counted t (pairs_of r2 predicted i (point_at points i) j k) ≡ sum (at i) j k
    unfolding pairs_of counted sum at
    counted_of i j zero = refl
    counted_of i j (suc k) = counted_within _ _ ∙ ap (λ (m : ℕ). at i j + m) (counted_of i (suc j) k)

    counted_from : (i k : ℕ) → counted t (pairs_from r2 points predicted i k) ≡ sum (λ a. sum (at a) 0 (length predicted / 2)) i k
    unfolding pairs_from counted sum
    counted_from i zero = refl
    counted_from i (suc k) =
        omega (
          arith,
          counted_append t (pairs_of r2 predicted i (point_at points i) 0 (length predicted / 2)) (pairs_from r2 points predicted (suc i) k),
          counted_of i 0 (length predicted / 2),
          counted_from (suc i) k,
        )

    module _ (g : Strips) where
      abbrev strip : ℕ → ℕ
      strip i = strip_of g (point_at points i).x

      -- the spots of one strip: every spot is asked whether it lies there
      counted_along : (j s n : ℕ) → counted t (pairs_along r2 points j (point_at predicted j) (in_strip g points s n)) ≡ sum (λ i. only (strip i) (at i j) s) 0 n
      unfolding in_strip pairs_along counted
      counted_along j s zero = unfold sum in refl
      counted_along j s (suc n) =
          by (eqb (strip n) s) (counted_along j s n) ∙ ap (λ (m : ℕ). sum (λ i. only (strip i) (at i j) s) 0 n + only (strip m) (at m j) s) (sym (zero-add n))
          ∙ sym (sum_last (λ i. only (strip i) (at i j) s) 0 n)
        where
          by : (b : Bool) → counted t (pairs_along r2 points j (point_at predicted j) (in_strip g points s n)) ≡ sum (λ i. only (strip i) (at i j) s) 0 n
              → counted t (pairs_along r2 points j (point_at predicted j) (cond b (n ∷ in_strip g points s n) (in_strip g points s n)))
              ≡ sum (λ i. only (strip i) (at i j) s) 0 n + cond b (at n j) 0
          by true rest =
              unfold at in
              omega (arith, counted_within (pair_at points predicted n j) (pairs_along r2 points j (point_at predicted j) (in_strip g points s n)))
          by false rest = omega arith

      counted_across : (j n s k : ℕ)
          → counted t (pairs_across g r2 points n j (point_at predicted j) s k) ≡ sum (λ b. sum (λ i. only (strip i) (at i j) b) 0 n) s k
      unfolding pairs_across counted sum
      counted_across j n s zero = refl
      counted_across j n s (suc k) =
          counted_append t (pairs_along r2 points j (point_at predicted j) (in_strip g points s n)) (pairs_across g r2 points n j (point_at predicted j) (suc s) k)
          ∙ ap₂ ◌+◌ (counted_along j s n) (counted_across j n (suc s) k)

      -- a sum over the strips that can hold a spot near prediction j
      abbrev near_sum : (ℕ → ℕ) → ℕ → ℕ
      near_sum f j =
          sum f (first_strip g r2 (point_at predicted j).x) (suc (last_strip g r2 (point_at predicted j).x) - first_strip g r2 (point_at predicted j).x)

      module _ (n : ℕ) (laid : Laid n g) where
        -- a spot counts in its own strip, which is looked at wherever the spot counts at all
        counted_once : (i j : ℕ) → near_sum (only (strip i) (at i j)) j ≡ at i j
        counted_once i j = by (le (squared (point_at points i) (point_at predicted j)) r2) refl
          where
            by : (b : Bool) → le (squared (point_at points i) (point_at predicted j)) r2 ≡ b → near_sum (only (strip i) (at i j)) j ≡ at i j
            by true e =
                let h = covered n g laid r2 (point_at points i) (point_at predicted j) e in
                sum_picked (strip i) (at i j) _ _ h.0 (omega arith)
            by false e = rw (far_away i j e) (sum_nothing (strip i) _ _)

        counted_near : (j : ℕ) → counted t (pairs_near g r2 points n j (point_at predicted j)) ≡ sum (λ i. at i j) 0 n
        counted_near j =
            counted_across j n _ _ ∙ sum_exchanged (λ b i. only (strip i) (at i j) b) _ _ 0 n
            ∙ sum_same _ (λ i. at i j) (λ i. counted_once i j) 0 n

        counted_by_strips : (j k : ℕ) → counted t (pairs_by_strips g r2 points predicted n j k) ≡ sum (λ b. sum (λ i. at i b) 0 n) j k
        unfolding pairs_by_strips counted sum
        counted_by_strips j zero = refl
        counted_by_strips j (suc k) =
            counted_append t (pairs_near g r2 points n j (point_at predicted j)) (pairs_by_strips g r2 points predicted n (suc j) k)
            ∙ ap₂ ◌+◌ (counted_near j) (counted_by_strips (suc j) k)

pub rearranged : Rearranged
rearranged n g laid r2 points predicted = λ t.
    counted_by_strips t r2 points predicted g n laid 0 (length predicted / 2)
    ∙ sym (sum_exchanged (at t r2 points predicted) 0 n 0 (length predicted / 2)) ∙ sym (counted_from t r2 points predicted 0 n)

-- ---- every pair that is found is a candidate

within_near : (P : Pair → Type 0) (r2 : Float) (p : Pair) (ps : List Pair) → (le p.d2 r2 ≡ true → P p) → All P ps → All P (within r2 p ps)
unfolding within
within_near P r2 p ps h g = by (le p.d2 r2) refl
  where
    by : (b : Bool) → le p.d2 r2 ≡ b → All P (cond b (p ∷ ps) ps)
    by true e = more p ps (h e) g
    by false e = g

module _ (n : ℕ) (points predicted : List Float) (r2 : Float) where
  abbrev Good : Pair → Type 0
  Good = Candidate n points predicted r2

  pair_good : (i j : ℕ) → i < n → j < length predicted / 2 → le (pair_at points predicted i j).d2 r2 ≡ true → Good (pair_at points predicted i j)
  pair_good i j h q e = record { spot = h; prediction = q; distance = refl; near = e }

  of_good : (i j k : ℕ) → i < n → j + k ≤ length predicted / 2 → All Good (pairs_of r2 predicted i (point_at points i) j k)
  unfolding pairs_of
  of_good i j zero h q = none
  of_good i j (suc k) h q =
      within_near Good r2 (pair_at points predicted i j) (pairs_of r2 predicted i (point_at points i) (suc j) k)
      (pair_good i j h (omega arith)) (of_good i (suc j) k h (omega arith))

  pub candidates_from : (i k : ℕ) → i + k ≤ n → All Good (pairs_from r2 points predicted i k)
  unfolding pairs_from
  candidates_from i zero h = none
  candidates_from i (suc k) h =
      all_append Good (pairs_of r2 predicted i (point_at points i) 0 (length predicted / 2)) (pairs_from r2 points predicted (suc i) k)
      (of_good i 0 (length predicted / 2) (omega arith) (omega arith)) (candidates_from (suc i) k (omega arith))

  pub candidates : All Good (pairs_from r2 points predicted 0 n)
  candidates = candidates_from 0 n (omega arith)

  module _ (g : Strips) where
    -- the spots of a strip, out of the first m
    strip_good : (j s m : ℕ) → m ≤ n → j < length predicted / 2 → All Good (pairs_along r2 points j (point_at predicted j) (in_strip g points s m))
    unfolding in_strip pairs_along
    strip_good j s zero h q = none
    strip_good j s (suc m) h q = by (eqb (strip_of g (point_at points m).x) s) (strip_good j s m (omega arith) q)
      where
        by : (b : Bool) → All Good (pairs_along r2 points j (point_at predicted j) (in_strip g points s m))
            → All Good (pairs_along r2 points j (point_at predicted j) (cond b (m ∷ in_strip g points s m) (in_strip g points s m)))
        by true rest =
            within_near Good r2 (pair_at points predicted m j) (pairs_along r2 points j (point_at predicted j) (in_strip g points s m)) (pair_good m j h q) rest
        by false rest = rest

    across_good : (j s k : ℕ) → j < length predicted / 2 → All Good (pairs_across g r2 points n j (point_at predicted j) s k)
    unfolding pairs_across
    across_good j s zero q = none
    across_good j s (suc k) q =
        all_append Good (pairs_along r2 points j (point_at predicted j) (in_strip g points s n)) (pairs_across g r2 points n j (point_at predicted j) (suc s) k)
        (strip_good j s n (omega arith) q) (across_good j (suc s) k q)

    near_good : (j : ℕ) → j < length predicted / 2 → All Good (pairs_near g r2 points n j (point_at predicted j))
    near_good j q = across_good j _ _ q

    by_strips_good : (j k : ℕ) → j + k ≤ length predicted / 2 → All Good (pairs_by_strips g r2 points predicted n j k)
    unfolding pairs_by_strips
    by_strips_good j zero h = none
    by_strips_good j (suc k) h =
        all_append Good (pairs_near g r2 points n j (point_at predicted j)) (pairs_by_strips g r2 points predicted n (suc j) k)
        (near_good j (omega arith)) (by_strips_good (suc j) k (omega arith))

    pub made : All (Candidate n points predicted r2) (pairs_by_strips g r2 points predicted n 0 (length predicted / 2))
    made = by_strips_good 0 (length predicted / 2) (omega arith)
