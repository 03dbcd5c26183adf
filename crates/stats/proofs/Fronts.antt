-- A loop that changes a list from the front: after i turns its first i elements are through f. Assumes nothing.
use mathlib.Core.Path.{◌≡◌, refl, ap, ◌∙◌}
use mathlib.Core.List.{List, [], ◌∷◌, map}
use Prim.Native.Nat.{ℕ, zero, suc, ◌+◌, ◌≤◌, ◌<◌}
use native.Mathlib.Numerals.{add-one}
use native.Mathlib.Omega.{arith}
use lib.ListN.{length, get_or, set, length-set}

module _ {A : Type 0} (f : A → A) where
  unfoldable pub front : ℕ → List A → List A
  front zero l = l
  front (suc i) [] = []
  front (suc i) (x ∷ l) = f x ∷ front i l

  -- the element at i is still as it was
  front_at : (i : ℕ) (l : List A) (d : A) → get_or (front i l) i d ≡ get_or l i d
  unfolding front
  front_at zero l d = refl
  front_at (suc i) [] d = refl
  front_at (suc i) (x ∷ l) d = front_at i l d

  front_suc : (i : ℕ) (l : List A) (d : A) → i < length l → set (front i l) i (f (get_or l i d)) ≡ front (suc i) l
  unfolding front
  front_suc i [] d h = absurd (omega arith)
  front_suc zero (x ∷ l) d h = refl
  front_suc (suc i) (x ∷ l) d h = ap (λ (r : List A). f x ∷ r) (front_suc i l d (omega arith))

  front_all : (i : ℕ) (l : List A) → length l ≤ i → front i l ≡ map f l
  unfolding front
  front_all zero [] h = refl
  front_all zero (x ∷ l) h = absurd (omega arith)
  front_all (suc i) [] h = refl
  front_all (suc i) (x ∷ l) h = ap (λ (r : List A). f x ∷ r) (front_all i l (omega arith))

  pub record Fronted (d l : List A) (i : ℕ) : Type 0 where
    pub within : i ≤ length d
    pub long : length l ≡ length d
    pub is : l ≡ front i d

  pub fronted_none : (d : List A) → Fronted d d 0
  unfolding front
  fronted_none d = record { within = omega arith; long = refl; is = refl }

  pub fronted_more : (d l : List A) (i : ℕ) (z a : A) → Fronted d l i → i < length l → a ≡ f (get_or l i z) → Fronted d (set l i a) (i + 1)
  fronted_more d l i z a F h e =
      let long = F.long in
      let there : get_or l i z ≡ get_or d i z = ap (λ (m : List A). get_or m i z) F.is ∙ front_at i d z in
      record {
        within = omega arith;
        long = length-set l i a ∙ long;
        is = rw (e, there, F.is, add-one) (front_suc i d z (omega arith));
      }

  pub fronted_all : (d l : List A) (i : ℕ) → Fronted d l i → length l ≤ i → l ≡ map f d
  fronted_all d l i F h = F.is ∙ front_all i d (omega (arith, F.long))
