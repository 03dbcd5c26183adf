-- A list whose front was cleared: where the front ends inside the list, where it is the whole list, and how a loop over the places clears it. Assumes nothing.
use mathlib.Core.Path.{◌≡◌, ap, ◌∙◌}
use mathlib.Core.List.{List, [], ◌∷◌, ◌++◌, append-nil}
use Prim.Native.Nat.{ℕ, zero, suc, ◌≤◌, min}
use native.Mathlib.Omega.{arith}
use lib.ListN.{length, take, drop, replicate, length-take}
use lib.Seq.{drop-length}
use Rattle.lists.specs.Cleared.{cleared}

module _ {A : Type 0} (z : A) where
  pub cleared_within : (n : ℕ) (l : List A) → n ≤ length l → cleared z n l ≡ replicate n z ++ drop n l
  unfolding cleared
  cleared_within n l h = let e : min n (length l) ≡ n = omega arith in rw e

  pub cleared_whole : (n : ℕ) (l : List A) → n ≡ length l → cleared z n l ≡ replicate (length l) z
  cleared_whole n l e =
      rw e (cleared_within (length l) l (omega arith) ∙ ap (λ (r : List A). replicate (length l) z ++ r) (drop-length l) ∙ append-nil (replicate (length l) z))

  -- nothing lies behind a front that is longer than the list
  drop_min : (n : ℕ) (l : List A) → drop (min n (length l)) l ≡ drop n l
  drop_min zero l = let e : min 0 (length l) ≡ 0 = omega arith in rw e
  drop_min (suc n) [] = let e : min (suc n) 0 ≡ 0 = omega arith in rw e
  drop_min (suc n) (x ∷ l) = let e : min (suc n) (suc (length l)) ≡ suc (min n (length l)) = omega arith in rw e (drop_min n l)

  -- a loop has passed the m places to clear, which are all of the front
  pub all_cleared : (n m i : ℕ) (l s : List A) → m ≡ min n (length l) → length (take m l) ≤ i → i ≤ length (take m l) → s ≡ replicate i z ++ drop i (take m l) → s ++ drop m l ≡ cleared z n l
  unfolding cleared
  all_cleared n m i l s e h k did =
      let all : i ≡ length (take m l) = omega arith in
      let len : length (take m l) ≡ m = omega (arith, length-take m l) in
      let front : s ≡ replicate m z = did ∙ rw all (ap (λ (r : List A). replicate (length (take m l)) z ++ r) (drop-length (take m l)) ∙ append-nil (replicate (length (take m l)) z) ∙ ap (λ (j : ℕ). replicate j z) len) in
      rw (front, e) (ap (λ (r : List A). replicate (min n (length l)) z ++ r) (drop_min n l))
