-- What a list's front and back are after stores: a front that is filled, one that grows, and what lies behind both. Assumes nothing.
use mathlib.Core.Path.{◌≡◌, ap}
use mathlib.Core.List.{List, [], ◌∷◌, ◌++◌, append_assoc}
use Prim.Native.Nat.{ℕ, suc, ◌+◌, ◌-◌, ◌<◌, ◌≤◌}
use native.Mathlib.Nat.{zero-add, suc-add}
use native.Mathlib.Numerals.{add-one}
use native.Mathlib.Omega.{arith}
use lib.ListN.{length, set, drop, get_or, replicate, length-replicate, replicate-append-replicate, length-append}
use lib.Seq.{drop-cons, set_at, drop-drop}

module _ {A : Type 0} where
  -- one more element at the end of a prefix
  pub grow : (p l : List A) (n : ℕ) (a : A) → length p ≡ n → n < length l → set (p ++ drop n l) n a ≡ (p ++ (a ∷ [])) ++ drop (n + 1) l
  grow p l n a e h = rw (drop-cons l n a h, set_at p (get_or l n a) (drop (suc n) l) a n e, add-one, append_assoc)

  -- two more
  pub grow_two : (p l : List A) (n : ℕ) (a b : A) → length p ≡ n → n + 1 < length l
      → set (set (p ++ drop n l) n a) (n + 1) b ≡ (p ++ (a ∷ b ∷ [])) ++ drop (n + 2) l
  grow_two p l n a b e h =
      let len : length (p ++ (a ∷ [])) ≡ n + 1 = simp length-append (omega arith) in
      let more : n + 2 ≡ (n + 1) + 1 = omega arith in
      rw (grow p l n a e (omega arith), grow (p ++ (a ∷ [])) l (n + 1) b len h, more) (simp append_assoc)

  pub fill_step : {w : List A} (n : ℕ) (v : A) (d : List A) → w ≡ replicate n v ++ drop n d → n < length d → set w n v ≡ replicate (n + 1) v ++ drop (n + 1) d
  fill_step n v d e h = rw (e, grow (replicate n v) d n v (length-replicate n v) h, replicate-append-replicate n 1 v)

  pub set_right : (xs ys : List A) (i : ℕ) (a : A) → set (xs ++ ys) (length xs + i) a ≡ xs ++ set ys i a
  set_right [] ys i a = rw zero-add
  set_right (x ∷ xs) ys i a = rw (suc-add (length xs) i) (ap (λ (l : List A). x ∷ l) (set_right xs ys i a))

  -- lists that agree from n on agree from any later place on, and lists that agree up to n agree up to any earlier one
  pub drop_later : (n k : ℕ) (l m : List A) → n ≤ k → drop n l ≡ drop n m → drop k l ≡ drop k m
  drop_later n k l m h e =
      let s : n + (k - n) ≡ k = omega arith in
      rw (← s, ← drop-drop (k - n) n l, ← drop-drop (k - n) n m, e)
