-- The residuals in front of the plane, copied behind all of them, and what is left once that part has served. Assumes nothing.
use mathlib.Core.Path.{◌≡◌, refl, sym, ap, ◌∙◌}
use mathlib.Core.Bool.{Bool, true, false, cond}
use mathlib.Core.List.{List, [], ◌∷◌, ◌++◌, append_assoc, append-nil}
use Prim.Native.Nat.{ℕ, suc, ◌+◌, ◌/◌, ◌≤◌, ◌<◌, min}
use native.Mathlib.Numerals.{add-one}
use native.Mathlib.Omega.{arith}
use lib.Ieee.{Float, nan, eq}
use lib.ListN.{get_or, length, take, drop, set, replicate, length-append}
use lib.Seq.{take-suc, take_at, drop_at, drop-cons, drop-drop, set_at}
use Rattle.rounding.specs.Arith.{zero64}
use Rattle.stats.specs.Median.{median_mad_sigma, Summarised}
use Rattle.stats.specs.declared.MedianSigma.{MedianSigma}
use Rattle.solve.specs.Constants.{minus_one}
use Rattle.residuals.specs.Residual.{in_front, residual_median_sigma, Measured}

picked : (b : Bool) (x : Float) (xs ys : List Float) → cond b (xs ++ ys) (x ∷ (xs ++ ys)) ≡ cond b xs (x ∷ xs) ++ ys
picked true x xs ys = refl
picked false x xs ys = refl

front_append : (xs ys : List Float) → in_front (xs ++ ys) ≡ in_front xs ++ in_front ys
unfolding in_front
front_append [] ys = refl
front_append (x ∷ xs) ys = rw (front_append xs ys) (picked (eq x minus_one) x (in_front xs) (in_front ys))

-- The first residuals, and one more.
module _ (l : List Float) (i : ℕ) (h : i < length l) where
  split : in_front (take (i + 1) l) ≡ in_front (take i l) ++ in_front (get_or l i nan ∷ [])
  split = rw (add-one i, take-suc l i nan h) (front_append (take i l) (get_or l i nan ∷ []))

  pub front_more : eq (get_or l i nan) minus_one ≡ false → in_front (take (i + 1) l) ≡ in_front (take i l) ++ (get_or l i nan ∷ [])
  unfolding in_front
  front_more e = split ∙ rw e

  pub front_same : eq (get_or l i nan) minus_one ≡ true → in_front (take (i + 1) l) ≡ in_front (take i l)
  unfolding in_front
  front_same e = split ∙ rw (e, append-nil)

-- After p the list is as it came: so it is when p has grown by one at its end, which is written there.
push : (p l : List Float) (n : ℕ) (a : Float) → length p ≡ n → n < length l → set (p ++ drop n l) n a ≡ p ++ (a ∷ []) ++ drop (n + 1) l
push p l n a e h = rw (drop-cons l n a h, set_at p (get_or l n a) (drop (suc n) l) a n e, add-one, append_assoc)

-- Of the first i residuals of l, those in front stand at the front of m, which was o.
module _ (l m o : List Float) (k i : ℕ) (h : i < length l) (few : k ≡ length (in_front (take i l))) (is : m ≡ in_front (take i l) ++ drop k o) where
  pub copied : k < length o → eq (get_or l i nan) minus_one ≡ false
      → (k + 1 ≡ length (in_front (take (i + 1) l))) × (set m k (get_or l i nan) ≡ in_front (take (i + 1) l) ++ drop (k + 1) o)
  copied r e =
      let f = front_more l i h e in (
        rw (f, length-append) (omega arith),
        rw (is, f, push (in_front (take i l)) o k (get_or l i nan) (sym few) r),
      )

  pub passed : eq (get_or l i nan) minus_one ≡ true → (k ≡ length (in_front (take (i + 1) l))) × (m ≡ in_front (take (i + 1) l) ++ drop k o)
  passed e = rw (front_same l i h e) (few, is)

-- those in front are no more than all
kept_few : (b : Bool) (x : Float) (xs : List Float) (n : ℕ) → length xs ≤ n → length (cond b xs (x ∷ xs)) ≤ suc n
kept_few true x xs n h = omega arith
kept_few false x xs n h = omega arith

pub front_few : (xs : List Float) → length (in_front xs) ≤ length xs
unfolding in_front
front_few [] = omega arith
front_few (x ∷ xs) = kept_few (eq x minus_one) x (in_front xs) (length xs) (front_few xs)

-- The list in two parts: a, the residuals, and b, at whose front those of a that are in front were written. What the statistics leave of the whole, from what
-- they leave of those.
module _ (l : List Float) (n : ℕ) {m k : ℕ} {a b w : List Float} (first : m ≡ min n (length l / 2)) (front : a ≡ take m l) (back : b ≡ drop m l)
    (few : k ≡ length (in_front a)) (is : w ≡ in_front a ++ drop k b) where
  part : take k w ≡ in_front a
  part = rw (is, take_at (in_front a) (drop k b) k (sym few))

  rest : drop k w ≡ drop (m + k) l
  rest = rw (is, drop_at (in_front a) (drop k b) k (sym few), back, drop-drop k m l)

  whole : (z : List Float) → a ++ (z ++ drop k w) ≡ take m l ++ z ++ drop (m + length (in_front (take m l))) l
  whole z = rw (rest, ← append_assoc, few, front)

  pub measured : (z : List Float) {r : MedianSigma} → Summarised (take k w) z r → Measured l (a ++ (z ++ drop k w)) n r
  unfolding residual_median_sigma
  measured z s = record {
    result = s.result ∙ ap median_mad_sigma part ∙ ap (λ (x : List Float). median_mad_sigma (in_front x)) front ∙ ap (λ (x : ℕ). median_mad_sigma (in_front (take x l))) first;
    lists =
        whole z
        ∙ ap (λ (y : List Float). take m l ++ y ++ drop (m + length (in_front (take m l))) l)
        (s.scratch ∙ ap (λ (v : List Float). replicate (length v) zero64) part ∙ ap (λ (v : List Float). replicate (length (in_front v)) zero64) front)
        ∙ ap (λ (x : ℕ). take x l ++ replicate (length (in_front (take x l))) zero64 ++ drop (x + length (in_front (take x l))) l) first;
  }
