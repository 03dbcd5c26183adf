-- The matches that a clip keeps, one by one, and how they move to the front. Assumes nothing.
use mathlib.Core.Path.{◌≡◌, sym, ap, ◌∙◌, refl}
use mathlib.Core.Bool.{Bool, true, false, cond}
use mathlib.Core.List.{List, [], ◌∷◌, ◌++◌, append_assoc}
use Prim.Native.Nat.{ℕ, zero, suc, ◌+◌, ◌-◌, ◌*◌, ◌/◌, ◌≤◌, ◌<◌}
use native.Mathlib.Numerals.{add-one}
use native.Mathlib.Omega.{arith}
use borrow.Author.Tests.{lt-ltb, le-ltb, le-leb, lt-leb}
use lib.Ieee.{Float, nan}
use lib.ListN.{get_or, length, take, drop, set, length-set, take-append-drop}
use lib.Seq.{get_or-drop, drop-drop, drop-set-lt, take-suc-set, length-take-le}
use Rattle.residuals.specs.Residual.{keeps, kept_from, kept, clipped, mad_clip_matches}
use Rattle.std.proofs.Common.{Some, None}
use Rattle.std.specs.List.{count_by, range_with_len}
use Rattle.std.proofs.lemmas.List.Sums.{sum_by-cons}

module _ (t : Float) (rs : List Float) (ms : List ℕ) (n i : ℕ) where
  pub kept_next : i < n → keeps t (get_or rs i nan) ≡ true
      → kept_from t rs ms i (n - i) ≡ get_or ms (2 * i) 0 ∷ get_or ms (2 * i + 1) 0 ∷ kept_from t rs ms (i + 1) (n - (i + 1))
  unfolding kept_from
  kept_next h b =
      let e : n - i ≡ suc (n - (i + 1)) = omega arith in
      rw (e, kept_from, b, add-one i)

  pub kept_not : i < n → keeps t (get_or rs i nan) ≡ false → kept_from t rs ms i (n - i) ≡ kept_from t rs ms (i + 1) (n - (i + 1))
  unfolding kept_from
  kept_not h b =
      let e : n - i ≡ suc (n - (i + 1)) = omega arith in
      rw (e, kept_from, b, add-one i)

  pub kept_none : n ≤ i → kept_from t rs ms i (n - i) ≡ []
  unfolding kept_from
  kept_none h =
      let e : n - i ≡ 0 = omega arith in
      ap (kept_from t rs ms i) e

-- ---- how many

module _ (t : Float) (rs : List Float) (ms : List ℕ) where
  -- two numbers for each match that is kept
  pub kept_count : (i n : ℕ) → length (kept_from t rs ms i n) ≡ 2 * count_by (λ j. keeps t (get_or rs j nan)) (range_with_len i n)
  unfolding kept_from
  kept_count i zero = refl
  kept_count i (suc n) = go (keeps t (get_or rs i nan)) refl (kept_count (i + 1) n)
    where
      go : (v : Bool) → keeps t (get_or rs i nan) ≡ v
          → length (kept_from t rs ms (i + 1) n) ≡ 2 * count_by (λ j. keeps t (get_or rs j nan)) (range_with_len (i + 1) n)
          → length (kept_from t rs ms i (suc n)) ≡ 2 * count_by (λ j. keeps t (get_or rs j nan)) (range_with_len i (suc n))
      go true e h =
          let s : count_by (λ j. keeps t (get_or rs j nan)) (range_with_len i (suc n)) ≡ 1 + count_by (λ j. keeps t (get_or rs j nan)) (range_with_len (i + 1) n) =
          sum_by-cons (λ j. cond (keeps t (get_or rs j nan)) 1 0) i (range_with_len (i + 1) n) ∙ ap (λ (v : Bool). cond v 1 0 + count_by (λ j. keeps t (get_or rs j nan)) (range_with_len (i + 1) n)) e in
          let l : length (kept_from t rs ms i (suc n)) ≡ 2 + length (kept_from t rs ms (i + 1) n) = rw (kept_from, e, ← add-one i) (omega arith) in
          omega (arith, s, l, h)
      go false e h =
          let s : count_by (λ j. keeps t (get_or rs j nan)) (range_with_len i (suc n)) ≡ 0 + count_by (λ j. keeps t (get_or rs j nan)) (range_with_len (i + 1) n) =
          sum_by-cons (λ j. cond (keeps t (get_or rs j nan)) 1 0) i (range_with_len (i + 1) n) ∙ ap (λ (v : Bool). cond v 1 0 + count_by (λ j. keeps t (get_or rs j nan)) (range_with_len (i + 1) n)) e in
          let l : length (kept_from t rs ms i (suc n)) ≡ length (kept_from t rs ms (i + 1) n) = rw (kept_from, e, ← add-one i) refl in
          omega (arith, s, l, h)

-- ---- to the front: of m, first k places are those kept so far, and the rest is as it came

module _ (m o : List ℕ) (k : ℕ) (same : drop k m ≡ drop k o) where
  -- a place that is not yet written
  pub unwritten : (j : ℕ) → k ≤ j → get_or m j 0 ≡ get_or o j 0
  unwritten j h =
      let e : k + (j - k) ≡ j = omega arith in
      rw (← e, ← get_or-drop k m (j - k) 0, ← get_or-drop k o (j - k) 0, same)

  pub pair_front : (a b : ℕ) → k + 1 < length m → take (k + 2) (set (set m k a) (k + 1) b) ≡ take k m ++ (a ∷ b ∷ [])
  pair_front a b h =
      let e : k + 2 ≡ suc (suc k) = omega arith in
      let p : suc k < length (set m k a) = simp length-set (omega arith) in
      let q : k < length m = omega arith in
      rw (e, add-one k, take-suc-set (set m k a) (suc k) b p, take-suc-set m k a q, append_assoc)

  pub pair_back : (a b : ℕ) → drop (k + 2) (set (set m k a) (k + 1) b) ≡ drop (k + 2) o
  pair_back a b =
      let p : k + 1 < k + 2 = omega arith in
      let q : k < k + 2 = omega arith in
      rw (drop-set-lt (k + 2) (set m k a) (k + 1) b p, drop-set-lt (k + 2) m k a q, ← drop-drop 2 k m, ← drop-drop 2 k o, same)

  -- where all is kept that is, in front of the rest
  pub front_done : {ks : List ℕ} → k ≤ length m → take k m ≡ ks → m ≡ ks ++ drop (length ks) o
  front_done {ks} h e =
      let l : length ks ≡ k = sym (ap length e) ∙ length-take-le k m h in
      rw (l, ← e, ← same, take-append-drop)

-- ---- whether the clip takes effect

module _ (rs : List Float) (ms : List ℕ) (median sigma : Float) (k : ℕ) (count : length (kept median sigma rs ms) ≡ 2 * k) where
  half : length (kept median sigma rs ms) / 2 ≡ k
  half = omega arith

  pub clip_some : {after : List ℕ} → k < length ms / 2 → 4 ≤ k → after ≡ kept median sigma rs ms ++ drop (length (kept median sigma rs ms)) ms
      → clipped (Some k) after ≡ mad_clip_matches rs ms median sigma
  unfolding mad_clip_matches
  clip_some p q e = rw (half, lt-ltb k (length ms / 2) p, le-leb 4 k q, e)

  pub clip_all : length ms / 2 ≤ k → clipped None ms ≡ mad_clip_matches rs ms median sigma
  unfolding mad_clip_matches
  clip_all p = rw (half, le-ltb k (length ms / 2) p)

  pub clip_few : k < length ms / 2 → k < 4 → clipped None ms ≡ mad_clip_matches rs ms median sigma
  unfolding mad_clip_matches
  clip_few p q = rw (half, lt-ltb k (length ms / 2) p, lt-leb 4 k q)
