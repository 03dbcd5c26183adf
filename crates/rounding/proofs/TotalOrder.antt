-- The order of total_cmp is a total order of the floats of binary64, and the order by value. specs/TotalOrder.antt has the statements. Assumes nothing.
use Rattle.std.proofs.Common.{◌≡◌, ℕ, zero, suc, ◌+◌, ◌-◌, ◌^◌, ◌<◌, ◌≤◌, Bool, true, false, cond, not, ◌&&◌, ◌||◌, T, eqb, ltb, leb, ◌⊎◌, sym, refl, ap, ◌∙◌, subst, inl, inr, le_trans, le_refl, le_antisymm, arith, ltb-false, le-ltb, lt-ltb, eq-eqb, ne_eqb, le-leb, leb-false, leb-true}
use Prim.Native.Nat.{compare, Ordering}
use borrow.Author.Tests.{lt-leb}
use lib.Ieee.{Float, nan, inf, fin, binary64, fits, is_nan, of_bits, to_bits, below, level}
use lib.Ieee.Fits.{two}
use lib.Ieee.Bits.{is_false, of_bits-to_bits, to_bits-lt}
use Rattle.rounding.specs.Methods.{negative, total_key, total_le, value_le}
use Rattle.rounding.specs.TotalOrder.{Reflexive, Transitive, Total, Antisymmetric, ByValue}
use Rattle.rounding.proofs.Half.{Cmp, cmp}
use Rattle.rounding.proofs.Magnitude.{sized, sized_le, sized_bits, sized_lt, sized_eq, pattern, pattern_lt, pattern_le}

-- ---- an order of whole numbers
pub reflexive : Reflexive
unfolding total_le
reflexive x = le-leb (total_key x) (total_key x) (le_refl (total_key x))

pub transitive : Transitive
unfolding total_le
transitive x y z p q = le-leb (total_key x) (total_key z) (le_trans (leb-true (total_key x) (total_key y) p) (leb-true (total_key y) (total_key z) q))

pub total : Total
unfolding total_le
total x y = go (leb (total_key x) (total_key y)) refl
  where
    go : (b : Bool) → leb (total_key x) (total_key y) ≡ b → (leb (total_key x) (total_key y) ≡ true) ⊎ (leb (total_key y) (total_key x) ≡ true)
    go true e = inl e
    go false e = inr (le-leb (total_key y) (total_key x) (omega (arith, leb-false (total_key x) (total_key y) e)))

-- ---- the pattern, and so the float, from the key
back : ℕ → ℕ
back k = cond (ltb k (2 ^ 63)) (2 ^ 64 - 1 - k) (k - 2 ^ 63)

back_key : (b : ℕ) → b < 2 ^ 64 → back (cond (ltb b (2 ^ 63)) (b + 2 ^ 63) (2 ^ 64 - 1 - b)) ≡ b
unfolding back
back_key b h = go (ltb b (2 ^ 63)) refl
  where
    go : (t : Bool) → ltb b (2 ^ 63) ≡ t → back (cond t (b + 2 ^ 63) (2 ^ 64 - 1 - b)) ≡ b
    go true e = rw (le-ltb (b + 2 ^ 63) (2 ^ 63) (omega arith)) (omega arith)
    go false e = rw (lt-ltb (2 ^ 64 - 1 - b) (2 ^ 63) (omega (arith, ltb-false b (2 ^ 63) e))) (omega arith)

key_back : (x : Float) → T (fits binary64 x) → of_bits binary64 (back (total_key x)) ≡ x
unfolding total_key is_nan back of_bits
key_back nan F = refl
key_back (inf s) F = ap (of_bits binary64) (back_key (to_bits binary64 (inf s)) (to_bits-lt binary64 (inf s) F)) ∙ of_bits-to_bits binary64 (inf s) F
key_back (fin s m e) F = ap (of_bits binary64) (back_key (to_bits binary64 (fin s m e)) (to_bits-lt binary64 (fin s m e) F)) ∙ of_bits-to_bits binary64 (fin s m e) F

pub antisymmetric : Antisymmetric
unfolding total_le
antisymmetric x y F G p q =
    sym (key_back x F)
    ∙ ap (λ (k : ℕ). of_bits binary64 (back k)) (le_antisymm (leb-true (total_key x) (total_key y) p) (leb-true (total_key y) (total_key x) q))
    ∙ key_back y G

-- ---- the key of a sign and a pattern without it
abbrev keyed : Bool → ℕ → ℕ
keyed false n = n + 2 ^ 63
keyed true n = 2 ^ 64 - 1 - (2 ^ 63 + n)

-- Sizes a and b, with patterns n and m in the same order, below the largest.
module _ (a b n m : ℕ) (up : a < b → n < m) (down : b < a → m < n) (same : a ≡ b → n ≡ m) (N : n < 2 ^ 63) (M : m < 2 ^ 63) where
  ordered : (s t : Bool) → leb (keyed s n) (keyed t m) ≡ cond (below s a t b) true (cond (level s a t b) (s || not t) false)
  ordered false true = rw (lt-leb (n + 2 ^ 63) (2 ^ 64 - 1 - (2 ^ 63 + m)) (omega arith)) (either (eqb a b && (false || eqb a 0)))
    where
      either : (u : Bool) → false ≡ cond u false false
      either true = refl
      either false = refl
  ordered true false = rw (le-leb (2 ^ 64 - 1 - (2 ^ 63 + n)) (m + 2 ^ 63) (omega arith)) (some a b)
    where
      some : (a b : ℕ) → true ≡ cond (ltb 0 (a + b)) true (cond (eqb a b && (false || eqb a 0)) true false)
      some zero zero = refl
      some zero (suc b) = rw (lt-ltb 0 (0 + suc b) (omega arith))
      some (suc a) b = rw (lt-ltb 0 (suc a + b) (omega arith))
  ordered false false = go (compare a b) (cmp a b)
    where
      go : (o : Ordering) → Cmp o a b → leb (n + 2 ^ 63) (m + 2 ^ 63) ≡ cond (ltb a b) true (cond (eqb a b && true) true false)
      go Ordering.lt h = rw (lt-ltb a b h) (le-leb (n + 2 ^ 63) (m + 2 ^ 63) (omega (arith, up h)))
      go Ordering.eq h = rw (le-ltb a b (omega arith), eq-eqb a b h) (le-leb (n + 2 ^ 63) (m + 2 ^ 63) (omega (arith, same h)))
      go Ordering.gt h = rw (le-ltb a b (omega arith), ne_eqb a b (λ e. omega arith)) (lt-leb (n + 2 ^ 63) (m + 2 ^ 63) (omega (arith, down h)))
  ordered true true = go (compare a b) (cmp a b)
    where
      go : (o : Ordering) → Cmp o a b → leb (2 ^ 64 - 1 - (2 ^ 63 + n)) (2 ^ 64 - 1 - (2 ^ 63 + m)) ≡ cond (ltb b a) true (cond (eqb a b && true) true false)
      go Ordering.lt h = rw (le-ltb b a (omega arith), ne_eqb a b (λ e. omega arith)) (lt-leb (2 ^ 64 - 1 - (2 ^ 63 + n)) (2 ^ 64 - 1 - (2 ^ 63 + m)) (omega (arith, up h)))
      go Ordering.eq h = rw (le-ltb b a (omega arith), eq-eqb a b h) (le-leb (2 ^ 64 - 1 - (2 ^ 63 + n)) (2 ^ 64 - 1 - (2 ^ 63 + m)) (omega (arith, same h)))
      go Ordering.gt h = rw (lt-ltb b a h) (le-leb (2 ^ 64 - 1 - (2 ^ 63 + n)) (2 ^ 64 - 1 - (2 ^ 63 + m)) (omega (arith, down h)))

-- ---- numbers and infinities
key_is : (x : Float) (s : Bool) (n : ℕ) → T (not (is_nan x)) → n < 2 ^ 63 → to_bits binary64 x ≡ cond s (2 ^ 63) 0 + n → total_key x ≡ keyed s n
unfolding total_key
key_is x s n N h e = rw (is_false (is_nan x) N, e) (go s)
  where
    go : (s : Bool) → cond (ltb (cond s (2 ^ 63) 0 + n) (2 ^ 63)) (cond s (2 ^ 63) 0 + n + 2 ^ 63) (2 ^ 64 - 1 - (cond s (2 ^ 63) 0 + n)) ≡ keyed s n
    go false = rw (lt-ltb (0 + n) (2 ^ 63) (omega arith)) (omega arith)
    go true = rw (le-ltb (2 ^ 63 + n) (2 ^ 63) (omega arith))

numbers : (x y : Float) → T (fits binary64 x) → T (fits binary64 y) → T (not (is_nan x)) → T (not (is_nan y)) → total_le x y ≡ value_le x y
unfolding total_le value_le
numbers x y F G N M =
    let p = sized binary64 x F N in
    let q = sized binary64 y G M in
    let s = negative x in
    let t = negative y in
    let n = pattern 53 p.0 in
    let m = pattern 53 q.0 in
    let n_le : n ≤ 0x7ff0_0000_0000_0000 = pattern_le binary64 p.0 p.1 (sized_le binary64 x s p.0 p.2) in
    let m_le : m ≤ 0x7ff0_0000_0000_0000 = pattern_le binary64 q.0 q.1 (sized_le binary64 y t q.0 q.2) in
    rw (key_is x s n N (omega arith) (sized_bits binary64 x s p.0 p.2), key_is y t m M (omega arith) (sized_bits binary64 y t q.0 q.2), is_false (is_nan x) N, is_false (is_nan y) M, sized_lt binary64 x y s t p.0 q.0 p.2 q.2, sized_eq binary64 x y s t p.0 q.0 p.2 q.2)
    (ordered p.0 q.0 n m
    (λ h. pattern_lt 53 p.0 q.0 (two binary64) p.1 q.1 h)
    (λ h. pattern_lt 53 q.0 p.0 (two binary64) q.1 p.1 h)
    (λ h. ap (pattern 53) h) (omega arith) (omega arith) s t)

-- ---- the NaN is after each of them
key_lt : (x : Float) → T (fits binary64 x) → T (not (is_nan x)) → total_key x < 2 ^ 64 - 1
key_lt x F N =
    let p = sized binary64 x F N in
    let s = negative x in
    let n = pattern 53 p.0 in
    let h : n ≤ 0x7ff0_0000_0000_0000 = pattern_le binary64 p.0 p.1 (sized_le binary64 x s p.0 p.2) in
    subst (λ (k : ℕ). k < 2 ^ 64 - 1) (sym (key_is x s n N (omega arith) (sized_bits binary64 x s p.0 p.2))) (go s n h)
  where
    go : (s : Bool) (n : ℕ) → n ≤ 0x7ff0_0000_0000_0000 → keyed s n < 2 ^ 64 - 1
    go false n h = omega arith
    go true n h = omega arith

nan_last : (x : Float) → T (fits binary64 x) → T (not (is_nan x)) → total_le x nan ≡ value_le x nan
unfolding total_le value_le is_nan
nan_last x F N = le-leb (total_key x) (2 ^ 64 - 1) (omega (arith, key_lt x F N))

nan_first : (y : Float) → T (fits binary64 y) → T (not (is_nan y)) → total_le nan y ≡ value_le nan y
unfolding total_le value_le is_nan
nan_first y G M = lt-leb (2 ^ 64 - 1) (total_key y) (key_lt y G M) ∙ sym (ap (λ (b : Bool). cond b true false) (is_false (is_nan y) M))

pub by_value : ByValue
unfolding is_nan
by_value nan nan F G = unfold total_le value_le in refl
by_value nan (inf t) F G = nan_first (inf t) G tt
by_value nan (fin t n d) F G = nan_first (fin t n d) G tt
by_value (inf s) nan F G = nan_last (inf s) F tt
by_value (inf s) (inf t) F G = numbers (inf s) (inf t) F G tt tt
by_value (inf s) (fin t n d) F G = numbers (inf s) (fin t n d) F G tt tt
by_value (fin s m e) nan F G = nan_last (fin s m e) F tt
by_value (fin s m e) (inf t) F G = numbers (fin s m e) (inf t) F G tt tt
by_value (fin s m e) (fin t n d) F G = numbers (fin s m e) (fin t n d) F G tt tt
