-- n / b to the nearest whole number, a tie to the even one, by adding just under half of b. Assumes nothing.
use Rattle.std.proofs.Common.{◌≡◌, ℕ, zero, suc, ◌+◌, ◌-◌, ◌*◌, ◌/◌, ◌%◌, ◌^◌, ◌<◌, ◌≤◌, not, T, eqb, ◌⊎◌, refl, ap, ◌∙◌, subst, inl, inr, mod-lt, suc-mul, div-add-mod', arith, eqb→eq, leb→le, pow_pos, shl_exact}
use Prim.Native.Nat.{compare, Ordering}
use native.Mathlib.Nat.{pow-succ'}
use lib.Dec.{is_le, compare_is_eq, nleb→lt, eqb_refl}
use lib.Arith.{lt_of_le-ne, digits_div}
use lib.Bits.{bit_and, and_mask}
use lib.Ieee.{nearest}
use lib.Ieee.Nearest.{closest}

-- ---- what `compare` says
abbrev pub Cmp : Ordering → ℕ → ℕ → Type 0
Cmp Ordering.lt a b = a < b
Cmp Ordering.eq a b = a ≡ b
Cmp Ordering.gt a b = b < a

pub cmp : (a b : ℕ) → Cmp (compare a b) a b
cmp a b = go (compare a b) (leb→le a b) (nleb→lt a b) (eqb→eq a b) (λ (e : a ≡ b). subst (λ (x : ℕ). T (eqb a x)) e (eqb_refl a))
  where
    go : (o : Ordering) → (T (is_le o) → a ≤ b) → (T (not (is_le o)) → b < a) → (T (compare_is_eq o) → a ≡ b) → (a ≡ b → T (compare_is_eq o)) → Cmp o a b
    go Ordering.lt h k e n = lt_of_le-ne (h tt) n
    go Ordering.eq h k e n = e tt
    go Ordering.gt h k e n = k tt

pub quotient : (q b r x : ℕ) → x ≡ q * b + r → r < b → x / b ≡ q
quotient q b r x e h = ap (λ (y : ℕ). y / b) e ∙ digits_div q h

pub parity : (q : ℕ) → (q % 2 ≡ 0) ⊎ (q % 2 ≡ 1)
parity q = go (q % 2) (mod-lt q (pow_pos 1))
  where
    go : (r : ℕ) → r < 2 → (r ≡ 0) ⊎ (r ≡ 1)
    go zero h = inl refl
    go (suc zero) h = inr refl
    go (suc (suc r)) h = absurd (no r h)
      where
        no : (r : ℕ) → suc (suc r) < 2 → ⊥
        no r h = omega arith

module _ (n b h : ℕ) (e : b ≡ 2 * h) (H : 0 < h) where
  abbrev q : ℕ
  q = n / b

  abbrev r : ℕ
  r = n % b

  is : q * b + r ≡ n
  is = div-add-mod' n b

  r_lt : r < b
  r_lt = mod-lt n (omega arith)

  sized : (o : Ordering) → Cmp o (r * 2) b → (n + (h - 1) + q % 2) / b ≡ nearest q o
  sized Ordering.lt c = quotient q b (r + (h - 1) + q % 2) (n + (h - 1) + q % 2) (omega (arith, is)) (omega arith)
  sized Ordering.eq c = go (parity q)
    where
      go : (q % 2 ≡ 0) ⊎ (q % 2 ≡ 1) → (n + (h - 1) + q % 2) / b ≡ q + q % 2
      go (inl z) = quotient q b (b - 1) (n + (h - 1) + q % 2) (omega (arith, is)) (omega arith) ∙ omega arith
      go (inr z) = quotient (suc q) b 0 (n + (h - 1) + q % 2) (omega (arith, is, suc-mul q b)) (omega arith) ∙ omega arith
  sized Ordering.gt c = quotient (suc q) b (r + (h - 1) + q % 2 - b) (n + (h - 1) + q % 2) (omega (arith, is, suc-mul q b)) (omega (arith, r_lt))

  pub by_half : (n + (h - 1) + n / b % 2) / b ≡ closest n b
  by_half = sized (compare (r * 2) b) (cmp (r * 2) b)

-- ---- as the machine has it, with b = 2 ^ d
pub twice_half : (d : ℕ) → 0 < d → 2 ^ d ≡ 2 * 2 ^ (d - 1)
twice_half zero h = elim h [ ]
twice_half (suc d) h = pow-succ' 2 d ∙ ap (λ (k : ℕ). 2 * 2 ^ k) (back d)
  where
    back : (d : ℕ) → d ≡ suc d - 1
    back d = omega arith

-- the same for the digits of a format
pub half_pow : (p : ℕ) → 2 ≤ p → 2 ^ p ≡ 2 * 2 ^ (p - 1)
half_pow p h = twice_half p (omega arith)

pub half_is : (d : ℕ) → d - 1 < 63 → 1 * 2 ^ (d - 1) % 2 ^ 64 ≡ 2 ^ (d - 1)
half_is d h = shl_exact 1 (d - 1) 64 (omega arith) (omega arith) ∙ omega arith

-- ---- a bit at h, and the digits below it
pub bit_is : (h : ℕ) → h < 53 → 1 * 2 ^ h % 2 ^ 64 ≡ 2 ^ h
bit_is h k = shl_exact 1 h 64 (omega arith) (omega arith) ∙ omega arith

pub below_bit : (b h : ℕ) → h < 53 → bit_and b (1 * 2 ^ h % 2 ^ 64 - 1) ≡ b % 2 ^ h
below_bit b h k = ap (λ (x : ℕ). bit_and b (x - 1)) (bit_is h k) ∙ and_mask b h
