-- The bytes of a number one by one: what is left of the greatest number, above the groups read so far, decides each test. Assumes nothing.
use mathlib.Core.Path.{◌≡◌, refl, sym, ap, ◌∙◌}
use mathlib.Core.Bool.{Bool, true, false, cond, ◌&&◌, ◌||◌}
use Rattle.std.specs.Prelude.{Result, Ok, Err}
use mathlib.Core.List.{List, ◌∷◌}
use mathlib.Core.Logic.{◌⊎◌, inl, inr}
use Prim.Native.Nat.{ℕ, suc, ◌+◌, ◌-◌, ◌*◌, ◌/◌, ◌%◌, ◌^◌, ◌≤◌, ◌<◌}
use native.Mathlib.Nat.{mul-le-mul_right, mul_comm, mul_assoc, add-mul}
use native.Mathlib.Numerals.{add-one}
use native.Mathlib.Omega.{arith}
use borrow.Author.Tests.{lt-ltb, le-ltb, ltb-true, ltb-false, eq-eqb, ne_eqb}
use lib.Dec.{ltb, eqb}
use lib.ListN.{length, drop, get_or, drop_of_length-le}
use lib.Seq.{drop-cons}
use lib.Pow.{pow_pos, pow_mono, pow-add, shl_exact}
use Rattle.refusal.specs.declared.Refusal.{Refusal}
use Rattle.refusal.specs.declared.Refusal.TheVariants.{EndsEarly, WrongNumber}
use Rattle.record.specs.declared.Number.{Number}
use Rattle.record.specs.Number.{ends, leaves, number_from, number, numbered}
use Rattle.record.specs.Passes.{Greatest}

pub picks : {A : Type 0} (t : Bool) {x y z : A} → (t ≡ true → x ≡ z) → (t ≡ false → y ≡ z) → cond t x y ≡ z
picks true f g = f refl
picks false f g = g refl

pub and_right : (x : Bool) {y : Bool} → y ≡ false → (x && y) ≡ false
and_right true e = e
and_right false e = refl

pub one_shifted : (d : ℕ) → d < 64 → 1 * 2 ^ d % 2 ^ 64 ≡ 2 ^ d
one_shifted d h = shl_exact 1 d 64 (omega arith) (omega arith) ∙ omega arith

value_in : Result Number Refusal → ℕ
value_in (Ok n) = n.value
value_in (Err r) = 0

bytes_in : Result Number Refusal → ℕ
bytes_in (Ok n) = n.bytes
bytes_in (Err r) = 0

pub same_number : {v n w m : ℕ} → numbered v n ≡ numbered w m → (v ≡ w) × (n ≡ m)
unfolding value_in bytes_in
same_number e = (ap value_in e, ap bytes_in e)

-- ---- a byte

module _ (b : ℕ) (bs : List ℕ) (most v w n : ℕ) where
  pub last_is : b < 128 → number_from (b ∷ bs) most v w n ≡ cond (ends most v w b) (numbered (v + b * w) (suc n)) (Err WrongNumber)
  unfolding number_from
  last_is h =
      ap
      (λ (t : Bool). cond t (cond (ends most v w b) (numbered (v + b * w) (suc n)) (Err WrongNumber))
      (cond (leaves most v w b) (number_from bs most (v + b % 128 * w) (128 * w) (suc n)) (Err WrongNumber)))
      (lt-ltb b 128 h)

  pub more_is : 128 ≤ b → number_from (b ∷ bs) most v w n ≡ cond (leaves most v w b) (number_from bs most (v + b % 128 * w) (128 * w) (suc n)) (Err WrongNumber)
  unfolding number_from
  more_is h =
      ap
      (λ (t : Bool). cond t (cond (ends most v w b) (numbered (v + b * w) (suc n)) (Err WrongNumber))
      (cond (leaves most v w b) (number_from bs most (v + b % 128 * w) (128 * w) (suc n)) (Err WrongNumber)))
      (le-ltb b 128 h)

pub leaves_is : (most v w b : ℕ) → leaves most v w b ≡ ltb (v + b % 128 * w + 128 * w) most
unfolding leaves
leaves_is most v w b = refl

pub ends_is : (most v w b : ℕ) → ends most v w b ≡ ((ltb 0 b || eqb w 1) && ltb (v + b * w) most)
unfolding ends
ends_is most v w b = refl

pub or_true : (t : Bool) → (t || true) ≡ true
or_true true = refl
or_true false = refl

pub both_true : (t u : Bool) → (t && u) ≡ true → (t ≡ true) × (u ≡ true)
both_true true u e = (refl, e)
both_true false u e = let z : ◌≡◌ {A = ℕ} 0 1 = cc in absurd (omega arith)

pub high_byte : (b w : ℕ) → 128 ≤ b → b < 256 → b % 128 * w + 128 * w ≡ b * w
high_byte b w h k =
    let e : b % 128 + 128 ≡ b = omega arith in
    sym (add-mul (b % 128) 128 w) ∙ ap (λ (x : ℕ). x * w) e

-- The groups read so far give v, below the next group's weight; above them the greatest number has `left` left.
module _ (most v w left : ℕ) (small : v < w) (is : w * (left + 1) ≡ most) where
  spread : w * (left + 1) ≡ left * w + w
  spread = mul_comm w (left + 1) ∙ omega arith

  pub under : (b : ℕ) → b ≤ left → v + b * w < most
  under b h =
      let p : b * w ≤ left * w = mul-le-mul_right w h in
      omega (arith, spread)

  over : (b : ℕ) → left < b → most ≤ b * w
  over b h =
      let p : (left + 1) * w ≤ b * w = mul-le-mul_right w (omega arith) in
      omega (arith, spread)

  module _ (b : ℕ) (bs : List ℕ) (n : ℕ) where
    pub too_high : b < 256 → left < b → number_from (b ∷ bs) most v w n ≡ Err WrongNumber
    unfolding number_from
    too_high byte h =
        picks (ltb b 128)
        (λ e. ap (λ (t : Bool). cond t (numbered (v + b * w) (suc n)) (Err WrongNumber)) (and_right (ltb 0 b || eqb w 1) (le-ltb (v + b * w) most (omega (arith, over b h)))))
        (λ e. ap (λ (t : Bool). cond t (number_from bs most (v + b % 128 * w) (128 * w) (suc n)) (Err WrongNumber))
        (le-ltb (v + b % 128 * w + 128 * w) most (omega (arith, over b h, high_byte b w (ltb-false b 128 e) byte))))

    pub needless : b ≡ 0 → 1 < w → number_from (b ∷ bs) most v w n ≡ Err WrongNumber
    unfolding number_from
    needless z h =
        last_is b bs most v w n (omega arith)
        ∙ ap (λ (t : Bool). cond ((t || eqb w 1) && ltb (v + b * w) most) (numbered (v + b * w) (suc n)) (Err WrongNumber)) (le-ltb 0 b (omega arith))
        ∙ ap (λ (t : Bool). cond (t && ltb (v + b * w) most) (numbered (v + b * w) (suc n)) (Err WrongNumber)) (ne_eqb w 1 (λ e. omega arith))

    pub last_byte : b < 128 → b ≤ left → (0 < b) ⊎ (w ≡ 1) → number_from (b ∷ bs) most v w n ≡ numbered (v + b * w) (suc n)
    unfolding number_from
    last_byte l h first =
        last_is b bs most v w n l
        ∙ ap (λ (t : Bool). cond (t && ltb (v + b * w) most) (numbered (v + b * w) (suc n)) (Err WrongNumber)) (lawful first)
        ∙ ap (λ (t : Bool). cond t (numbered (v + b * w) (suc n)) (Err WrongNumber)) (lt-ltb (v + b * w) most (under b h))
      where
        lawful : (0 < b) ⊎ (w ≡ 1) → (ltb 0 b || eqb w 1) ≡ true
        lawful (inl p) = ap (λ (t : Bool). t || eqb w 1) (lt-ltb 0 b p)
        lawful (inr p) = ap (λ (t : Bool). ltb 0 b || t) (eq-eqb w 1 p) ∙ or_true (ltb 0 b)

    pub byte_on : 128 ≤ b → b < 256 → b ≤ left → number_from (b ∷ bs) most v w n ≡ number_from bs most (v + (b - 128) * w) (w * 128) (n + 1)
    unfolding number_from
    byte_on g byte h =
        more_is b bs most v w n g
        ∙ ap (λ (t : Bool). cond t (number_from bs most (v + b % 128 * w) (128 * w) (suc n)) (Err WrongNumber))
        (lt-ltb (v + b % 128 * w + 128 * w) most (omega (arith, under b h, high_byte b w g byte)))
        ∙ ap (λ (x : ℕ). number_from bs most (v + x * w) (128 * w) (suc n)) low
        ∙ ap (λ (x : ℕ). number_from bs most (v + (b - 128) * w) x (suc n)) (mul_comm 128 w)
        ∙ ap (λ (x : ℕ). number_from bs most (v + (b - 128) * w) (w * 128) x) (sym (add-one n))
      where
        low : b % 128 ≡ b - 128
        low = omega arith

-- ---- what is left of the greatest number, one group on

module _ (left bits : ℕ) (is : left + 1 ≡ 2 ^ bits) (h : 128 ≤ left) where
  seven : (t : Bool) → ltb bits 7 ≡ t → 7 ≤ bits
  seven true e =
      let p : 2 ^ bits ≤ 2 ^ 7 = pow_mono {j = 7} (omega (arith, ltb-true bits 7 e)) in
      absurd (omega arith)
  seven false e = ltb-false bits 7 e

  parted : left + 1 ≡ 2 ^ (bits - 7) * 128
  parted =
      let k : bits ≡ (bits - 7) + 7 = omega (arith, seven (ltb bits 7) refl) in
      is ∙ ap (λ (x : ℕ). 2 ^ x) k ∙ pow-add 2 (bits - 7) 7

  pub next_left : left / 128 + 1 ≡ 2 ^ (bits - 7)
  next_left = omega (arith, parted, pow_pos (bits - 7))

  pub next_whole : 128 * (left / 128 + 1) ≡ left + 1
  next_whole = omega (arith, parted, pow_pos (bits - 7))

-- ---- the loop

pub record Going (bytes : List ℕ) (top v weight left i : ℕ) : Type 0 where
  pub small : v < weight
  pub first : i ≡ 0 → weight ≡ 1
  pub later : 0 < i → 128 ≤ weight
  pub bits : Greatest left
  pub product : weight * (left + 1) ≡ top + 1
  pub rest : (n : ℕ) → top + 1 ≡ 2 ^ n → number_from (drop i bytes) (2 ^ n) v weight i ≡ number n bytes

pub begun : (bytes : List ℕ) (top : ℕ) → Greatest top → Going bytes top 0 1 top 0
unfolding number
begun bytes top g = record {
  small = omega arith;
  first = λ e. refl;
  later = λ h. absurd (omega arith);
  bits = g;
  product = omega arith;
  rest = λ n e. refl;
}

module _ (bytes : List ℕ) (top v w left i : ℕ) (g : Going bytes top v w left i) where
  pub number_ends : length bytes ≤ i → (n : ℕ) → top + 1 ≡ 2 ^ n → Err EndsEarly ≡ number n bytes
  unfolding number_from
  number_ends h n e = ap (λ (l : List ℕ). number_from l (2 ^ n) v w i) (sym (drop_of_length-le bytes h)) ∙ g.rest n e

  module _ (h : i < length bytes) (b : ℕ) (is : b ≡ get_or bytes i 0) where
    step : (n : ℕ) → top + 1 ≡ 2 ^ n → number_from (b ∷ drop (suc i) bytes) (2 ^ n) v w i ≡ number n bytes
    step n e =
        ap (λ (x : ℕ). number_from (x ∷ drop (suc i) bytes) (2 ^ n) v w i) is
        ∙ ap (λ (l : List ℕ). number_from l (2 ^ n) v w i) (sym (drop-cons bytes i 0 h)) ∙ g.rest n e

    pub number_high : b < 256 → left < b → (n : ℕ) → top + 1 ≡ 2 ^ n → Err WrongNumber ≡ number n bytes
    number_high byte l n e = sym (too_high (2 ^ n) v w left g.small (g.product ∙ e) b (drop (suc i) bytes) i byte l) ∙ step n e

    pub number_needless : b ≡ 0 → 0 < i → (n : ℕ) → top + 1 ≡ 2 ^ n → Err WrongNumber ≡ number n bytes
    number_needless z l n e =
        sym (needless (2 ^ n) v w left g.small (g.product ∙ e) b (drop (suc i) bytes) i z (omega (arith, g.later l))) ∙ step n e

    pub number_last : b < 128 → b ≤ left → (b ≡ 0 → i ≡ 0) → (n : ℕ) → top + 1 ≡ 2 ^ n → numbered (v + b * w) (i + 1) ≡ number n bytes
    number_last l k z n e =
        ap (numbered (v + b * w)) (add-one i)
        ∙ sym (last_byte (2 ^ n) v w left g.small (g.product ∙ e) b (drop (suc i) bytes) i l k (whether (ltb 0 b) refl)) ∙ step n e
      where
        whether : (t : Bool) → ltb 0 b ≡ t → (0 < b) ⊎ (w ≡ 1)
        whether true p = inl (ltb-true 0 b p)
        whether false p =
            let none : b ≡ 0 = omega (arith, ltb-false 0 b p) in
            inr (g.first (z none))

    pub fits_last : b ≤ left → v + b * w < top + 1
    fits_last k = under (top + 1) v w left g.small g.product b k

    pub number_on : 128 ≤ b → b < 256 → b ≤ left → Going bytes top (v + (b - 128) * w) (w * 128) (left / 128) (i + 1)
    number_on l byte k =
        let down : (b - 128) * w + 128 * w ≡ b * w = sym (add-mul (b - 128) 128 w) ∙ ap (λ (x : ℕ). x * w) (omega arith) in
        let short : (b - 128) * w ≤ 127 * w = mul-le-mul_right w (omega arith) in
        let up : 128 ≤ left = omega arith in
        record {
          small = omega (arith, g.small);
          first = λ e. absurd (omega arith);
          later = λ e. omega (arith, g.small);
          bits = record { bits = g.bits.bits - 7; is = next_left left g.bits.bits g.bits.is up };
          product = mul_assoc w 128 (left / 128 + 1) ∙ ap (λ (x : ℕ). w * x) (next_whole left g.bits.bits g.bits.is up) ∙ g.product;
          rest = λ n e.
              ap (λ (x : ℕ). number_from (drop x bytes) (2 ^ n) (v + (b - 128) * w) (w * 128) (i + 1)) (add-one i)
              ∙ sym (byte_on (2 ^ n) v w left g.small (g.product ∙ e) b (drop (suc i) bytes) i l byte k) ∙ step n e;
        }

    pub fits_on : 128 ≤ b → b ≤ left → w * 128 < top + 1
    fits_on l k =
        let p : 128 * w ≤ b * w = mul-le-mul_right w l in
        omega (arith, fits_last k, mul_comm w 128)

    pub fits_group : 128 ≤ b → b ≤ left → v + (b - 128) * w < top + 1
    fits_group l k =
        let p : (b - 128) * w ≤ b * w = mul-le-mul_right w (omega arith) in
        omega (arith, fits_last k)
