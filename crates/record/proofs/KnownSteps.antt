-- A number that is known to stand at a place: only its last byte has to be found. Assumes nothing.
use mathlib.Core.Path.{◌≡◌, refl, sym, ap, ◌∙◌}
use mathlib.Core.Bool.{Bool, true, false, cond, ◌||◌}
use Rattle.std.specs.Prelude.{Err}
use mathlib.Core.List.{List, ◌∷◌}
use Prim.Native.Nat.{ℕ, suc, ◌+◌, ◌-◌, ◌*◌, ◌%◌, ◌^◌, ◌≤◌, ◌<◌}
use native.Mathlib.Nat.{mul_comm}
use native.Mathlib.Numerals.{add-one}
use native.Mathlib.Omega.{arith}
use borrow.Author.Tests.{ltb-true, ltb-false}
use lib.Dec.{ltb, eqb}
use lib.ListN.{length, drop, get_or, drop_of_length-le}
use lib.Seq.{drop-cons}
use lib.Pow.{pow_mono}
use Rattle.refusal.specs.declared.Refusal.TheVariants.{EndsEarly, WrongNumber}
use Rattle.record.specs.Number.{ends, leaves, number_from, number, numbered}
use Rattle.record.specs.Passes.{Lies}
use Rattle.record.proofs.NumberSteps.{last_is, more_is, leaves_is, ends_is, both_true, same_number}

-- ---- a byte of a number that is read to its end

module _ (b : ℕ) (bs : List ℕ) (most v w c r n : ℕ) (e : number_from (b ∷ bs) most v w c ≡ numbered r n) where
  pub record AtLast : Type 0 where
    pub small : v + b * w < most
    pub value : v + b * w ≡ r
    pub count : suc c ≡ n

  pub at_last : b < 128 → AtLast
  at_last h = by (ends most v w b) refl (sym (last_is b bs most v w c h) ∙ e)
    where
      by : (t : Bool) → ends most v w b ≡ t → cond t (numbered (v + b * w) (suc c)) (Err WrongNumber) ≡ numbered r n → AtLast
      by true f e =
          let p : v + b * w ≡ r = (same_number e).0 in
          let q : suc c ≡ n = (same_number e).1 in
          record {
            small = ltb-true (v + b * w) most (both_true (ltb 0 b || eqb w 1) (ltb (v + b * w) most) (sym (ends_is most v w b) ∙ f)).1;
            value = p;
            count = q;
          }
      by false f e = let z : ◌≡◌ {A = ℕ} 0 1 = cc in absurd (omega arith)

  pub record Before : Type 0 where
    pub small : v + b % 128 * w + 128 * w < most
    pub is : number_from bs most (v + b % 128 * w) (128 * w) (suc c) ≡ numbered r n

  pub before_last : 128 ≤ b → Before
  before_last h = by (leaves most v w b) refl (sym (more_is b bs most v w c h) ∙ e)
    where
      by : (t : Bool) → leaves most v w b ≡ t → cond t (number_from bs most (v + b % 128 * w) (128 * w) (suc c)) (Err WrongNumber) ≡ numbered r n → Before
      by true f e = record { small = ltb-true (v + b % 128 * w + 128 * w) most (sym (leaves_is most v w b) ∙ f); is = e }
      by false f e = let z : ◌≡◌ {A = ℕ} 0 1 = cc in absurd (omega arith)

-- ---- the loop

pub record Knowing (bytes : List ℕ) (v w i : ℕ) : Type 0 where
  pub is : (bits r n : ℕ) → number bits bytes ≡ numbered r n → number_from (drop i bytes) (2 ^ bits) v w i ≡ numbered r n

pub knowing_first : (bytes : List ℕ) → Knowing bytes 0 1 0
unfolding number
knowing_first bytes = record { is = λ bits r n f. f }

-- There is a byte where the number goes on.
there : (bytes : List ℕ) (i most v w c : ℕ) {r n : ℕ} → number_from (drop i bytes) most v w c ≡ numbered r n → i < length bytes
unfolding number_from
there bytes i most v w c {r} {n} e = by (ltb i (length bytes)) refl
  where
    by : (t : Bool) → ltb i (length bytes) ≡ t → i < length bytes
    by true f = ltb-true i (length bytes) f
    by false f =
        let q : Err EndsEarly ≡ numbered r n = ap (λ (l : List ℕ). number_from l most v w c) (sym (drop_of_length-le bytes (ltb-false i (length bytes) f))) ∙ e in
        let z : ◌≡◌ {A = ℕ} 0 1 = cc in
        absurd (omega arith)

pub known_inside : (bytes : List ℕ) (v w i : ℕ) → Lies bytes → Knowing bytes v w i → i < length bytes
known_inside bytes v w i g k = there bytes i (2 ^ g.bits) v w i (k.is g.bits g.value g.count g.is)

module _ (bytes : List ℕ) (v w i b : ℕ) (g : Lies bytes) (k : Knowing bytes v w i) (here : b ≡ get_or bytes i 0) where
  word : {m : ℕ} → m < 2 ^ g.bits → m < 2 ^ 64
  word {m} h = let p : 2 ^ g.bits ≤ 2 ^ 64 = pow_mono g.narrow in omega arith

  module _ (bits r n : ℕ) (e : number bits bytes ≡ numbered r n) where
    step : number_from (b ∷ drop (suc i) bytes) (2 ^ bits) v w i ≡ numbered r n
    step =
        let f = k.is bits r n e in
        ap (λ (x : ℕ). number_from (x ∷ drop (suc i) bytes) (2 ^ bits) v w i) here
        ∙ ap (λ (l : List ℕ). number_from l (2 ^ bits) v w i) (sym (drop-cons bytes i 0 (there bytes i (2 ^ bits) v w i f))) ∙ f

  pub known_fits : b < 128 → v + b * w < 2 ^ 64
  known_fits h = word (at_last b (drop (suc i) bytes) (2 ^ g.bits) v w i g.value g.count (step g.bits g.value g.count g.is) h).small

  pub known_end : b < 128 → (bits r n : ℕ) → number bits bytes ≡ numbered r n → (v + b * w ≡ r) × (i + 1 ≡ n)
  known_end h bits r n e =
      let a = at_last b (drop (suc i) bytes) (2 ^ bits) v w i r n (step bits r n e) h in
      (a.value, omega (arith, a.count))

  module _ (h : 128 ≤ b) (byte : b < 256) where
    low : b % 128 ≡ b - 128
    low = omega arith

    pub known_more : v + (b - 128) * w + w * 128 < 2 ^ 64
    known_more =
        let s = word (before_last b (drop (suc i) bytes) (2 ^ g.bits) v w i g.value g.count (step g.bits g.value g.count g.is) h).small in
        omega (arith, s, mul_comm 128 w, ap (λ (x : ℕ). x * w) low)

    next : (bits r n : ℕ) → number bits bytes ≡ numbered r n → number_from (drop (i + 1) bytes) (2 ^ bits) (v + (b - 128) * w) (w * 128) (i + 1) ≡ numbered r n
    next bits r n e =
        ap (λ (x : ℕ). number_from (drop x bytes) (2 ^ bits) (v + (b - 128) * w) (w * 128) (i + 1)) (add-one i)
        ∙ ap (number_from (drop (suc i) bytes) (2 ^ bits) (v + (b - 128) * w) (w * 128)) (add-one i)
        ∙ ap (λ (x : ℕ). number_from (drop (suc i) bytes) (2 ^ bits) (v + (b - 128) * w) x (suc i)) (mul_comm w 128)
        ∙ ap (λ (x : ℕ). number_from (drop (suc i) bytes) (2 ^ bits) (v + x * w) (128 * w) (suc i)) (sym low)
        ∙ (before_last b (drop (suc i) bytes) (2 ^ bits) v w i r n (step bits r n e) h).is

    pub knowing_on : Knowing bytes (v + (b - 128) * w) (w * 128) (i + 1)
    knowing_on = record { is = next }
