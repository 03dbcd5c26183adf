-- By proofs/NarrowBits.antt, of the pattern taken apart.
use Rattle.std.proofs.Common.{◌≡◌, ℕ, ◌+◌, ◌-◌, ◌*◌, ◌/◌, ◌%◌, ◌^◌, ◌<◌, ◌≤◌, min, Bool, cond, sym, ap, ◌∙◌, subst, le_refl, arith, rules}
use lib.Ieee.{binary32, binary64, to_bits, of_bits}
use lib.Ieee.Nearest.{closest}
use Rattle.rounding.specs.Narrow.{narrowed}
use Rattle.rounding.specs.Pattern.{digits_of}
use Rattle.rounding.proofs.NarrowBits.{inf_narrowed, j_lt, low_bits, high_bits, none_bits, kept_le}
use Rattle.rounding.proofs.narrowing.narrow_bits.Goals as goal

abbrev Bits : ℕ → ℕ → Type 0
Bits a r = (s : Bool) → cond s (2 ^ 31) 0 + r ≡ to_bits binary32 (narrowed (of_bits binary64 (cond s (2 ^ 63) 0 + a)))

-- the place is 896 or above: the sum before it is capped
capped : (a d j n : ℕ) → a < 0x7ff0_0000_0000_0000 → d ≡ digits_of (2 ^ 52) (a / 2 ^ 52) (a % 2 ^ 52) → j ≡ a / 2 ^ 52 - 1 → 896 ≤ j → n ≡ closest d (2 ^ 29) → Bits a (min ((j - 896) * 2 ^ 23 % 2 ^ 64 + n) 0x7f80_0000)
capped a d j n A x y h e s =
    let l : j < 2046 = j_lt a A d j x y in
    let is : (j - 896) * 2 ^ 23 % 2 ^ 64 + n ≡ (j - 896) * 2 ^ 23 + closest d (2 ^ 29) = omega arith in
    ap (λ (x : ℕ). cond s (2 ^ 31) 0 + min x 0x7f80_0000) is ∙ high_bits a A d j x y h s

pub returns-then-a-eq9218868437227405312 : goal.returns-then-a-eq9218868437227405312
returns-then-a-eq9218868437227405312 c =
    (λ s. inf_narrowed s ∙ ap (λ (x : ℕ). to_bits binary32 (narrowed (of_bits binary64 (cond s (2 ^ 63) 0 + x)))) (sym c.if-a-eq9218868437227405312.true), le_refl 0x7f80_0000)

pub returns-then-d-lt64 : goal.returns-then-d-lt64
returns-then-d-lt64 c =
    let v = c.take_apart-digits in
    let A : c.args.a < 0x7ff0_0000_0000_0000 = omega arith in
    let D : 29 ≤ 925 - v.result.place = omega arith in (
      λ s. ap (λ (x : ℕ). cond s (2 ^ 31) 0 + x) c.nearest.ensures ∙ low_bits c.args.a A v.result.digits v.result.place v.ensures.0 v.ensures.1 c.if-place-lt896.true s,
      omega (arith, c.nearest.ensures, kept_le c.args.a A v.result.digits v.result.place v.ensures.0 v.ensures.1 (925 - v.result.place) D),
    )

pub returns-else-d-lt64 : goal.returns-else-d-lt64
returns-else-d-lt64 c =
    let v = c.take_apart-digits in
    (none_bits c.args.a (omega arith) v.result.digits v.result.place v.ensures.0 v.ensures.1 c.if-place-lt896.true c.if-d-lt64.false, search rules)

pub returns-then-r-lt2139095040 : goal.returns-then-r-lt2139095040
returns-then-r-lt2139095040 c =
    let v = c.take_apart-digits in
    let n = c.nearest-else-place-lt896 in (
      λ s. subst (λ (x : ℕ). cond s (2 ^ 31) 0 + x ≡ to_bits binary32 (narrowed (of_bits binary64 (cond s (2 ^ 63) 0 + c.args.a)))) (omega arith)
          (capped c.args.a v.result.digits v.result.place n.result (omega arith) v.ensures.0 v.ensures.1 c.if-place-lt896.false n.ensures s),
      omega arith,
    )

pub returns-else-r-lt2139095040 : goal.returns-else-r-lt2139095040
returns-else-r-lt2139095040 c =
    let v = c.take_apart-digits in
    let n = c.nearest-else-place-lt896 in (
      λ s. subst (λ (x : ℕ). cond s (2 ^ 31) 0 + x ≡ to_bits binary32 (narrowed (of_bits binary64 (cond s (2 ^ 63) 0 + c.args.a)))) (omega arith)
          (capped c.args.a v.result.digits v.result.place n.result (omega arith) v.ensures.0 v.ensures.1 c.if-place-lt896.false n.ensures s),
      le_refl 0x7f80_0000,
    )
