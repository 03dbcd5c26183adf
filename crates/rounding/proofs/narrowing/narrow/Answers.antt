-- By proofs/NarrowBits.antt.
use Rattle.std.proofs.Common.{◌≡◌, ℕ, Bool, ◌+◌, ◌-◌, ◌^◌, ◌≤◌, true, false, cond, T, sym, ap, ◌∙◌, add_comm, zero-add, arith, rules}
use lib.Ieee.{Float, binary32, binary64, fits, to_bits, of_bits}
use lib.Ieee.Bits.{of_bits-to_bits}
use Rattle.rounding.specs.Narrow.{narrowed}
use Rattle.rounding.proofs.NarrowBits.{narrowed_nan, plain_bits, wide_bits, read, plain}
use Rattle.rounding.proofs.NanTest.{no_nan}
use Rattle.rounding.proofs.narrowing.narrow.Goals as goal

-- the pattern that is made, with the sign's bit clear and with it set
made : (x : Float) (r : ℕ) → T (fits binary64 x)
    → ((s : Bool) → cond s (2 ^ 31) 0 + r ≡ to_bits binary32 (narrowed (of_bits binary64 (cond s (2 ^ 63) 0 + to_bits binary64 x))))
    → r ≡ to_bits binary32 (narrowed x)
made x r F b =
    sym (zero-add r)
    ∙ b false
    ∙ ap (λ (b : ℕ). to_bits binary32 (narrowed (of_bits binary64 b))) (zero-add (to_bits binary64 x))
    ∙ ap (λ (v : Float). to_bits binary32 (narrowed v)) (of_bits-to_bits binary64 x F)

made_below : (x : Float) (r : ℕ) → T (fits binary64 x) → 2 ^ 63 ≤ to_bits binary64 x
    → ((s : Bool) → cond s (2 ^ 31) 0 + r ≡ to_bits binary32 (narrowed (of_bits binary64 (cond s (2 ^ 63) 0 + (to_bits binary64 x - 2 ^ 63)))))
    → r + 2 ^ 31 ≡ to_bits binary32 (narrowed x)
made_below x r F h b =
    let e : 2 ^ 63 + (to_bits binary64 x - 2 ^ 63) ≡ to_bits binary64 x = omega arith in
    add_comm r (2 ^ 31)
    ∙ b true
    ∙ ap (λ (b : ℕ). to_bits binary32 (narrowed (of_bits binary64 b))) e
    ∙ ap (λ (v : Float). to_bits binary32 (narrowed v)) (of_bits-to_bits binary64 x F)

pub returns-then-x : goal.returns-then-x
returns-then-x c = narrowed_nan c.args.x c.if-x.true

pub float_to_bits-b : goal.float_to_bits-b
float_to_bits-b c = no_nan c.args.x c.if-x.false

pub narrow_bits-requires : goal.narrow_bits-requires
narrow_bits-requires c =
    let F : T (fits binary64 c.args.x) = search rules in
    omega (arith, plain_bits c.args.x F (no_nan c.args.x c.if-x.false))

pub float_from_bits-result : goal.float_from_bits-result
float_from_bits-result c =
    let F : T (fits binary64 c.args.x) = search rules in
    plain c.args.x F (no_nan c.args.x c.if-x.false) c.narrow_bits.result (made c.args.x c.narrow_bits.result F c.narrow_bits.ensures.0)

pub narrow_bits-requires-else-b-lt9223372036854775808 : goal.narrow_bits-requires-else-b-lt9223372036854775808
narrow_bits-requires-else-b-lt9223372036854775808 c =
    let F : T (fits binary64 c.args.x) = search rules in
    let n = no_nan c.args.x c.if-x.false in
    omega (arith, plain_bits c.args.x F n, wide_bits c.args.x F n)

pub float_from_bits-result-else-b-lt9223372036854775808 : goal.float_from_bits-result-else-b-lt9223372036854775808
float_from_bits-result-else-b-lt9223372036854775808 c =
    let F : T (fits binary64 c.args.x) = search rules in
    let b = c.narrow_bits-else-b-lt9223372036854775808 in
    plain c.args.x F (no_nan c.args.x c.if-x.false) (b.result + 2 ^ 31) (made_below c.args.x b.result F c.if-b-lt9223372036854775808.false b.ensures.0)

pub returns-then-b-lt9223372036854775808 : goal.returns-then-b-lt9223372036854775808
returns-then-b-lt9223372036854775808 c =
    let F : T (fits binary64 c.args.x) = search rules in
    read c.args.x F (no_nan c.args.x c.if-x.false) c.narrow_bits.result (made c.args.x c.narrow_bits.result F c.narrow_bits.ensures.0)

pub returns-else-b-lt9223372036854775808 : goal.returns-else-b-lt9223372036854775808
returns-else-b-lt9223372036854775808 c =
    let F : T (fits binary64 c.args.x) = search rules in
    let b = c.narrow_bits-else-b-lt9223372036854775808 in
    read c.args.x F (no_nan c.args.x c.if-x.false) (b.result + 2 ^ 31) (made_below c.args.x b.result F c.if-b-lt9223372036854775808.false b.ensures.0)
