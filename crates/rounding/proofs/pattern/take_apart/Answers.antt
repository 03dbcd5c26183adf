use Rattle.std.proofs.Common.{◌≡◌, ℕ, zero, suc, ◌+◌, ◌-◌, ◌*◌, ◌/◌, ◌%◌, ◌^◌, ◌<◌, ap, ◌∙◌, arith, rules}
use lib.Bits.{bit_and}
use Rattle.rounding.specs.Pattern.{digits_of}
use Rattle.rounding.proofs.Half.{bit_is, below_bit}
use Rattle.rounding.proofs.pattern.take_apart.Goals as goal

no_lead : (h x t : ℕ) → x ≡ 0 → t ≡ digits_of h x t
no_lead h zero t e = search rules
no_lead h (suc x) t e = absurd (omega arith)

with_lead : (h x t : ℕ) → (x ≡ 0 → ⊥) → h + t ≡ digits_of h x t
with_lead h zero t e = absurd (e (search rules))
with_lead h (suc x) t e = search rules

pub returns-then-field-eq0 : goal.returns-then-field-eq0
returns-then-field-eq0 c =
    let b = c.args.b in
    let h = c.args.h in
    (below_bit b h (omega arith) ∙ no_lead (2 ^ h) (b / 2 ^ h) (b % 2 ^ h) c.if-field-eq0.true, omega arith)

pub returns-else-field-eq0 : goal.returns-else-field-eq0
returns-else-field-eq0 c =
    let b = c.args.b in
    let h = c.args.h in
    let k : h < 53 = omega arith in
    (ap (λ (x : ℕ). x + bit_and b (1 * 2 ^ h % 2 ^ 64 - 1)) (bit_is h k) ∙ ap (λ (x : ℕ). 2 ^ h + x) (below_bit b h k) ∙ with_lead (2 ^ h) (b / 2 ^ h) (b % 2 ^ h) c.if-field-eq0.false, omega arith)
