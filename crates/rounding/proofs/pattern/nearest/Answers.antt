use Rattle.std.proofs.Common.{ℕ, ◌+◌, ◌-◌, ◌/◌, ◌^◌, ap, ◌∙◌, arith, pow_pos}
use lib.Bits.{bit_and, and_mask}
use Rattle.rounding.proofs.Half.{half_is, twice_half, by_half}
use Rattle.rounding.proofs.pattern.nearest.Goals as goal

pub returns : goal.returns
returns c =
    let n = c.args.n in
    let d = c.args.d in
    ap (λ (x : ℕ). (n + (x - 1) + bit_and (n / 2 ^ d) 1) / 2 ^ d) (half_is d (omega arith))
    ∙ ap (λ (x : ℕ). (n + (2 ^ (d - 1) - 1) + x) / 2 ^ d) (and_mask (n / 2 ^ d) 1)
    ∙ by_half n (2 ^ d) (2 ^ (d - 1)) (twice_half d (omega arith)) (pow_pos (d - 1))
