use Rattle.std.proofs.Common.{T, arith, rules, le-ltb, lt-ltb}
use lib.Ieee.{binary64, fits}
use lib.Ieee.Bits.{to_bits-lt}
use Rattle.rounding.specs.Methods.{total_key}
use Rattle.rounding.proofs.NanTest.{differs, no_nan}
use Rattle.rounding.proofs.methods.total_key.Goals as goal

pub returns-then-x : goal.returns-then-x
unfolding total_key
returns-then-x c = rw (← differs, c.if-x.true)

pub float_to_bits-b : goal.float_to_bits-b
float_to_bits-b c = no_nan c.args.x c.if-x.false

pub overflow_sub-result : goal.overflow_sub-result
overflow_sub-result c = let ok : T (fits binary64 c.args.x) = search rules in omega (arith, to_bits-lt binary64 c.args.x ok)

pub returns-then-b-lt9223372036854775808 : goal.returns-then-b-lt9223372036854775808
unfolding total_key
returns-then-b-lt9223372036854775808 c = rw (← differs, c.if-x.false, lt-ltb _ _ c.if-b-lt9223372036854775808.true)

pub returns-else-b-lt9223372036854775808 : goal.returns-else-b-lt9223372036854775808
unfolding total_key
returns-else-b-lt9223372036854775808 c = rw (← differs, c.if-x.false, le-ltb _ _ c.if-b-lt9223372036854775808.false)
