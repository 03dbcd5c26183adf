use Rattle.std.proofs.Common.{sym, ◌∙◌}
use Rattle.rounding.proofs.NanTest.{is_nan_lem}
use Rattle.rounding.proofs.bits.canonical.Goals as goal

pub returns-then-is_nan : goal.returns-then-is_nan
returns-then-is_nan g c = c.not_a_number.ensures ∙ is_nan_lem _ (sym c.is_nan.ensures ∙ c.if-is_nan.true)
