-- What an equation of floats opens when the check computes it. Definitions only. Assumes nothing.
use Rattle.std.specs.Prelude.{Float}
use Rattle.std.specs.Float.Ieee.{add, sub, mul, div, neg, lt, le, eq, is_nan, of_fields, of_bits, to_bits, of_int, to_unsigned, round, sum, units, odd, size, span, climb}
use Rattle.rounding.specs.Root.{root, root_of, place, whole_root, root_digits}
use Rattle.rounding.specs.Narrow.{narrowed}
use Rattle.rounding.specs.Methods.{abs_f, negative, is_finite, total_key, total_le}

-- Named on an `unfolding` line, this opens the arithmetic of floats. An equation that is to be computed needs it beside its own definitions.
unfoldable pub arithmetic : Float → Float
unfolding root root_of place whole_root root_digits narrowed abs_f negative is_finite total_key total_le
    add sub mul div neg lt le eq is_nan round sum units odd size span climb of_fields of_bits to_bits of_int to_unsigned
arithmetic x = x
