-- The sign is the top bit.
use Rattle.std.proofs.Common.{◌≡◌, T, refl, rules}
use lib.Dec.{leb}
use lib.Ieee.{Float, nan, inf, fin, binary64, fits, to_bits, top, is_nan}
use Rattle.rounding.specs.Methods.{negative}
use Rattle.rounding.proofs.Magnitude.{sign_bit}
use Rattle.rounding.proofs.methods.is_negative.Goals as goal

signed : (x : Float) → T (fits binary64 x) → leb (top binary64) (to_bits binary64 x) ≡ negative x
unfolding is_nan
signed nan held = unfold to_bits negative in refl
signed (inf s) held = sign_bit binary64 (inf s) held tt
signed (fin s m e) held = sign_bit binary64 (fin s m e) held tt

pub returns : goal.returns
returns c = let held : T (fits binary64 c.args.x) = search rules in rw c.to_bits.ensures (signed c.args.x held)
