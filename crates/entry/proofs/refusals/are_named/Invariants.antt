use Prim.Native.Nat.{◌*◌}
use mathlib.Core.Path.{◌≡◌}
use lib.ListN.{drop}
use Rattle.entry.specs.Check.{named}
use Rattle.entry.proofs.refusals.are_named.Given as goal

-- all matches name something where the rest do
abbrev pub invariant-loop-spot : goal.invariant-loop-spot
invariant-loop-spot l = named l.spots l.directions l.matches ≡ named l.spots l.directions (drop (2 * l.spot-index) l.matches)
