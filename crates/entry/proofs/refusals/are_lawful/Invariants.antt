use mathlib.Core.Path.{◌≡◌}
use lib.ListN.{drop}
use Rattle.entry.specs.Check.{lawful_component, every}
use Rattle.entry.proofs.refusals.are_lawful.Given as goal

-- the whole list is lawful where the rest is
abbrev pub invariant-loop-x : goal.invariant-loop-x
invariant-loop-x l = every lawful_component l.components ≡ every lawful_component (drop l.x-index l.components)
