use Rattle.rounding.specs.Arith.{◌⊖◌}
use Rattle.rounding.specs.Methods.{abs_f}
use Rattle.stats.proofs.Fronts.{Fronted}
use Rattle.stats.proofs.deviate.Given as goal

abbrev pub invariant-loop-x : goal.invariant-loop-x
invariant-loop-x l = Fronted (λ x. abs_f (x ⊖ l.m)) l.fn.vals l.x-items l.x-index
