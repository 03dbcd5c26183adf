-- `refusal_of` meets its contract: the first stage that refuses is the answer.
use mathlib.Core.Path.{refl}
use Rattle.entry.specs.Check.{names_refused, refusal_of}
use Rattle.entry.proofs.Stages.{goes}
use Rattle.entry.proofs.refusals.refusal_of.Goals as goal

pub returns : goal.returns
unfolding refusal_of names_refused
returns c =
    let n = c.in_ok-n.ensures.counts in
    goes _ _ c.in_ok-n.ensures.number refl
    (goes _ _ c.in_ok-measures.ensures refl
    (goes _ _ c.in_ok-numerals.ensures refl (goes _ _ c.in_ok-weights.ensures refl (rw (← n.0, ← n.1, ← n.2) c.names.ensures))))
