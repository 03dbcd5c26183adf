-- Each mark is put right in its turn.
use Rattle.std.proofs.Common.{◌+◌, sym, ◌∙◌, le_refl}
use Rattle.std.proofs.lemmas.Bool.{cond-true, cond-false, eq-eqb, ne_eqb}
use Rattle.scanning.specs.Seeking.{predictions, seen}
use Rattle.scanning.proofs.Marking.{mark_put}
use Rattle.scanning.proofs.scan.settle.Goals as goal
use Rattle.scanning.proofs.scan.settle.Goals.{then-work-s-eq-SEEN, else-work-s-eq-SEEN}

pub loop-j-preserved : goal.loop-j-preserved
loop-j-preserved c =
    let s = c.args.s in
    let i = s.np + c.loop-j.j in
    let same = c.loop-j.invariant.rest c.loop-j.j (le_refl _) in
    mark_put s.np (predictions s) _ c.args.work.now c.loop-j.work c.loop-j.j c.loop-j.invariant c.requires c.loop-j-test.true _
    (elim c.if-work-s-eq-SEEN.branch [
      | then-work-s-eq-SEEN w ↦ w.work-is ∙ sym (cond-true (seen c.args.work.now i) 0 1 (eq-eqb _ 2 (sym same ∙ w.if-work-s-eq-SEEN.true)))
      | else-work-s-eq-SEEN w ↦ w.work-is ∙ sym (cond-false (seen c.args.work.now i) 0 1 (ne_eqb _ 2 (λ e. w.if-work-s-eq-SEEN.false (same ∙ e))))
    ])
