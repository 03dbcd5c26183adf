-- Each spot is scanned in its turn.
use Rattle.std.proofs.Common.{◌∙◌}
use Rattle.scanning.proofs.Sifting.{scan_gone, scan_found, scan_none, all_scanned}
use Rattle.scanning.proofs.scan.closest.Goals as goal
use Rattle.scanning.proofs.scan.closest.Goals.{then-work-i-ne-GONE+in-Some, then-work-i-ne-GONE+in-None, else-work-i-ne-GONE}

pub loop-i-preserved : goal.loop-i-preserved
loop-i-preserved c =
    let l = c.loop-i in
    elim c.if-work-i-ne-GONE.branch [
      | then-work-i-ne-GONE+in-Some w ↦
          rw (w.work-is, w.best-is ∙ w.closer-best.ensures)
          (scan_found c.args.s c.args.work.now l.work l.i l.best l.invariant c.loop-i-test.true w.nearest.new.work w.in-Some.ensures.1
          w.in-Some.n w.in-Some.ensures.0)
      | then-work-i-ne-GONE+in-None w ↦
          rw (w.work-is, w.best-is)
          (scan_none c.args.s c.args.work.now l.work l.i l.best l.invariant c.loop-i-test.true w.nearest.new.work w.in-None.ensures.1
          c.requires w.in-None.ensures.0)
      | else-work-i-ne-GONE w ↦ rw (w.work-is, w.best-is) (scan_gone c.args.s c.args.work.now l.work l.i l.best l.invariant w.if-work-i-ne-GONE.false)
    ]

pub returns : goal.returns
returns c =
    all_scanned c.args.s c.args.work.now c.loop-i.work c.loop-i.i c.loop-i.best c.loop-i.invariant c.loop-i-test.false c.settle.new.work c.settle.ensures
