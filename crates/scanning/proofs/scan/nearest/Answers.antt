-- Each prediction is looked at in its turn.
use Rattle.std.proofs.Common.{refl, ◌∙◌}
use Rattle.pairs.specs.Pairs.{point_at, squared}
use Rattle.matching.specs.Meaning.{apart}
use Rattle.scanning.specs.Seeking.{frame_of}
use Rattle.scanning.proofs.Looking.{match, look_gone, look_far, look_near}
use Rattle.scanning.proofs.scan.nearest.Goals as goal
use Rattle.scanning.proofs.scan.nearest.Goals.{then-work-s-ne-GONE+then-d2-s, then-work-s-ne-GONE+else-d2-s, else-work-s-ne-GONE}

pub loop-j-preserved : goal.loop-j-preserved
unfolding squared point_at
loop-j-preserved c =
    let s = c.args.s in
    let l = c.loop-j in
    elim c.if-work-s-ne-GONE.branch [
      | then-work-s-ne-GONE+then-d2-s w ↦
          rw (w.work-is, w.best-is ∙ w.closer-best.ensures)
          (look_near s c.args.spot c.args.work.now l.work l.j l.best l.invariant w.if-work-s-ne-GONE.true c.requires.1 c.loop-j-test.true c.requires.0 c.requires.2
          (apart (frame_of s) (match c.args.spot l.j)) refl w.if-d2-s.true)
      | then-work-s-ne-GONE+else-d2-s w ↦
          rw (w.work-is, w.best-is) (look_far s c.args.spot c.args.work.now l.work l.j l.best l.invariant w.if-work-s-ne-GONE.true w.if-d2-s.false)
      | else-work-s-ne-GONE w ↦ rw (w.work-is, w.best-is) (look_gone s c.args.spot c.args.work.now l.work l.j l.best l.invariant w.if-work-s-ne-GONE.false)
    ]
