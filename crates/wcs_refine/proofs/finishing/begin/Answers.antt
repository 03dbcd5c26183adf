-- `finishing::begin` meets its contract. Assumes nothing.
use Rattle.std.proofs.Common.{refl}
use Rattle.wcs_refine.proofs.CallEnds.{begin_state}
use Rattle.wcs_refine.proofs.finishing.begin.Goals as goal

pub returns : goal.returns
returns c =
    let a = c.args in
    record {
      state = λ n. begin_state a.matches.now a.numbers.now _ _ _ c.lay_over.ensures c.requires.1 c.start_pose.ensures _ _ _;
      used = refl;
      cached = refl;
    }
