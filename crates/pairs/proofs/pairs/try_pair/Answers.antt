-- The pair is pushed, or passed over.
use Rattle.std.proofs.Common.{sym, refl, arith, length-set}
use Rattle.pairs.specs.Pairs.{within}
use Rattle.pairs.specs.Candidates.{pair, pushed}
use Rattle.pairs.proofs.Pushing.{push_fits, push_full}
use Rattle.pairs.specs.Lent.{how_many}
use Rattle.pairs.proofs.Lent.{same_self}
use Rattle.pairs.proofs.pairs.try_pair.Goals as goal

pub returns-then-c-n : goal.returns-then-c-n
unfolding within pushed how_many
returns-then-c-n c =
    let a = c.args in
    rw c.if-d2-radius_sq.true
    (record {
      same = same_self _;
      pairs = sym (push_full a.c.now.cap a.c.now.n a.c.now.distances.now a.c.now.indices.now (pair _ a.spot a.prediction) c.if-c-n.true);
      full = omega (arith, c.if-c-n.true, a.c.now.few);
    })

pub returns-else-c-n : goal.returns-else-c-n
unfolding within pushed how_many
returns-else-c-n c =
    let a = c.args in
    rw c.if-d2-radius_sq.true
    (record {
      same = record { cap = refl; distances = refl; indices = refl; distances_long = simp length-set; indices_long = simp length-set };
      pairs = sym (push_fits a.c.now.cap a.c.now.n a.c.now.distances.now a.c.now.indices.now (pair _ a.spot a.prediction) c.if-c-n.false);
      full = tt;
    })
