-- `settle` orders the pairs, offers them, and clears what it used.
use Rattle.std.proofs.Common.{◌+◌, ◌*◌, ◌≤◌, length, refl, arith}
use Rattle.rounding.specs.Arith.{zero64}
use Rattle.pairs.proofs.Lent.{same_on}
use Rattle.lists.proofs.Clearing.{cleared_within}
use Rattle.matching.proofs.Halves.{begin_within}
use Rattle.matching.proofs.Whole.{names_one, settled}
use Rattle.matching.proofs.settle.Goals as goal

pub assign-t-requires : goal.assign-t-requires
assign-t-requires c =
    let a = c.args in
    let n = a.c.now.n in
    let o = c.order-o in
    let k = o.ensures.1 in
    let ld : 2 * n ≤ length o.new.c.distances.now = omega (arith, a.c.now.few, k.same.cap, o.new.c.fits) in
    let li : 4 * n ≤ length o.new.c.indices.now = omega (arith, a.c.now.few, k.same.cap, o.new.c.fits) in
    rw k.many (
      omega (arith, c.requires.0, c.clear.auto.s),
      λ i h.
          omega (
            arith,
            a.n.few,
            names_one a.n.spots a.n.predictions n a.c.now.distances.now a.c.now.indices.now a.work.now _ _ _ _ _ ld li c.requires.1
                (begin_within o.result.half n, rw k.many at o.ensures.0, k.beyond, o.ensures.2) i h,
          ),
    )

pub returns : goal.returns
returns c =
    let a = c.args in
    let n = a.c.now.n in
    let o = c.order-o in
    let k = o.ensures.1 in
    let ld : 2 * n ≤ length o.new.c.distances.now = omega (arith, a.c.now.few, k.same.cap, o.new.c.fits) in
    let li : 4 * n ≤ length o.new.c.indices.now = omega (arith, a.c.now.few, k.same.cap, o.new.c.fits) in
    let marks = a.n.spots + a.n.predictions in
    let lw : marks ≤ length c.assign-t.new.work = omega (arith, c.requires.0, c.assign-t.auto.work, c.clear.auto.s) in (
      same_on k.same
          (record { cap = refl; distances = refl; indices = refl; distances_long = c.clear-3.auto.s; indices_long = c.clear-4.auto.s }),
      rw (
        c.clear-4.ensures,
        c.clear-3.ensures,
        k.many,
        cleared_within 0 (4 * n) o.new.c.indices.now li,
        cleared_within zero64 (2 * n) o.new.c.distances.now ld,
        c.clear-2.ensures,
        c.marks-marked.ensures,
        cleared_within 0 marks c.assign-t.new.work lw,
      )
          (settled a.n.spots a.n.predictions n a.c.now.distances.now a.c.now.indices.now a.work.now _ _ _ _ _ ld li c.requires.1
          (begin_within o.result.half n, rw k.many at o.ensures.0, k.beyond, o.ensures.2) _ _ c.requires.0
          (rw (c.clear.ensures, c.marks-marked.ensures, cleared_within 0 marks a.work.now (omega (arith, c.requires.0)), k.many) at c.assign-t.ensures)),
    )
