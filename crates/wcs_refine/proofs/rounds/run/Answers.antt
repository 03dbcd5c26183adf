-- `wcs_refine::rounds::run` meets its contract. The invariant: the rounds that are left, with the counts so far, give the whole. Assumes nothing.
use Rattle.std.proofs.Common.{arith}
use Rattle.std.specs.Prelude.{Ok, Err}
use Rattle.entry.specs.Entry.{fixed_of}
use Rattle.wcs_refine.specs.Keeping.{state_of, RanTo}
use Rattle.wcs_refine.proofs.Along.{hands_on}
use Rattle.wcs_refine.proofs.Lent.{same_on}
use Rattle.wcs_refine.proofs.RunSteps.{turn_passes, turn_queries, turn_refused, turn_on, turn_ends, on_course, rounds_end, ran}
use Rattle.wcs_refine.proofs.rounds.run.Goals as goal

pub returns-in_err-found : goal.returns-in_err-found
returns-in_err-found c =
    let w = c.args.w.now in
    let l = c.loop-turn in
    let o = c.in_err-found.ensures in
    let round = on_course w.course l.w.course (state_of c.one_round.new.w) (state_of l.w) (Err _) l.invariant.3.course o.1 in (
      same_on l.invariant.3 o.0,
      hands_on (RanTo (state_of c.one_round.new.w) _) _ c.from_residual.ensures.1 (turn_refused w.course.k w.course.spots.now w.course.directions.now (state_of l.w) c.args.rounds l._turn l.counts c.loop-turn-test.true l.invariant.4 round),
    )

pub overflow_add-counts-in-loop-turn : goal.overflow_add-counts-in-loop-turn
overflow_add-counts-in-loop-turn c =
    let w = c.args.w.now in
    let l = c.loop-turn in
    let o = c.in_ok-found in
    let round = on_course w.course l.w.course (state_of c.one_round.new.w) (state_of l.w) (Ok o.field-0) l.invariant.3.course o.ensures.1 in
    omega (arith, c.requires, c.loop-turn-test.true, l.invariant.1, turn_passes w.course.k w.course.spots.now w.course.directions.now (state_of l.w) _ o.field-0 round)

pub overflow_add-counts-in-loop-turn-2 : goal.overflow_add-counts-in-loop-turn-2
overflow_add-counts-in-loop-turn-2 c =
    let w = c.args.w.now in
    let l = c.loop-turn in
    let o = c.in_ok-found in
    let round = on_course w.course l.w.course (state_of c.one_round.new.w) (state_of l.w) (Ok o.field-0) l.invariant.3.course o.ensures.1 in
    omega (arith, c.requires, c.loop-turn-test.true, l.invariant.2, turn_queries w.course.k w.course.spots.now w.course.directions.now (state_of l.w) _ o.field-0 round)

pub returns-then-found : goal.returns-then-found
returns-then-found c =
    let w = c.args.w.now in
    let l = c.loop-turn in
    let o = c.in_ok-found in
    let round = on_course w.course l.w.course (state_of c.one_round.new.w) (state_of l.w) (Ok o.field-0) l.invariant.3.course o.ensures.1 in (
      same_on l.invariant.3 o.ensures.0,
      ran (turn_ends w.course.k w.course.spots.now w.course.directions.now (state_of l.w) c.args.rounds l._turn l.counts c.loop-turn-test.true l.invariant.4 _ o.field-0 round c.max.ensures c.if-found.true),
    )

pub loop-turn-preserved : goal.loop-turn-preserved
loop-turn-preserved c =
    let w = c.args.w.now in
    let l = c.loop-turn in
    let o = c.in_ok-found in
    let round = on_course w.course l.w.course (state_of c.one_round.new.w) (state_of l.w) (Ok o.field-0) l.invariant.3.course o.ensures.1 in (
      omega (arith, l.invariant.0),
      omega (arith, l.invariant.1, turn_passes w.course.k w.course.spots.now w.course.directions.now (state_of l.w) _ o.field-0 round),
      omega (arith, l.invariant.2, turn_queries w.course.k w.course.spots.now w.course.directions.now (state_of l.w) _ o.field-0 round),
      same_on l.invariant.3 o.ensures.0,
      turn_on w.course.k w.course.spots.now w.course.directions.now (state_of l.w) c.args.rounds l._turn l.counts c.loop-turn-test.true l.invariant.4 _ o.field-0 round c.max.ensures c.if-found.false,
    )

pub returns : goal.returns
returns c =
    let w = c.args.w.now in
    let l = c.loop-turn in (
      l.invariant.3,
      ran (rounds_end (fixed_of w.course.k) w.course.spots.now w.course.directions.now c.args.rounds (state_of l.w) l._turn l.counts
          c.loop-turn-test.false l.invariant.4),
    )
