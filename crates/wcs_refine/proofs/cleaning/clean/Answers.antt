-- `wcs_refine::cleaning::clean` meets its contract. The invariant: the clips that are left, on what is left, give the whole. Assumes nothing.
use Rattle.std.proofs.Common.{◌≡◌, ◌-◌, ◌*◌, ◌≤◌, ◌++◌, length, take, drop, arith}
use Rattle.wcs_refine.specs.Cleaning.{CleanedTo}
use Rattle.wcs_refine.proofs.Along.{hands_on}
use Rattle.wcs_refine.proofs.CleanSteps.{turn_fewer, turn_length, turn_ends, turn_unsound, turn_on, turns_end}
use Rattle.wcs_refine.proofs.cleaning.clean.Goals as goal

pub returns-in_default : goal.returns-in_default
returns-in_default c =
    let a = c.args in
    let l = c.loop-turn in
    let fits : 2 * l.n ≤ length l.matches = omega (arith, l.invariant, c.requires) in
    let whole : 2 * l.n - 0 ≡ 2 * l.n = omega arith in
    record { fewer = l.invariant.0; refusal = tt; closed = turn_ends a.course.now.k.cut a.course.now.spots.now a.course.now.directions.now l.p l.matches l.n (2 * l.n - 0) l._turn _ l.invariant.3 c.loop-turn-test.true fits whole c.clip_once.ensures c.clip_once.auto.matches c.in_default.is }

pub overflow_mul-k : goal.overflow_mul-k
overflow_mul-k c =
    let a = c.args in
    let l = c.loop-turn in
    let fits : 2 * l.n ≤ length l.matches = omega (arith, l.invariant, c.requires) in
    let whole : 2 * l.n - 0 ≡ 2 * l.n = omega arith in
    omega (arith, turn_fewer a.course.now.k.cut a.course.now.spots.now a.course.now.directions.now l.p l.matches l.n (2 * l.n - 0) l._turn _ l.invariant.3 c.loop-turn-test.true fits whole c.clip_once.ensures c.clip_once.auto.matches _ c.in-Some.is)

pub slice_bounds-refit-end : goal.slice_bounds-refit-end
slice_bounds-refit-end c =
    let a = c.args in
    let l = c.loop-turn in
    let fits : 2 * l.n ≤ length l.matches = omega (arith, l.invariant, c.requires) in
    let whole : 2 * l.n - 0 ≡ 2 * l.n = omega arith in
    omega (arith, turn_fewer a.course.now.k.cut a.course.now.spots.now a.course.now.directions.now l.p l.matches l.n (2 * l.n - 0) l._turn _ l.invariant.3 c.loop-turn-test.true fits whole c.clip_once.ensures c.clip_once.auto.matches _ c.in-Some.is, turn_length a.course.now.k.cut a.course.now.spots.now a.course.now.directions.now l.p l.matches l.n (2 * l.n - 0) l._turn _ l.invariant.3 c.loop-turn-test.true fits whole c.clip_once.ensures c.clip_once.auto.matches)

pub returns-in_err-p : goal.returns-in_err-p
returns-in_err-p c =
    let a = c.args in
    let l = c.loop-turn in
    let fits : 2 * l.n ≤ length l.matches = omega (arith, l.invariant, c.requires) in
    let whole : 2 * l.n - 0 ≡ 2 * l.n = omega arith in
    let k = c.in-Some.k in
    let double : 2 * k - 0 ≡ 2 * k = omega arith in
    hands_on (CleanedTo a.course.now.k.cut a.course.now.spots.now a.course.now.directions.now a.pose a.used a.matches.now (c.clip_once.new.matches ++ drop (2 * l.n - 0) l.matches)) _ c.from_residual.ensures.1
    (record {
      fewer = tt;
      refusal = c.in_err-p.ensures.0;
      closed = turn_unsound a.course.now.k.cut a.course.now.spots.now a.course.now.directions.now l.p l.matches l.n (2 * l.n - 0) l._turn _ l.invariant.3 c.loop-turn-test.true fits whole c.clip_once.ensures c.clip_once.auto.matches k (2 * k - 0) _ c.in-Some.is double c.refit.ensures.1 c.in_err-p.was;
    })

pub loop-turn-preserved : goal.loop-turn-preserved
loop-turn-preserved c =
    let a = c.args in
    let l = c.loop-turn in
    let fits : 2 * l.n ≤ length l.matches = omega (arith, l.invariant, c.requires) in
    let whole : 2 * l.n - 0 ≡ 2 * l.n = omega arith in
    let k = c.in-Some.k in
    let double : 2 * k - 0 ≡ 2 * k = omega arith in (
      omega (arith, turn_fewer a.course.now.k.cut a.course.now.spots.now a.course.now.directions.now l.p l.matches l.n (2 * l.n - 0) l._turn _ l.invariant.3 c.loop-turn-test.true fits whole c.clip_once.ensures c.clip_once.auto.matches k c.in-Some.is, l.invariant.0),
      omega (arith, turn_length a.course.now.k.cut a.course.now.spots.now a.course.now.directions.now l.p l.matches l.n (2 * l.n - 0) l._turn _ l.invariant.3 c.loop-turn-test.true fits whole c.clip_once.ensures c.clip_once.auto.matches, l.invariant.1),
      omega (arith, c.clip_once.auto, l.invariant.2),
      turn_on a.course.now.k.cut a.course.now.spots.now a.course.now.directions.now l.p l.matches l.n (2 * l.n - 0) l._turn _ l.invariant.3 c.loop-turn-test.true fits whole c.clip_once.ensures c.clip_once.auto.matches k (2 * k - 0) _ c.in-Some.is double c.refit.ensures.1 _ c.in_ok-p.was,
    )

pub returns : goal.returns
returns c =
    let a = c.args in
    let l = c.loop-turn in
    record { fewer = l.invariant.0; refusal = tt; closed = λ k w. turns_end a.course.now.spots.now a.course.now.directions.now l.p (take (2 * l.n) l.matches) l._turn k c.loop-turn-test.false (l.invariant.3 k w) }
