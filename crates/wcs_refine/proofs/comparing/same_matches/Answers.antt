-- `comparing::same_matches` meets its contract. The invariants: the table and the new matches to come tell of all new ones; then the present ones to come
-- are to be taken from those that the table still tells of. Assumes nothing.
use Rattle.std.proofs.Common.{◌≡◌, ◌+◌, ◌*◌, arith}
use Rattle.wcs_refine.proofs.TableSteps.{kept_same, no_more, marking, mark_begin, mark_end, mark_within, striking, strike_end, compare_begin, compare_mark, compare_stop, compare_go, compare_lengths}
use Rattle.wcs_refine.proofs.comparing.same_matches.Goals as goal

pub returns-then-at-used : goal.returns-then-at-used
returns-then-at-used c =
    let a = c.args in
    record { answer = compare_lengths a.at.base a.at.n a.at.start a.at.t a.used a.numbers.now c.requires.places c.if-at-used.true; kept = kept_same a.at.base a.at.n a.numbers.now }

pub loop-i-init : goal.loop-i-init
loop-i-init c =
    let a = c.args in
    let e : a.at.start + 2 * 0 ≡ a.at.start = omega arith in
    (omega arith, rw e (mark_begin a.at.base a.at.n a.at.start a.at.t a.used a.numbers.now c.requires))

pub overflow_add-numbers-in-loop-i : goal.overflow_add-numbers-in-loop-i
overflow_add-numbers-in-loop-i c =
    let a = c.args in
    let l = c.loop-i in
    let places = c.requires.places in
    let below = mark_within a.at.base a.at.n a.at.start a.at.t a.used l.numbers a.numbers.now places l.i c.loop-i-test.true _ l.invariant.1 in
    omega (arith, below, places.table, places.fits)

pub offset_bounds-numbers-at-in-loop-i : goal.offset_bounds-numbers-at-in-loop-i
offset_bounds-numbers-at-in-loop-i c =
    let a = c.args in
    let l = c.loop-i in
    let places = c.requires.places in
    let below = mark_within a.at.base a.at.n a.at.start a.at.t a.used l.numbers a.numbers.now places l.i c.loop-i-test.true _ l.invariant.1 in
    omega (arith, below, places.table, places.fits, l.invariant.1.kept.long)

pub bounds-numbers-at-in-loop-i : goal.bounds-numbers-at-in-loop-i
bounds-numbers-at-in-loop-i c =
    let a = c.args in
    let l = c.loop-i in
    let places = c.requires.places in
    let below = mark_within a.at.base a.at.n a.at.start a.at.t a.used l.numbers a.numbers.now places l.i c.loop-i-test.true _ l.invariant.1 in
    omega (arith, below, places.table, places.fits, l.invariant.1.kept.long)

pub loop-i-preserved : goal.loop-i-preserved
loop-i-preserved c =
    let a = c.args in
    let l = c.loop-i in
    (omega arith, compare_mark a.at.base a.at.n a.at.start a.at.t a.used l.numbers a.numbers.now c.requires.places l.i c.loop-i-test.true _ l.invariant.1)

pub loop-j-init : goal.loop-j-init
loop-j-init c =
    let a = c.args in
    let l = c.loop-i in
    let e : l.i ≡ a.at.t = omega (arith, l.invariant.0, c.loop-i-test.false) in
    let m = mark_end a.at.base a.at.n a.at.start a.at.t l.numbers a.numbers.now (marking (no_more a.numbers.now a.at.start l.i a.at.t e) l.invariant.1) in
    (omega arith, l.invariant.1.kept.long, compare_begin a.at.base a.at.n a.at.start a.at.t a.used l.numbers a.numbers.now c.requires m c.if-at-used.false)

pub returns-then-not-strike : goal.returns-then-not-strike
returns-then-not-strike c =
    let a = c.args in
    let w = c.loop-j.invariant.2 in
    let r = compare_stop a.at.base a.at.n a.at.start a.at.t a.used c.loop-j.numbers a.numbers.now c.requires.places c.if-at-used.false c.loop-j.j c.loop-j-test.true w c.strike.ensures.0 c.strike.ensures.1 c.if-not-strike.true in
    record { answer = r.0; kept = r.1 }

pub loop-j-preserved : goal.loop-j-preserved
loop-j-preserved c =
    let a = c.args in
    let w = c.loop-j.invariant.2 in
    let r = compare_go a.at.base a.at.n a.at.start a.at.t a.used c.loop-j.numbers a.numbers.now c.requires.places c.if-at-used.false c.loop-j.j c.loop-j-test.true w c.strike.ensures.0 c.strike.ensures.1 c.if-not-strike.false in
    (omega arith, r.kept.long, r)

pub returns : goal.returns
returns c =
    let a = c.args in
    let w = c.loop-j.invariant.2 in
    let f : c.loop-j.j ≡ a.at.t = omega (arith, c.loop-j.invariant.0, c.loop-j-test.false) in
    record { answer = strike_end a.at.base a.at.n a.at.start a.at.t c.loop-j.numbers a.numbers.now (striking (no_more a.numbers.now 0 c.loop-j.j a.at.t f) w); kept = w.kept }
