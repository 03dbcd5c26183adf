-- `associating::associate` meets its contract: refused, the state as it came, or with the new matches. Assumes nothing.
use Rattle.std.proofs.Common.{ℕ, ◌+◌, ◌*◌, ◌/◌, ◌≤◌, length, arith, rules}
use Rattle.wcs_refine.specs.Keeping.{state_of, points_at, AssociatedTo}
use Rattle.wcs_refine.specs.declared.working.Working.{Working}
use Rattle.wcs_refine.proofs.Along.{hands_on}
use Rattle.wcs_refine.proofs.Lent.{same_on, fits_of}
use Rattle.wcs_refine.proofs.FindSteps.{at_many}
use Rattle.wcs_refine.proofs.AssociateSteps.{refused, too_few, can_compare, not_new, taken}
use Rattle.wcs_refine.proofs.associating.associate.Goals as goal
use Rattle.wcs_refine.proofs.associating.associate.Goals.{then-count-lt-FEWEST-via-then-count-lt-FEWEST, then-count-lt-FEWEST-via-else-count-lt-FEWEST+then-same_matches}

few : (w : Working) (q spots : ℕ) → spots + q ≤ w.course.room → length (points_at w.course.room spots w.floats.now) / 2 + q ≤ w.course.room
few w q spots h =
    let fits : 4 * w.course.room + 2 * spots ≤ length w.floats.now = omega (arith, h, w.far) in
    omega (arith, h, at_many w.course.room spots w.floats.now fits)

pub returns-in_err-within : goal.returns-in_err-within
returns-in_err-within c =
    let a = c.args in
    let f = c.find.ensures in
    let left = state_of c.find.new.w in (
      f.0,
      hands_on (AssociatedTo a.w.now.course.k a.w.now.course.room (points_at a.w.now.course.room a.spots a.w.now.floats.now) a.w.now.held a.r a.q a.w.now.numbers.now a.w.now.floats.now left) _ c.from_residual.ensures.1
          (refused a.w.now.course.k a.w.now.course.room a.q (points_at a.w.now.course.room a.spots a.w.now.floats.now) a.w.now.floats.now a.w.now.distances.now a.w.now.indices.now a.w.now.numbers.now a.w.now.held a.r _ c.find.result a.w.now.capacity (few a.w.now a.q a.spots c.requires) a.w.now.many (fits_of a.w.now) (omega (arith, a.w.now.course.fits)) f.2 left c.in_err-within.was),
    )

pub same_matches-requires : goal.same_matches-requires
same_matches-requires c =
    let a = c.args in
    let f = c.find.ensures in
    rw (f.0.course, f.1) (can_compare a.w.now.course.k a.w.now.course.room a.q (points_at a.w.now.course.room a.spots a.w.now.floats.now) a.w.now.floats.now a.w.now.distances.now a.w.now.indices.now a.w.now.numbers.now a.w.now.held a.r _ c.find.result a.w.now.capacity (few a.w.now a.q a.spots c.requires) a.w.now.many (fits_of a.w.now) (omega (arith, a.w.now.course.fits)) f.2 _ c.in_ok-within.was)

pub returns-then-count-lt-FEWEST : goal.returns-then-count-lt-FEWEST
returns-then-count-lt-FEWEST c =
    let a = c.args in
    let f = c.find.ensures in
    elim c.then-count-lt-FEWEST.branch [
      | then-count-lt-FEWEST-via-then-count-lt-FEWEST w ↦ rw w.w-is
          (f.0, rw (f.0.course, f.1) (too_few a.w.now.course.k a.w.now.course.room a.q (points_at a.w.now.course.room a.spots a.w.now.floats.now) a.w.now.floats.now a.w.now.distances.now a.w.now.indices.now a.w.now.numbers.now a.w.now.held a.r _ c.find.result a.w.now.capacity (few a.w.now a.q a.spots c.requires) a.w.now.many (fits_of a.w.now) (omega (arith, a.w.now.course.fits)) f.2 _ c.in_ok-within.was w.if-count-lt-FEWEST.true))
      | then-count-lt-FEWEST-via-else-count-lt-FEWEST+then-same_matches w ↦ rw w.w-is
          (same_on f.0 (search rules), rw (f.0.course, f.1) (not_new a.w.now.course.k a.w.now.course.room a.q (points_at a.w.now.course.room a.spots a.w.now.floats.now) a.w.now.floats.now a.w.now.distances.now a.w.now.indices.now a.w.now.numbers.now a.w.now.held a.r _ c.find.result a.w.now.capacity (few a.w.now a.q a.spots c.requires) a.w.now.many (fits_of a.w.now) (omega (arith, a.w.now.course.fits)) f.2 _ c.in_ok-within.was (rw (f.0.course, f.1) at w.same_matches.ensures) w.if-same_matches.true))
    ]

pub returns : goal.returns
returns c =
    let a = c.args in
    let f = c.find.ensures in (
      same_on f.0 (search rules),
      rw (f.0.course, f.1)
          (taken a.w.now.course.k a.w.now.course.room a.q (points_at a.w.now.course.room a.spots a.w.now.floats.now) a.w.now.floats.now a.w.now.distances.now a.w.now.indices.now a.w.now.numbers.now a.w.now.held a.r _ c.find.result a.w.now.capacity (few a.w.now a.q a.spots c.requires) a.w.now.many (fits_of a.w.now) (omega (arith, a.w.now.course.fits)) f.2 _ c.in_ok-within.was
          (rw (f.0.course, f.1) at c.same_matches.ensures) c.if-same_matches.false c.if-count-lt-FEWEST.false (rw f.0.course at c.bring_forward.ensures)),
    )
