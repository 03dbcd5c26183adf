-- `associating::find` meets its contract: the matcher's matches, renamed, stand in their region. Assumes nothing.
use Rattle.std.proofs.Common.{sym, ap, ◌∙◌, take, drop, take_at, drop_at, ◌≡◌, ◌+◌, ◌*◌, ◌/◌, ◌≤◌, length, refl, arith, rules}
use Rattle.rounding.specs.Arith.{◌⊗◌}
use Rattle.pairs.specs.Pairs.{spots_within}
use Rattle.wcs_refine.specs.Keeping.{points_at}
use Rattle.wcs_refine.specs.Comparing.{FoundTo}
use Rattle.wcs_refine.proofs.Along.{hands_on}
use Rattle.wcs_refine.proofs.FindSteps.{at_many, on_points, too_many_pairs, not_over, count_is, compared_is, reach, long, found_beside}
use Rattle.wcs_refine.proofs.associating.find.Goals as goal

pub returns-in_err-count : goal.returns-in_err-count
returns-in_err-count c =
    let a = c.args in
    let p = points_at a.w.now.course.room a.spots a.w.now.floats.now in
    let fits : 4 * a.w.now.course.room + 2 * a.spots ≤ length a.w.now.floats.now = omega (arith, c.requires, a.w.now.far) in
    let few : length p / 2 + a.q ≤ a.w.now.course.room = omega (arith, at_many a.w.now.course.room a.spots a.w.now.floats.now fits, c.requires) in
    let did = on_points a.w.now.course.room a.spots a.w.now.floats.now fits a.w.now.course.k.matcher a.w.now.course.k.limit _ (a.r ⊗ a.r) a.w.now.distances.now a.w.now.indices.now _ c.matched-m.ensures in
    let over = too_many_pairs a.w.now.course.k.matcher a.w.now.course.room a.q p a.w.now.course.k.limit a.w.now.floats.now (a.r ⊗ a.r) a.w.now.distances.now a.w.now.indices.now a.w.now.numbers.now few a.w.now.many a.w.now.far did c.in_err-count.was in (
      search rules,
      refl,
      hands_on (FoundTo a.w.now.course.k.matcher a.w.now.course.room a.q p a.w.now.course.k.limit a.r a.w.now.floats.now a.w.now.distances.now a.w.now.indices.now a.w.now.numbers.now _) _ c.from_residual.ensures.1
          (record { full = over.0; refusal = over.1; found = tt }),
    )

pub overflow_mul-count : goal.overflow_mul-count
overflow_mul-count c =
    let a = c.args in
    let p = points_at a.w.now.course.room a.spots a.w.now.floats.now in
    let fits : 4 * a.w.now.course.room + 2 * a.spots ≤ length a.w.now.floats.now = omega (arith, c.requires, a.w.now.far) in
    let few : length p / 2 + a.q ≤ a.w.now.course.room = omega (arith, at_many a.w.now.course.room a.spots a.w.now.floats.now fits, c.requires) in
    let did = on_points a.w.now.course.room a.spots a.w.now.floats.now fits a.w.now.course.k.matcher a.w.now.course.k.limit _ (a.r ⊗ a.r) a.w.now.distances.now a.w.now.indices.now _ c.matched-m.ensures in
    let within : c.min-within.result ≡ spots_within p a.w.now.course.k.limit =
    omega (arith, c.min-within.ensures, at_many a.w.now.course.room a.spots a.w.now.floats.now fits) in
    let is = c.in_ok-count.was in
    let r = reach a.w.now.course.k.matcher a.w.now.course.room a.q p a.w.now.course.k.limit a.w.now.floats.now (a.r ⊗ a.r) a.w.now.distances.now a.w.now.indices.now a.w.now.numbers.now few a.w.now.many a.w.now.far did is c.matched-m.auto.work in
    let l = long a.w.now.course.k.matcher a.w.now.course.room a.q p a.w.now.course.k.limit a.w.now.floats.now (a.r ⊗ a.r) a.w.now.distances.now a.w.now.indices.now a.w.now.numbers.now few a.w.now.many a.w.now.far did is c.matched-m.auto.work refl in
    omega (arith, r, a.w.now.many, c.ranges)

pub overflow_add-placed-3 : goal.overflow_add-placed-3
overflow_add-placed-3 c =
    let a = c.args in
    let p = points_at a.w.now.course.room a.spots a.w.now.floats.now in
    let fits : 4 * a.w.now.course.room + 2 * a.spots ≤ length a.w.now.floats.now = omega (arith, c.requires, a.w.now.far) in
    let few : length p / 2 + a.q ≤ a.w.now.course.room = omega (arith, at_many a.w.now.course.room a.spots a.w.now.floats.now fits, c.requires) in
    let did = on_points a.w.now.course.room a.spots a.w.now.floats.now fits a.w.now.course.k.matcher a.w.now.course.k.limit _ (a.r ⊗ a.r) a.w.now.distances.now a.w.now.indices.now _ c.matched-m.ensures in
    let within : c.min-within.result ≡ spots_within p a.w.now.course.k.limit =
    omega (arith, c.min-within.ensures, at_many a.w.now.course.room a.spots a.w.now.floats.now fits) in
    let is = c.in_ok-count.was in
    let r = reach a.w.now.course.k.matcher a.w.now.course.room a.q p a.w.now.course.k.limit a.w.now.floats.now (a.r ⊗ a.r) a.w.now.distances.now a.w.now.indices.now a.w.now.numbers.now few a.w.now.many a.w.now.far did is c.matched-m.auto.work in
    let l = long a.w.now.course.k.matcher a.w.now.course.room a.q p a.w.now.course.k.limit a.w.now.floats.now (a.r ⊗ a.r) a.w.now.distances.now a.w.now.indices.now a.w.now.numbers.now few a.w.now.many a.w.now.far did is c.matched-m.auto.work refl in
    omega (arith, r, within, a.w.now.many)

pub slice_bounds-renamed_into-end-2 : goal.slice_bounds-renamed_into-end-2
slice_bounds-renamed_into-end-2 c =
    let a = c.args in
    let p = points_at a.w.now.course.room a.spots a.w.now.floats.now in
    let fits : 4 * a.w.now.course.room + 2 * a.spots ≤ length a.w.now.floats.now = omega (arith, c.requires, a.w.now.far) in
    let few : length p / 2 + a.q ≤ a.w.now.course.room = omega (arith, at_many a.w.now.course.room a.spots a.w.now.floats.now fits, c.requires) in
    let did = on_points a.w.now.course.room a.spots a.w.now.floats.now fits a.w.now.course.k.matcher a.w.now.course.k.limit _ (a.r ⊗ a.r) a.w.now.distances.now a.w.now.indices.now _ c.matched-m.ensures in
    let within : c.min-within.result ≡ spots_within p a.w.now.course.k.limit =
    omega (arith, c.min-within.ensures, at_many a.w.now.course.room a.spots a.w.now.floats.now fits) in
    let is = c.in_ok-count.was in
    let r = reach a.w.now.course.k.matcher a.w.now.course.room a.q p a.w.now.course.k.limit a.w.now.floats.now (a.r ⊗ a.r) a.w.now.distances.now a.w.now.indices.now a.w.now.numbers.now few a.w.now.many a.w.now.far did is c.matched-m.auto.work in
    let l = long a.w.now.course.k.matcher a.w.now.course.room a.q p a.w.now.course.k.limit a.w.now.floats.now (a.r ⊗ a.r) a.w.now.distances.now a.w.now.indices.now a.w.now.numbers.now few a.w.now.many a.w.now.far did is c.matched-m.auto.work refl in
    omega (arith, r, l, within, a.w.now.many)

pub returns : goal.returns
returns c =
    let a = c.args in
    let p = points_at a.w.now.course.room a.spots a.w.now.floats.now in
    let fits : 4 * a.w.now.course.room + 2 * a.spots ≤ length a.w.now.floats.now = omega (arith, c.requires, a.w.now.far) in
    let few : length p / 2 + a.q ≤ a.w.now.course.room = omega (arith, at_many a.w.now.course.room a.spots a.w.now.floats.now fits, c.requires) in
    let did = on_points a.w.now.course.room a.spots a.w.now.floats.now fits a.w.now.course.k.matcher a.w.now.course.k.limit _ (a.r ⊗ a.r) a.w.now.distances.now a.w.now.indices.now _ c.matched-m.ensures in
    let within : c.min-within.result ≡ spots_within p a.w.now.course.k.limit =
    omega (arith, c.min-within.ensures, at_many a.w.now.course.room a.spots a.w.now.floats.now fits) in
    let is = c.in_ok-count.was in
    let split = c.split_at_mut-read.ensures in
    let r0 = ap (take (8 * a.w.now.course.room)) split.value ∙ take_at _ _ (8 * a.w.now.course.room) split.front_len in
    let r1 = ap (drop (8 * a.w.now.course.room)) split.value ∙ drop_at _ _ (8 * a.w.now.course.room) split.front_len in (
      search rules,
      refl,
      record {
        full = not_over a.w.now.course.k.matcher a.w.now.course.room a.q p a.w.now.course.k.limit a.w.now.floats.now (a.r ⊗ a.r) a.w.now.distances.now a.w.now.indices.now a.w.now.numbers.now few a.w.now.many a.w.now.far did is c.matched-m.auto.work;
        refusal = tt;
        found = record {
          within = within;
          comparisons = compared_is a.w.now.course.k.matcher a.w.now.course.room a.q p a.w.now.course.k.limit a.w.now.floats.now (a.r ⊗ a.r) a.w.now.distances.now a.w.now.indices.now a.w.now.numbers.now few a.w.now.many a.w.now.far did is c.matched-m.auto.work;
          count = count_is a.w.now.course.k.matcher a.w.now.course.room a.q p a.w.now.course.k.limit a.w.now.floats.now (a.r ⊗ a.r) a.w.now.distances.now a.w.now.indices.now a.w.now.numbers.now few a.w.now.many a.w.now.far did is c.matched-m.auto.work;
          there = found_beside a.w.now.course.k.matcher a.w.now.course.room a.q p a.w.now.course.k.limit a.w.now.floats.now (a.r ⊗ a.r) a.w.now.distances.now a.w.now.indices.now a.w.now.numbers.now few a.w.now.many a.w.now.far did is c.matched-m.auto.work refl r0 within (rw (sym r1) at c.renamed_into.auto.new) (rw (sym r0, sym r1) at c.renamed_into.ensures);
        };
      },
    )
