-- What a call that passes the checks keeps to. Assumes nothing.
use Rattle.std.proofs.Common.{◌≡◌, ℕ, ◌%◌, ◌≤◌, true, ◌&&◌, eqb, leb, length, arith, eqb-true, leb-true}
use Rattle.panel.specs.Spots.{spot_numbers}
use Rattle.entry.specs.Arguments.{Call, spot_count, match_count, direction_count, work_places, result_places}
use Rattle.entry.specs.Check.{divides, few, numbers_fit, weights_fit, named, long, counts_refused, measures_refused, numbers_refused, weights_refused, names_refused, or_else, refusal_of, refusal}
use Rattle.entry.proofs.Stages.{both_pass, check_passed, counts_passed, and_left, and_right, few_bounds}

-- ---- the checks that it passes

pub record Checked (c : Call) : Type 0 where
  pub even : divides (length c.spots) (length c.given.matches) (length c.directions) ≡ true
  pub counts : few (spot_count c) (match_count c) (direction_count c) c.given.rounds ≡ true
  pub numbers : numbers_fit c.spots c.directions c.given.rotation ≡ true
  pub weights : weights_fit c.spots ≡ true
  pub room : long (spot_count c) (match_count c) (direction_count c) c.given.limit
      (length c.given.lent.numbers) (length c.given.lent.floats) (length c.given.lent.result) ≡ true

pub checked : (c : Call) → refusal c ≡ 0 → Checked c
unfolding refusal refusal_of numbers_refused weights_refused names_refused
checked c h =
    let l = c.given.lent in
    let names = names_refused c.given.matches (spot_count c) (direction_count c) c.given.limit (length l.numbers) (length l.floats) (length l.result) in
    let weights = weights_refused c.spots in
    let numbers = numbers_refused c.spots c.directions c.given.rotation in
    let measures = measures_refused c.given.scale c.given.radius c.given.cut in
    let p = both_pass (counts_refused (length c.spots) (length c.given.matches) (length c.directions) c.given.rounds) (or_else measures (or_else numbers (or_else weights names))) h in
    let q = both_pass numbers (or_else weights names) (both_pass measures (or_else numbers (or_else weights names)) p.1).1 in
    let w = both_pass weights names q.1 in
    let counts = counts_passed (length c.spots) (length c.given.matches) (length c.directions) c.given.rounds p.0 in
    record {
      even = counts.0;
      counts = counts.1;
      numbers = (check_passed _ 0 9 (omega arith) q.0).0;
      weights = (check_passed _ 0 17 (omega arith) w.0).0;
      room = (check_passed _ 0 11 (omega arith) (check_passed (named (spot_count c) (direction_count c) c.given.matches) _ 10 (omega arith) w.1).1).0;
    }

-- ---- as facts about its lengths

pub divided : (s m d : ℕ) → divides s m d ≡ true → (s % spot_numbers ≡ 0) × (m % 2 ≡ 0) × (d % 3 ≡ 0)
unfolding divides
divided s m d h =
    let x = eqb (s % spot_numbers) 0 in
    let y = eqb (m % 2) 0 in
    let z = eqb (d % 3) 0 in
    let xy = and_left (x && y) z h in
    (eqb-true (s % spot_numbers) 0 (and_left x y xy), eqb-true (m % 2) 0 (and_right x y xy), eqb-true (d % 3) 0 (and_right (x && y) z h))

pub record Bounded (c : Call) : Type 0 where
  pub even : length c.given.matches % 2 ≡ 0
  pub spots : spot_count c ≤ 4096
  pub matches : match_count c ≤ 4096
  pub directions : direction_count c ≤ 65536
  pub rounds : c.given.rounds ≤ 64
  pub numbers : work_places c ≤ length c.given.lent.numbers
  pub floats : work_places c ≤ length c.given.lent.floats
  pub result : result_places c ≤ length c.given.lent.result

module _ (c : Call) where
  longs : Checked c → (work_places c ≤ length c.given.lent.numbers) × (work_places c ≤ length c.given.lent.floats) × (result_places c ≤ length c.given.lent.result)
  unfolding long
  longs k =
      let n = leb (work_places c) (length c.given.lent.numbers) in
      let f = leb (work_places c) (length c.given.lent.floats) in
      let r = leb (result_places c) (length c.given.lent.result) in
      let nf = and_left (n && f) r k.room in (
        leb-true (work_places c) (length c.given.lent.numbers) (and_left n f nf),
        leb-true (work_places c) (length c.given.lent.floats) (and_right n f nf),
        leb-true (result_places c) (length c.given.lent.result) (and_right (n && f) r k.room),
      )

  pub passed : refusal c ≡ 0 → Bounded c
  passed h =
      let k = checked c h in
      let f = few_bounds (spot_count c) (match_count c) (direction_count c) c.given.rounds k.counts in
      let l = longs k in
      record {
        even = (divided (length c.spots) (length c.given.matches) (length c.directions) k.even).1;
        spots = f.0;
        matches = f.1;
        directions = f.2;
        rounds = f.3;
        numbers = l.0;
        floats = l.1;
        result = l.2;
      }
