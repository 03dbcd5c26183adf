-- The first fault on the way is the refusal.
use Rattle.std.proofs.Common.{arith, refl, ◌∙◌}
use Rattle.record.specs.Head.{head_spots, head_matches, head_directions, exposure}
use Rattle.record.specs.Passes.{answered, FoundIn}
use Rattle.record.proofs.RunSteps.{hands_on}
use Rattle.record.proofs.WholeSteps.{numbers_fit, read_long, head_bad, spots_bad, matches_bad, directions_bad, read_all, followed, ended}
use Rattle.record.proofs.whole.look_over.Goals as goal

pub returns-then-bytes-gt-MOST_BYTES : goal.returns-then-bytes-gt-MOST_BYTES
returns-then-bytes-gt-MOST_BYTES c = read_long c.args.bytes.now c.if-bytes-gt-MOST_BYTES.true

pub returns-in_err-h : goal.returns-in_err-h
unfolding answered
returns-in_err-h c =
    hands_on (FoundIn c.args.bytes.now) _ c.from_residual.ensures.1 (head_bad c.args.bytes.now c.if-bytes-gt-MOST_BYTES.false c.in_err-h.ensures)

pub overflow_mul-numbers : goal.overflow_mul-numbers
unfolding answered
overflow_mul-numbers c = omega (arith, numbers_fit _ _ _ _ c.in_ok-h.ensures head_spots (omega arith))

pub skip-requires : goal.skip-requires
skip-requires c = record { bits = 64; is = refl }

pub returns-in_err-matches : goal.returns-in_err-matches
unfolding answered
returns-in_err-matches c =
    hands_on (FoundIn c.args.bytes.now) _ c.from_residual-in_err-matches.ensures.1 (spots_bad c.args.bytes.now c.if-bytes-gt-MOST_BYTES.false _ _ c.in_ok-h.ensures (c.in_err-matches.ensures 64 refl).is)

pub overflow_mul-numbers-2 : goal.overflow_mul-numbers-2
unfolding answered
overflow_mul-numbers-2 c = omega (arith, numbers_fit _ _ _ _ c.in_ok-h.ensures head_matches (omega arith))

pub skip-requires-2 : goal.skip-requires-2
skip-requires-2 c = record { bits = 32; is = refl }

pub returns-in_err-directions : goal.returns-in_err-directions
unfolding answered
returns-in_err-directions c =
    let s = c.in_ok-matches.ensures 64 refl in
    hands_on (FoundIn c.args.bytes.now) _ c.from_residual-in_err-directions.ensures.1 (matches_bad c.args.bytes.now c.if-bytes-gt-MOST_BYTES.false _ _ c.in_ok-h.ensures s.passed _ s.is (c.in_err-directions.ensures 32 refl).is)

pub overflow_mul-numbers-3 : goal.overflow_mul-numbers-3
unfolding answered
overflow_mul-numbers-3 c = omega (arith, numbers_fit _ _ _ _ c.in_ok-h.ensures head_directions (omega arith))

pub skip-requires-3 : goal.skip-requires-3
skip-requires-3 c = record { bits = 32; is = refl }

pub returns-in_err-after : goal.returns-in_err-after
unfolding answered
returns-in_err-after c =
    let s = c.in_ok-matches.ensures 64 refl in
    let m = c.in_ok-directions.ensures 32 refl in
    hands_on (FoundIn c.args.bytes.now) _ c.from_residual-in_err-after.ensures.1 (directions_bad c.args.bytes.now c.if-bytes-gt-MOST_BYTES.false _ _ c.in_ok-h.ensures s.passed _ s.is m.passed _ m.is (c.in_err-after.ensures 32 refl).is)

pub returns-then-after-gt0 : goal.returns-then-after-gt0
unfolding answered
returns-then-after-gt0 c =
    let bytes = c.args.bytes.now in
    let h = c.in_ok-h.h in
    let s = c.in_ok-matches.ensures 64 refl in
    let m = c.in_ok-directions.ensures 32 refl in
    let d = c.in_ok-after.ensures 32 refl in
    read_all bytes c.if-bytes-gt-MOST_BYTES.false h.numbers _ c.in_ok-h.ensures s.passed _ s.is m.passed _ m.is d.passed _ d.is
    ∙ followed (exposure h.numbers s.passed m.passed d.passed) c.in_ok-after.after.now c.if-after-gt0.true

pub returns : goal.returns
unfolding answered
returns c =
    let bytes = c.args.bytes.now in
    let h = c.in_ok-h.h in
    let s = c.in_ok-matches.ensures 64 refl in
    let m = c.in_ok-directions.ensures 32 refl in
    let d = c.in_ok-after.ensures 32 refl in
    record {
      spots = s.passed;
      matches = m.passed;
      directions = d.passed;
      fit = numbers_fit _ bytes h.numbers _ c.in_ok-h.ensures;
      spots_at = record { rest = _; is = s.is };
      matches_at = record { rest = _; is = m.is };
      directions_at = record { rest = _; is = d.is };
      is =
          read_all bytes c.if-bytes-gt-MOST_BYTES.false h.numbers _ c.in_ok-h.ensures s.passed _ s.is m.passed _ m.is d.passed _ d.is
          ∙ ended (exposure h.numbers s.passed m.passed d.passed) c.in_ok-after.after.now (omega arith);
    }
