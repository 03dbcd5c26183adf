-- Refused, the lists are as they came; else each takes its numbers at its front.
use mathlib.Core.Logic.{inl, inr}
use Rattle.std.proofs.Common.{◌≡◌}
use Rattle.record.specs.Header.{handed, intake, read_record}
use Rattle.record.proofs.RunSteps.{hands_on}
use Rattle.record.proofs.IntakeSteps.{read_refused, few_spots, few_matches, few_directions, read_whole}
use Rattle.record.proofs.read_record.Goals as goal

pub returns-in_err-f : goal.returns-in_err-f
returns-in_err-f c =
    hands_on (λ r. intake (handed r) c.args.spots.now c.args.matches.now c.args.directions.now ≡ read_record c.args.bytes.now c.args.spots.now c.args.matches.now c.args.directions.now) _ c.from_residual.ensures.1 (read_refused c.args.bytes.now _ _ _ _ c.in_err-f.ensures)

pub returns-then-spots-n : goal.returns-then-spots-n
returns-then-spots-n c =
    let bytes = c.args.bytes.now in
    let f = c.in_ok-f.f in
    elim c.then-spots-n.either [
      | inl p ↦ few_spots bytes f c.in_ok-f.ensures _ _ _ p
      | inr (inl p) ↦ few_matches bytes f c.in_ok-f.ensures _ _ _ p.1
      | inr (inr p) ↦ few_directions bytes f c.in_ok-f.ensures _ _ _ p.2
    ]

pub returns : goal.returns
returns c =
    read_whole c.args.bytes.now c.in_ok-f.f c.in_ok-f.ensures c.args.spots.now c.args.matches.now c.args.directions.now c.accepted.ensures
    c.if-spots-n.false c.if-matches-m.false c.if-directions-d.false _ _ _ c.fill.ensures c.fill-2.ensures c.fill-3.ensures
