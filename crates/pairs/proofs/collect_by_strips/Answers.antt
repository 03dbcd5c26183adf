-- `collect_by_strips` tries all pairs where the room is too short for the strips, and else finds them by strips and clears the room.
use Rattle.pairs.proofs.Nearby.{room_short, room_used}
use Rattle.pairs.proofs.collect_by_strips.Goals as goal

pub returns-then-work-room : goal.returns-then-work-room
returns-then-work-room c =
    let s = c.args.s in
    let did = room_short s.points.now s.np s.predicted.now s.radius_sq s.fits c.args.work.now c.if-work-room.true in
    (rw did.0 c.collect.ensures, did.1)

pub returns : goal.returns
returns c =
    let s = c.args.s in
    let t = c.collect-found.ensures in
    let did = room_used s.points.now s.np s.predicted.now s.radius_sq s.fits c.args.work.now c.collect-found.new.work c.clear.new.s
    c.if-work-room.false c.collect-found.auto.work t.1 c.clear.ensures in
    (rw did.0 t.0, did.1)
