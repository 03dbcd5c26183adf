use mathlib.Core.Path.{◌≡◌, sym}
use mathlib.Core.List.{[]}
use Prim.Native.Nat.{◌<◌, ◌+◌, ◌*◌, ◌/◌}
use native.Mathlib.Omega.{arith}
use lib.ListN.{get_or, length}
use Rattle.lists.proofs.Chunks.{pair_at}
use Rattle.entry.proofs.ListTests.{named_next, no_spot, no_direction, named_done}
use Rattle.entry.proofs.refusals.are_named.Goals as goal
use Rattle.entry.proofs.refusals.are_named.Goals.{then-spots-spot-via-then-spots-spot, then-spots-spot-via-else-spots-spot+then-directions-direction}

pub returns-then-spots-spot : goal.returns-then-spots-spot
returns-then-spots-spot c =
    let a = c.args in
    let l = c.loop-spot in
    let e = c.as_chunks.ensures in
    let p = pair_at 0 (length a.matches.now / 2) a.matches.now l.spot-index (omega (arith, c.loop-spot-test.true, e.front_len)) in
    let h : 2 * l.spot-index + 1 < length a.matches.now = omega (arith, c.loop-spot-test.true, e.front_len) in
    let fst : get_or (get_or c.as_chunks.result.0.now l.spot-index []) 0 0 ≡ get_or a.matches.now (2 * l.spot-index) 0 = rw e.front p.0 in
    let snd : get_or (get_or c.as_chunks.result.0.now l.spot-index []) 1 0 ≡ get_or a.matches.now (2 * l.spot-index + 1) 0 = rw e.front p.1 in
    elim c.then-spots-spot.branch [
      | then-spots-spot-via-then-spots-spot w ↦ sym (no_spot a.spots a.directions a.matches.now l.spot-index l.invariant h (omega (arith, w.if-spots-spot.true, fst)))
      | then-spots-spot-via-else-spots-spot+then-directions-direction w ↦ sym (no_direction a.spots a.directions a.matches.now l.spot-index l.invariant h
          (omega (arith, w.if-spots-spot.false, fst)) (omega (arith, w.if-directions-direction.true, snd)))
    ]

pub loop-spot-preserved : goal.loop-spot-preserved
loop-spot-preserved c =
    let a = c.args in
    let l = c.loop-spot in
    let e = c.as_chunks.ensures in
    let p = pair_at 0 (length a.matches.now / 2) a.matches.now l.spot-index (omega (arith, c.loop-spot-test.true, e.front_len)) in
    let h : 2 * l.spot-index + 1 < length a.matches.now = omega (arith, c.loop-spot-test.true, e.front_len) in
    let fst : get_or (get_or c.as_chunks.result.0.now l.spot-index []) 0 0 ≡ get_or a.matches.now (2 * l.spot-index) 0 = rw e.front p.0 in
    let snd : get_or (get_or c.as_chunks.result.0.now l.spot-index []) 1 0 ≡ get_or a.matches.now (2 * l.spot-index + 1) 0 = rw e.front p.1 in
    named_next a.spots a.directions a.matches.now l.spot-index l.invariant h (omega (arith, c.if-spots-spot.false, fst)) (omega (arith, c.if-directions-direction.false, snd))

pub returns : goal.returns
returns c =
    let a = c.args in
    let l = c.loop-spot in
    sym (named_done a.spots a.directions a.matches.now l.spot-index l.invariant (omega (arith, c.loop-spot-test.false, c.as_chunks.ensures.front_len)))
