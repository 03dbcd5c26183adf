use Rattle.std.proofs.Common.{arith, sym, get_or}
use Rattle.record.specs.Head.{head_bits}
use Rattle.record.specs.Passes.{answered, head_of}
use Rattle.record.proofs.RunSteps.{hands_on, taken}
use Rattle.record.proofs.HeadSteps.{top_is, heading_first, headed, heading_on, heading_refused}
use Rattle.record.proofs.heads.read_head.Goals as goal

pub loop-i-init : goal.loop-i-init
loop-i-init c = heading_first c.args.bytes.now

pub number_to-requires : goal.number_to-requires
number_to-requires c =
    let l = c.loop-i in
    record { bits = get_or head_bits l.i 0; is = top_is l.i c.loop-i-test.true }

pub slice_bounds-rest-count : goal.slice_bounds-rest-count
slice_bounds-rest-count c =
    let l = c.loop-i in
    let bits = get_or head_bits l.i 0 in
    omega (arith, (taken bits _ (sym (c.in_ok-n.ensures bits (top_is l.i c.loop-i-test.true)))).inside)

pub slice_bounds-rest-start : goal.slice_bounds-rest-start
slice_bounds-rest-start c =
    let l = c.loop-i in
    let bits = get_or head_bits l.i 0 in
    omega (arith, (taken bits _ (sym (c.in_ok-n.ensures bits (top_is l.i c.loop-i-test.true)))).inside)

pub returns-in_err-n : goal.returns-in_err-n
unfolding answered
returns-in_err-n c =
    let l = c.loop-i in
    let t = c.loop-i-test.true in
    hands_on (head_of c.args.bytes.now) _ c.from_residual.ensures.1 (heading_refused _ _ _ l.i l.invariant t (sym (c.in_err-n.ensures (get_or head_bits l.i 0) (top_is l.i t))))

pub loop-i-preserved : goal.loop-i-preserved
loop-i-preserved c =
    let l = c.loop-i in
    let t = c.loop-i-test.true in
    heading_on _ _ _ l.i l.invariant t (sym (c.in_ok-n.ensures (get_or head_bits l.i 0) (top_is l.i t)))

pub returns : goal.returns
unfolding answered
returns c =
    let l = c.loop-i in
    headed _ _ _ l.i l.invariant c.loop-i-test.false
