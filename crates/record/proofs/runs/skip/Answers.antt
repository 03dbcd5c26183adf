use Rattle.std.proofs.Common.{arith, sym, [], ◌∷◌, ◌++◌}
use Rattle.record.specs.Reading.{run}
use Rattle.record.specs.Passes.{answered, Over}
use Rattle.record.proofs.RunSteps.{hands_on, past_is, past_past, past_length, passing_first, passed_all, passing_on, passing_refused, taken}
use Rattle.record.proofs.runs.skip.Goals as goal

pub loop-init : goal.loop-init
loop-init c =
    let bytes = c.args.bytes.now in
    (omega arith, λ bits e. ([], rw (← past_is 0 bytes) (passing_first bits c.args.count bytes)))

pub overflow_add-at : goal.overflow_add-at
overflow_add-at c =
    let g = c.requires in
    omega (arith, c.loop.invariant.0, past_length c.loop.at c.args.bytes.now, (taken g.bits _ (sym (c.in_ok-n.ensures g.bits g.is))).inside)

pub returns-in_err-n : goal.returns-in_err-n
unfolding answered
returns-in_err-n c =
    let l = c.loop in
    λ bits e. hands_on (Over (run c.args.count bits c.args.bytes.now)) _ c.from_residual.ensures.1
    record { passed = []; is = passing_refused bits _ _ _ l.counter _ (l.invariant.1 bits e).1 c.loop-test.true (sym (c.in_err-n.ensures bits e)) }

pub loop-preserved : goal.loop-preserved
loop-preserved c =
    let l = c.loop in
    let g = c.requires in
    let bytes = c.args.bytes.now in (
      omega (arith, l.invariant.0, past_length l.at bytes, (taken g.bits _ (sym (c.in_ok-n.ensures g.bits g.is))).inside),
      λ bits e. (
        (l.invariant.1 bits e).0 ++ c.in_ok-n.n.value ∷ [],
        rw (← past_past c.in_ok-n.n.bytes l.at bytes) (passing_on bits _ _ _ l.counter _ (l.invariant.1 bits e).1 c.loop-test.true (sym (c.in_ok-n.ensures bits e))),
      ),
    )

pub returns : goal.returns
unfolding answered
returns c =
    let l = c.loop in
    λ bits e. record { passed = (l.invariant.1 bits e).0; is = passed_all bits _ _ _ l.counter _ (l.invariant.1 bits e).1 c.loop-test.false }
