-- The two tests on the number pick the definition's case.
use mathlib.Core.Path.{sym, ap, ◌∙◌}
use Prim.Native.Nat.{ℕ, ◌*◌}
use Rattle.residuals.specs.Residual.{kept, threshold_of}
use Rattle.residuals.proofs.Kept.{kept_count, clip_some, clip_all, clip_few}
use Rattle.residuals.proofs.clipping.mad_clip_matches.Goals as goal
use Rattle.residuals.proofs.clipping.mad_clip_matches.Goals.{else-k-n-via-then-k-n+else-k-ge-FEWEST, else-k-n-via-else-k-n}

pub returns-then-k-ge-FEWEST : goal.returns-then-k-ge-FEWEST
unfolding kept threshold_of
returns-then-k-ge-FEWEST c =
    let a = c.args in
    clip_some a.residuals.now a.matches.now a.median a.sigma c.count_kept-k.result (kept_count _ _ a.matches.now 0 _ ∙ sym (ap (λ (n : ℕ). 2 * n) c.count_kept-k.ensures)) c.if-k-n.true c.if-k-ge-FEWEST.true c.compact.ensures

pub returns : goal.returns
unfolding kept threshold_of
returns c =
    let a = c.args in
    let k = c.count_kept-k.result in
    let e = kept_count _ _ a.matches.now 0 _ ∙ sym (ap (λ (n : ℕ). 2 * n) c.count_kept-k.ensures) in
    elim c.else-k-n.branch [
      | else-k-n-via-then-k-n+else-k-ge-FEWEST w ↦ clip_few a.residuals.now a.matches.now a.median a.sigma k e w.if-k-n.true w.if-k-ge-FEWEST.false
      | else-k-n-via-else-k-n w ↦ clip_all a.residuals.now a.matches.now a.median a.sigma k e w.if-k-n.false
    ]
