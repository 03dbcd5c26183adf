-- The theorem about two calls, carried to what the exported call hands back and leaves. Assumes nothing.
use mathlib.Core.Path.{◌≡◌, sym, ap, ◌∙◌}
use Rattle.wcs_refine.specs.Call.{outcome}
use Rattle.wcs_refine.specs.Returned.{Returned, returned}
use Rattle.wcs_refine.proofs.TwoCalls.{unseen_changes_nothing}
use Rattle.exports.specs.Refined.{counts, values, set_from}
use Rattle.exports.specs.Unseen.{ExportedCallsAgree}

pub exported_calls_agree : ExportedCallsAgree
exported_calls_agree a b r s l m k ka kb v va vb alike unseen x y =
    let e : returned (outcome a) ≡ returned (outcome b) = ap returned (unseen_changes_nothing a b alike unseen) in (
      x.refusal ∙ ap (λ (o : Returned). o.result.refusal) e ∙ sym y.refusal,
      x.lists ∙ ap (λ (o : Returned). o.lent) e ∙ sym y.lists,
      x.counted ∙ ap (λ (o : Returned). set_from 0 (counts o.result) k) e ∙ sym y.counted,
      x.valued ∙ ap (λ (o : Returned). set_from 0 (values o.result) v) e ∙ sym y.valued,
    )
