-- The theorem about two calls, carried to what the calls hand back and leave. Assumes nothing.
use Rattle.std.proofs.Common.{◌≡◌, sym, ap, ◌∙◌, refl}
use Rattle.std.specs.Prelude.{Result, Ok, Err}
use Rattle.refusal.specs.declared.Refusal.{Refusal}
use Rattle.refusal.specs.Number.{number_of}
use Rattle.refusal.proofs.Passing.{has_number, same_refusal}
use Rattle.entry.specs.Arguments.{Lent}
use Rattle.wcs_refine.specs.Returned.{Values, refused_with, handed, Returned, returned}
use Rattle.wcs_refine.specs.Unseen.{CallsAgree}
use Rattle.wcs_refine.specs.declared.WcsRefineResult.{WcsRefineResult}
use Rattle.wcs_refine.proofs.TwoCalls.{unseen_changes_nothing}

-- what an accepted call hands back, without its number
without_number : Values → WcsRefineResult
without_number v = record {
  matches = v.matches;
  rounds = v.rounds;
  passes = v.passes;
  queries = v.queries;
  comparisons = v.comparisons;
  pose = v.pose;
  cd = v.cd;
  rmse_rad = v.rmse_rad;
  cov = v.cov;
}

number_back : (r : Refusal) → (handed (Err r)).refusal ≡ number_of r
unfolding handed refused_with
number_back r = refl

-- what is handed back tells the answer
answer_told : (r s : Result WcsRefineResult Refusal) → handed r ≡ handed s → r ≡ s
unfolding handed without_number
answer_told (Ok r) (Ok s) e = ap (λ (v : Values). Ok (without_number v)) e
answer_told (Ok r) (Err b) e = absurd (has_number b (sym (ap (λ (v : Values). v.refusal) e ∙ number_back b)))
answer_told (Err a) (Ok s) e = absurd (has_number a (sym (number_back a) ∙ ap (λ (v : Values). v.refusal) e))
answer_told (Err a) (Err b) e = ap Err (same_refusal a b (sym (number_back a) ∙ ap (λ (v : Values). v.refusal) e ∙ number_back b))

abbrev both : Values → Lent → Returned
both r l = record { result = r; lent = l }

pub calls_agree : CallsAgree
calls_agree a b r s l m alike unseen e f =
    let x : both (handed r) l ≡ both (handed s) m = e ∙ ap returned (unseen_changes_nothing a b alike unseen) ∙ sym f in
    (answer_told r s (ap (λ (y : Returned). y.result) x), ap (λ (y : Returned). y.lent) x)
