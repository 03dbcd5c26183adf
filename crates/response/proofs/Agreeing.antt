-- The theorem about two calls, carried to the texts of two records. Assumes nothing.
use mathlib.Core.Path.{◌≡◌, refl, sym, ap, ◌∙◌}
use mathlib.Core.Bool.{Bool, cond}
use mathlib.Core.List.{List}
use Prim.Native.Nat.{ℕ, zero, suc, min}
use native.Mathlib.Omega.{arith}
use borrow.Author.Tests.{lt-ltb, le-ltb}
use lib.Dec.{ltb}
use lib.ListN.{length}
use Rattle.entry.specs.Arguments.{Lent}
use Rattle.wcs_refine.specs.Returned.{Returned, returned}
use Rattle.wcs_refine.proofs.TwoCalls.{unseen_changes_nothing}
use Rattle.record.specs.Header.{Intake}
use Rattle.printing.specs.Text.{refused_text, answer_text, set_from}
use Rattle.response.specs.Response.{Response, asked, reported_by, answered, turned_away, response, response_to}
use Rattle.response.specs.Lawful.{answer_to}
use Rattle.response.specs.Program.{program_lent, program_text}
use Rattle.response.specs.Unseen.{OnlyUnseenRead, UnseenShowsNothing, RecordsAgree, ProgramShowsNothing}

-- What shows of a response.
abbrev Shown : Response → Response → Type 0
Shown r s = (r.text ≡ s.text) × (r.lent ≡ s.lent)

carried : {r s x y : Response} → x ≡ r → y ≡ s → Shown r s → Shown x y
carried e f p =
    (ap (λ (o : Response). o.text) e ∙ p.0 ∙ sym (ap (λ (o : Response). o.text) f), ap (λ (o : Response). o.lent) e ∙ p.1 ∙ sym (ap (λ (o : Response). o.lent) f))

by_branch : (i : Intake) (lent : Lent) {t : Bool} → ltb 0 i.header.refusal ≡ t → response i lent ≡ cond t (turned_away i lent) (answer_to i lent)
unfolding response
by_branch i lent e = ap (λ (b : Bool). cond b (turned_away i lent) (answer_to i lent)) e

-- Two records refused alike, and two calls that hand back the same.
refused_alike : (x y : Intake) (lent : Lent) → x.header.refusal ≡ y.header.refusal → Shown (turned_away x lent) (turned_away y lent)
unfolding turned_away
refused_alike x y lent e = (ap refused_text e, refl)

answered_alike : (x y : Intake) {o p : Returned} → o ≡ p → Shown (answered x o) (answered y p)
unfolding answered
answered_alike x y e = (ap (λ (r : Returned). answer_text r.result (reported_by r)) e, ap (λ (r : Returned). r.lent) e)

shown : (x y : Intake) (lent : Lent) → OnlyUnseenRead x y lent → Shown (response x lent) (response y lent)
shown x y lent p = by x.header.refusal refl
  where
    by : (n : ℕ) → x.header.refusal ≡ n → Shown (response x lent) (response y lent)
    by zero e =
        let f = p.refusal in
        let o = ap returned (unseen_changes_nothing (asked x lent) (asked y lent) (p.alike e) (p.unseen e)) in
        carried (by_branch x lent (le-ltb 0 x.header.refusal (omega (arith, e)))) (by_branch y lent (le-ltb 0 y.header.refusal (omega (arith, e, f)))) (answered_alike x y o)
    by (suc n) e =
        let f = p.refusal in
        carried (by_branch x lent (lt-ltb 0 x.header.refusal (omega (arith, e)))) (by_branch y lent (lt-ltb 0 y.header.refusal (omega (arith, e, f)))) (refused_alike x y lent f)

pub unseen_shows_nothing : UnseenShowsNothing
unfolding response_to
unseen_shows_nothing a b spots matches directions lent p = shown _ _ lent p

pub records_agree : RecordsAgree
records_agree a b spots matches directions lent l m n k out out_a out_b sa sb ma mb da db p x y =
    let s = unseen_shows_nothing a b spots matches directions lent p in (
      x.count ∙ ap (λ (t : List ℕ). min (length t) (length out)) s.0 ∙ sym y.count,
      x.out ∙ ap (λ (t : List ℕ). set_from 0 t out) s.0 ∙ sym y.out,
      x.worked_on ∙ s.1 ∙ sym y.worked_on,
    )

pub program_shows_nothing : ProgramShowsNothing
unfolding program_text
program_shows_nothing a b p = (shown _ _ program_lent p).0
