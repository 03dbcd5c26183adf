-- What the choice of the matcher means for a call, and for the code: the claims of `specs/Choice.antt`. Assumes nothing.
use Rattle.std.proofs.Common.{◌≡◌, ℕ, zero, suc, refl, sym, ap, ◌∙◌, subst, arith}
use Rattle.std.specs.Prelude.{Result, Ok, Err}
use Rattle.entry.specs.Arguments.{Call, Lent}
use Rattle.entry.specs.Check.{refusal}
use Rattle.entry.specs.declared.Matcher.{Matcher}
use Rattle.entry.specs.declared.Matcher.TheVariants.{Listing, Scanning}
use Rattle.refusal.specs.declared.Refusal.{Refusal}
use Rattle.refusal.specs.declared.Refusal.TheVariants.{ManyPairs}
use Rattle.refusal.proofs.Passing.{same_refusal}
use Rattle.wcs_refine.specs.Call.{Answer, no, ok, left, answer, Outcome, outcome}
use Rattle.wcs_refine.specs.Returned.{Values, refused_with, accepted, values_of, handed, Returned, returned, Answers}
use Rattle.wcs_refine.specs.Choice.{choosing, uncounted, without_comparisons, ChoiceAgrees, NeverThirteen, NothingCompared, NeverManyPairs, ChoicesAgree}
use Rattle.wcs_refine.specs.declared.WcsRefineResult.{WcsRefineResult}
use Rattle.wcs_refine.proofs.ScanningCall.{answers_same, answer_not_13, answer_count}

-- ---- of the definition

-- a call that has chosen is the one with that choice
chosen_is : (c : Call) → c.given.matcher ≡ Scanning → c ≡ choosing Scanning c
chosen_is c e = ap (λ (m : Matcher). choosing m c) e

left_same : (l : Lent) (n : ℕ) (a : Answer) → left l n (uncounted a) ≡ left l n a
unfolding left uncounted
left_same l zero (no n) = refl
left_same l zero (ok r rounds passes queries comparisons) = refl
left_same l (suc n) a = refl

pub choice_agrees : ChoiceAgrees
unfolding outcome refusal
choice_agrees c f =
    let e = answers_same c f in
    let l : left c.given.lent (refusal c) (answer (choosing Scanning c)) ≡ left c.given.lent (refusal c) (answer (choosing Listing c)) =
    ap (left c.given.lent (refusal c)) e ∙ left_same c.given.lent (refusal c) (answer (choosing Listing c)) in
    λ i. record { answer = e i; lent = l i }

pub never_thirteen : NeverThirteen
never_thirteen c e = subst (λ (d : Call). answer d ≡ no 13 → ⊥) (sym (chosen_is c e)) (answer_not_13 c)

-- ---- of the code

values_are : (c : Call) (r : Result WcsRefineResult Refusal) (l : Lent) → Answers c r l → handed r ≡ values_of (answer c)
unfolding returned outcome
values_are c r l is = ap (λ (x : Returned). x.result) is

lent_is : (c : Call) (r : Result WcsRefineResult Refusal) (l : Lent) → Answers c r l → l ≡ (outcome c).lent
unfolding returned
lent_is c r l is = ap (λ (x : Returned). x.lent) is

pub nothing_compared : NothingCompared
nothing_compared c r l e is =
    ap (λ (v : Values). v.comparisons) (values_are c r l is)
    ∙ subst (λ (d : Call). (values_of (answer d)).comparisons ≡ 0) (sym (chosen_is c e)) (answer_count c)

-- the two spellings of a refusal with 13
told : (a : Answer) → (values_of a).refusal ≡ 13 → a ≡ no 13
unfolding values_of refused_with accepted
told (no n) e = ap no e
told (ok r rounds passes queries comparisons) e = absurd (omega arith)

many_pairs : (r : Result WcsRefineResult Refusal) → (handed r).refusal ≡ 13 → r ≡ Err ManyPairs
unfolding handed refused_with
many_pairs (Ok x) e = absurd (omega arith)
many_pairs (Err x) e = ap Err (same_refusal x ManyPairs e)

handed_13 : (r : Result WcsRefineResult Refusal) → r ≡ Err ManyPairs → (handed r).refusal ≡ 13
unfolding handed refused_with
handed_13 r e = ap (λ (x : Result WcsRefineResult Refusal). (handed x).refusal) e

answered_13 : (a : Answer) → a ≡ no 13 → (values_of a).refusal ≡ 13
unfolding values_of refused_with
answered_13 a e = ap (λ (x : Answer). (values_of x).refusal) e

pub never_many_pairs : NeverManyPairs
never_many_pairs c r l e is m =
    never_thirteen c e (told (answer c) (sym (ap (λ (v : Values). v.refusal) (values_are c r l is)) ∙ handed_13 r m))

uncounted_values : (a : Answer) → values_of (uncounted a) ≡ without_comparisons (values_of a)
unfolding values_of uncounted without_comparisons refused_with accepted
uncounted_values (no n) = refl
uncounted_values (ok r rounds passes queries comparisons) = refl

pub choices_agree : ChoicesAgree
choices_agree c r s l m is js f =
    let a = choosing Listing c in
    let b = choosing Scanning c in
    let enough : answer a ≡ no 13 → ⊥ = λ e. f (many_pairs r (ap (λ (v : Values). v.refusal) (values_are a r l is) ∙ answered_13 (answer a) e)) in (
      values_are b s m js ∙ ap values_of (answers_same c enough) ∙ uncounted_values (answer a) ∙ ap without_comparisons (sym (values_are a r l is)),
      lent_is b s m js ∙ ap (λ (o : Outcome). o.lent) (choice_agrees c enough) ∙ sym (lent_is a r l is),
    )
