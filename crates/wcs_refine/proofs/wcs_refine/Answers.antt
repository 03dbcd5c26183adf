-- `wcs_refine` meets its contract: the checks, the run, and the lists cleared. Assumes nothing.
use Rattle.std.proofs.Common.{◌≡◌, List, ℕ, sym, ap, ◌∙◌, subst, rules}
use Rattle.refusal.proofs.Passing.{has_number}
use Rattle.refusal.specs.Number.{number_of}
use Rattle.entry.specs.Check.{refusal}
use Rattle.entry.specs.Fixed.{fixed, start_pose}
use Rattle.entry.specs.Entry.{fixed_of}
use Rattle.query.specs.declared.Held.{Held}
use Rattle.wcs_refine.specs.Call.{Answer, start}
use Rattle.wcs_refine.specs.Keeping.{held_state, state_of}
use Rattle.wcs_refine.specs.Ending.{Answered}
use Rattle.wcs_refine.specs.Returned.{lists, called}
use Rattle.wcs_refine.specs.declared.course.Course.{Course}
use Rattle.wcs_refine.proofs.CallEnds.{begin_fits, run_fits, result_fits, answer_is, check_returns, run_returns, handed_on}
use Rattle.wcs_refine.proofs.wcs_refine.Goals as goal

pub returns-in_err-refusal_of : goal.returns-in_err-refusal_of
unfolding refusal
returns-in_err-refusal_of c =
    let a = c.args in
    let q = called a.spots.now a.matches.now a.directions.now a.rotation a.scale a.mirror a.radius a.cut a.limit a.rounds a.matcher (lists a.numbers.now a.floats.now a.distances.now a.indices.now a.result_list.now) in
    let is : number_of c.in_err-refusal_of.field-0.0 ≡ refusal q = c.in_err-refusal_of.ensures in
    check_returns q (number_of c.in_err-refusal_of.field-0.0) is (has_number _) _ (handed_on _ _ c.from_residual.ensures.1)

pub begin-held-requires : goal.begin-held-requires
unfolding refusal
begin-held-requires c =
    let a = c.args in
    let q = called a.spots.now a.matches.now a.directions.now a.rotation a.scale a.mirror a.radius a.cut a.limit a.rounds a.matcher (lists a.numbers.now a.floats.now a.distances.now a.indices.now a.result_list.now) in
    begin_fits q (sym c.in_ok-refusal_of.ensures)

pub new-w-requires : goal.new-w-requires
unfolding refusal fixed
new-w-requires c =
    let a = c.args in
    let q = called a.spots.now a.matches.now a.directions.now a.rotation a.scale a.mirror a.radius a.cut a.limit a.rounds a.matcher (lists a.numbers.now a.floats.now a.distances.now a.indices.now a.result_list.now) in
    let lawful : refusal q ≡ 0 = sym c.in_ok-refusal_of.ensures in
    let k = c.settings_of-k.result in
    let same : fixed_of k ≡ fixed q = c.settings_of-k.ensures in
    let begun = c.begin-held.ensures in
    rw begun.cached (run_fits q lawful k same _ begun.used _ c.begin-held.auto.numbers)

pub refined-r-requires : goal.refined-r-requires
unfolding refusal fixed
refined-r-requires c =
    let a = c.args in
    let q = called a.spots.now a.matches.now a.directions.now a.rotation a.scale a.mirror a.radius a.cut a.limit a.rounds a.matcher (lists a.numbers.now a.floats.now a.distances.now a.indices.now a.result_list.now) in
    let lawful : refusal q ≡ 0 = sym c.in_ok-refusal_of.ensures in
    let k = c.settings_of-k.result in
    let same : fixed_of k ≡ fixed q = c.settings_of-k.ensures in
    let n = c.new-w.ensures in
    rw (n.0, n.1) (result_fits q lawful k same _ c.begin-held.ensures.used)

pub returns : goal.returns
unfolding refusal fixed start start_pose
returns c =
    let a = c.args in
    let q = called a.spots.now a.matches.now a.directions.now a.rotation a.scale a.mirror a.radius a.cut a.limit a.rounds a.matcher (lists a.numbers.now a.floats.now a.distances.now a.indices.now a.result_list.now) in
    let lawful : refusal q ≡ 0 = sym c.in_ok-refusal_of.ensures in
    let k = c.settings_of-k.result in
    let same : fixed_of k ≡ fixed q = c.settings_of-k.ensures in
    let n = c.new-w.ensures in
    let w = c.new-w.result in
    let r = c.refined-r.ensures in
    let clear = c.clear_all.ensures in
    let begun : state_of w ≡ start q.given =
    ap (λ (h : Held). held_state w.course.room h w.numbers.now) n.1 ∙ ap (λ (l : List ℕ). held_state w.course.room c.begin-held.result l) (search rules)
    ∙ c.begin-held.ensures.state w.course.room in
    let is = answer_is q lawful w.course (state_of w) (ap (λ (d : Course). fixed_of d.k) n.0 ∙ same) (ap (λ (d : Course). d.spots.now) n.0) (ap (λ (d : Course). d.directions.now) n.0) begun in
    run_returns q lawful (subst (λ (x : Answer). Answered x a.result_list.now c.refined-r.new.result_list c.refined-r.result) is r.1) _ _ _ _
    (search rules) (search rules) (search rules) (search rules) clear.0 clear.1 clear.2 clear.3
