-- By the number at the spot, if there is one.
use Rattle.std.proofs.Common.{◌+◌, get_or, sym, refl, ◌∙◌, rules, eq-eqb, ne_eqb}
use Rattle.wcs_refine.specs.Comparing.{link_of}
use Rattle.wcs_refine.proofs.TableSteps.{tells_zero, tells_beyond, tells_direction}
use Rattle.wcs_refine.proofs.comparing.strike.Goals as goal

pub returns-then-at-spot : goal.returns-then-at-spot
returns-then-at-spot c =
    let a = c.args in
    (sym (tells_beyond a.at.base a.at.n a.at.start a.numbers.now a.numbers.now (link_of a.spot a.direction) c.if-at-spot.true), refl)

pub returns-then-k-eq0 : goal.returns-then-k-eq0
returns-then-k-eq0 c =
    let a = c.args in
    (sym (tells_zero a.at.base a.at.n a.at.start a.numbers.now a.numbers.now (link_of a.spot a.direction) c.if-k-eq0.true), refl)

pub returns-then-direction-numbers : goal.returns-then-direction-numbers
returns-then-direction-numbers c =
    let a = c.args in
    let l = a.numbers.now in
    (sym (tells_direction a.at.base a.at.n a.at.start l l (link_of a.spot a.direction) (get_or l (a.at.base + a.spot) 0) refl c.if-k-eq0.false (search rules) ∙ ne_eqb _ _ c.if-direction-numbers.true), refl)

pub returns : goal.returns
returns c =
    let a = c.args in
    let l = a.numbers.now in
    (sym (tells_direction a.at.base a.at.n a.at.start l l (link_of a.spot a.direction) (get_or l (a.at.base + a.spot) 0) refl c.if-k-eq0.false (search rules) ∙ eq-eqb _ _ c.if-direction-numbers.false), refl)
