-- A refused record gets its line, any other the answer of its call.
use Rattle.record.specs.Header.{intake, numbered}
use Rattle.response.proofs.Responses.{answered_so, turned_away_lem, let_in}
use Rattle.response.proofs.respond.Goals as goal

pub returns-in-Err : goal.returns-in-Err
returns-in-Err c =
    let a = c.args in
    let p = rw c.number.ensures at c.print_refusal.ensures in
    turned_away_lem a.«record».now a.spots.now a.matches.now a.directions.now _ _ _ _ c.in-Err.refusal (rw c.in-Err.is at c.read_record.ensures) (p.value, p.out_after)

pub returns-in-Ok : goal.returns-in-Ok
returns-in-Ok c =
    let a = c.args in
    let p = c.print_with_matches.ensures in
    let_in a.«record».now a.spots.now a.matches.now a.directions.now _ _ _ _ c.in-Ok.h (rw c.in-Ok.is at c.read_record.ensures)
    (answered_so (intake (numbered 0 c.in-Ok.h) _ _ _) _ c.call-r.ensures (p.value, p.out_after))
