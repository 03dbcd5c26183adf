use Rattle.rounding.proofs.Division.{facts}
use Rattle.rounding.proofs.whole_root.longer.Goals as goal

pub returns-then-square-have : goal.returns-then-square-have
returns-then-square-have c =
    let w = c.args.w in
    ((facts w.root w.rest (w.greatest, c.requires.0, c.requires.1)).taken c.if-square-have.true).0

pub returns : goal.returns
returns c =
    let w = c.args.w in
    ((facts w.root w.rest (w.greatest, c.requires.0, c.requires.1)).left c.if-square-have.false).2
