use Rattle.record.proofs.HeadSteps.{made}
use Rattle.record.proofs.reports.accepted.Goals as goal

pub returns : goal.returns
returns c = made c.args.h.now c.from_number.ensures c.from_number-2.ensures c.from_number-3.ensures c.row.ensures c.row-2.ensures c.row-3.ensures
