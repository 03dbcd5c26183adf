use Rattle.printing.specs.Text.{accepted_text}
use Rattle.printing.proofs.Pushes.{then_write}
use Rattle.printing.proofs.laying.Writer.accepted.Goals as goal

pub returns : goal.returns
unfolding accepted_text
returns c = search then_write
