-- `respond_alone` meets its contract: the lists are those that the program is said to hold. Assumes nothing.
use Rattle.response.specs.Program.{program_lent}
use Rattle.response.proofs.Programs.{printed_alone}
use Rattle.response.proofs.program.respond_alone.Goals as goal

pub returns : goal.returns
unfolding program_lent
returns c =
    printed_alone c.args.«record».now c.respond.ensures
