-- The response to a record that is not refused: what the inner functions promise. Definitions only. Assumes nothing.
use Rattle.entry.specs.Arguments.{Lent}
use Rattle.wcs_refine.specs.Call.{outcome}
use Rattle.wcs_refine.specs.Returned.{returned}
use Rattle.record.specs.Header.{Intake}
use Rattle.response.specs.Response.{Response, asked, answered}

-- The call that the record asks for is made, and its answer printed.
abbrev pub answer_to : Intake → Lent → Response
answer_to i lent = answered i (returned (outcome (asked i lent)))
