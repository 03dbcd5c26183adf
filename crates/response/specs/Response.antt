-- One record in, one text out: what the program prints of the bytes that it reads, and what the lists lent for it hold afterwards.
-- Definitions only. Assumes nothing.
use Rattle.std.specs.Prelude.{ℕ, ◌*◌, cond, List, ltb, take, Float}
use Rattle.panel.specs.Spots.{spot_numbers}
use Rattle.entry.specs.Arguments.{Call, Lent}
use Rattle.entry.specs.declared.Matcher.TheVariants.{Listing}
use Rattle.wcs_refine.specs.Call.{outcome}
use Rattle.wcs_refine.specs.Returned.{Returned, returned, called}
use Rattle.record.specs.Header.{Intake, read_record}
use Rattle.printing.specs.Text.{refused_text, answer_text}

-- The text, and the lists: what the record was read into, and what the call was lent.
pub record Response : Type 0 where
  pub text : List ℕ
  pub spots : List Float
  pub matches : List ℕ
  pub directions : List Float
  pub lent : Lent

-- The call that a record asks for, on as much of the lists as it fills. A record names no matcher: it is the one that lists pairs, so that 13 can come.
abbrev pub asked : Intake → Lent → Call
asked i lent =
    called
    (take (spot_numbers * i.header.spots) i.spots)
    (take (2 * i.header.matches) i.matches)
    (take (3 * i.header.directions) i.directions)
    i.header.rotation
    i.header.scale
    i.header.mirror
    i.header.radius
    i.header.cut
    i.header.limit
    i.header.rounds
    Listing
    lent

-- "Then a line `m`, spot, direction for each match": the matches stand at the front of the result list.
abbrev pub reported_by : Returned → List ℕ
reported_by o = take (2 * o.result.matches) o.lent.result

-- A call's answer as a text, with the lists as the record filled them and the call left them.
unfoldable pub answered : Intake → Returned → Response
answered i o = record {
  text = answer_text o.result (reported_by o);
  spots = i.spots;
  matches = i.matches;
  directions = i.directions;
  lent = o.lent;
}

-- A refused record, or one that counts more than the lists hold, makes no call.
unfoldable pub turned_away : Intake → Lent → Response
turned_away i lent = record {
  text = refused_text i.header.refusal;
  spots = i.spots;
  matches = i.matches;
  directions = i.directions;
  lent = lent;
}

-- 01: "a record free of 1 to 4 that counts more prints `no 11` without a call"; so does any refused record with its number. Otherwise the call answers.
unfoldable pub response : Intake → Lent → Response
unfolding turned_away answered
response i lent = cond (ltb 0 i.header.refusal) (turned_away i lent) (answered i (returned (outcome (asked i lent))))

-- Of the bytes, with these lists lent.
unfoldable pub response_to : List ℕ → List Float → List ℕ → List Float → Lent → Response
unfolding response
response_to bytes spots matches directions lent = response (read_record bytes spots matches directions) lent
