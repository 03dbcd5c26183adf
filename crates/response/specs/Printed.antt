-- What the code promises of a response. Definitions only. Assumes nothing.
use Rattle.std.specs.Prelude.{◌≡◌, ℕ, min, List, length, Float}
use Rattle.entry.specs.Arguments.{Lent}
use Rattle.printing.specs.Text.{set_from}
use Rattle.response.specs.Response.{Response}

-- The text stands at the front of `out`, as far as that has places: so many bytes. The lists are those of the response.
pub record Printed
    (r : Response) (n : ℕ) (before after : List ℕ) (spots : List Float) (matches : List ℕ) (directions : List Float)
    (lent : Lent) : Type 0 where
  pub count : n ≡ min (length r.text) (length before)
  pub out : after ≡ set_from 0 r.text before
  pub read_spots : spots ≡ r.spots
  pub read_matches : matches ≡ r.matches
  pub read_directions : directions ≡ r.directions
  pub worked_on : lent ≡ r.lent
