-- The ceiling of the comparisons that a call reports. 02, CR 14: "for n pairs it is at most n × b, where b is the least whole number with 2^b at least n".
-- Definitions only; the proofs are in `proofs/Ceiling.antt`. Assumes nothing.
use Rattle.std.specs.Prelude.{ℕ, ◌*◌, ◌≤◌, List, Float, Result}
use Rattle.pairs.specs.Candidates.{capacity}
use Rattle.matching.specs.Comparisons.{LeastPower}
use Rattle.entry.specs.Arguments.{Call, Lent}
use Rattle.entry.specs.Fixed.{Fixed}
use Rattle.wcs_refine.specs.Meaning.{found}
use Rattle.wcs_refine.specs.Round.{State, round}
use Rattle.wcs_refine.specs.Returned.{handed, Answers}
use Rattle.wcs_refine.specs.declared.WcsRefineResult.{WcsRefineResult}
use Rattle.refusal.specs.declared.Refusal.{Refusal}

-- A round, from any state: n are the pairs that it finds within the radius.
abbrev pub RoundCeiling : Type 0
RoundCeiling = (k : Fixed) (spots directions : List Float) (s : State) (b : ℕ) →
    LeastPower (found k spots directions s) b →
    (round k spots directions s).found.comparisons ≤ found k spots directions s * b

-- A call: where pairs are listed, a round that finds more of them than the candidate lists hold is refused, so n is at most their capacity, whatever the
-- exposure shows; where none are listed, none are compared.
abbrev pub CallCeiling : Type 0
CallCeiling = (c : Call) (r : Result WcsRefineResult Refusal) (l : Lent) (b : ℕ) → Answers c r l →
    LeastPower (capacity c.given.lent.distances c.given.lent.indices) b →
    (handed r).comparisons ≤ capacity c.given.lent.distances c.given.lent.indices * b
