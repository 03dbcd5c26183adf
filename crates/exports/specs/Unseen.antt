-- Demand 3 of what firmware calls. Definitions only; the proof is in proofs/Agreeing.antt. Assumes nothing.
use Rattle.std.specs.Prelude.{◌≡◌, ℕ, List, Float}
use Rattle.entry.specs.Arguments.{Call, Lent}
use Rattle.wcs_refine.specs.Unseen.{Alike, OnlyUnseen}
use Rattle.exports.specs.Refined.{RefinedTo}

-- Demand 3 of the exported call, whose contract is `RefinedTo`: two calls alike in all but unseen directions and spots hand back the same number and
-- leave every list that they write to alike, the counts and values included.
abbrev pub ExportedCallsAgree : Type 0
ExportedCallsAgree =
    (a b : Call) (r s : ℕ) (l m : Lent) (k ka kb : List ℕ) (v va vb : List Float)
    → Alike a b → OnlyUnseen a b → RefinedTo a r l k ka v va → RefinedTo b s m k kb v vb
    → (r ≡ s) × (l ≡ m) × (ka ≡ kb) × (va ≡ vb)
