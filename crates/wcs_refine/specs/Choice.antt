-- What the choice of the matcher means for a call (02, CR 7). Definitions only; `proofs/Choice.antt` proves each claim under the same name in small
-- letters. Assumes nothing.
use Rattle.std.specs.Prelude.{◌≡◌, Result, Err}
use Rattle.entry.specs.Arguments.{Call, Lent}
use Rattle.entry.specs.declared.Matcher.{Matcher}
use Rattle.entry.specs.declared.Matcher.TheVariants.{Listing, Scanning}
use Rattle.refusal.specs.declared.Refusal.{Refusal}
use Rattle.refusal.specs.declared.Refusal.TheVariants.{ManyPairs}
use Rattle.wcs_refine.specs.Call.{Answer, no, ok, answer, outcome}
use Rattle.wcs_refine.specs.Returned.{Values, handed, Answers}
use Rattle.wcs_refine.specs.declared.WcsRefineResult.{WcsRefineResult}

-- A call with another choice, and in all else the same.
abbrev pub choosing : Matcher → Call → Call
choosing m c = record {
  spots = c.spots;
  directions = c.directions;
  given = record {
    matches = c.given.matches;
    rotation = c.given.rotation;
    scale = c.given.scale;
    mirror = c.given.mirror;
    radius = c.given.radius;
    cut = c.given.cut;
    limit = c.given.limit;
    rounds = c.given.rounds;
    matcher = m;
    lent = c.given.lent;
  };
}

-- An answer that reports no comparisons, and in all else the same.
unfoldable pub uncounted : Answer → Answer
uncounted (no n) = no n
uncounted (ok r rounds passes queries comparisons) = ok r rounds passes queries 0

-- "It gives the same matches in the same sequence as the listed matcher whenever that one has enough places": two calls that differ in the choice alone
-- have the same outcome, every list and every number but the comparisons, unless the listed one is refused with 13. The scanning one reports 0.
abbrev pub ChoiceAgrees : Type 0
ChoiceAgrees = (c : Call) → (answer (choosing Listing c) ≡ no 13 → ⊥) →
    outcome (choosing Scanning c)
    ≡ record { answer = uncounted (answer (choosing Listing c)); lent = (outcome (choosing Listing c)).lent }

-- "And it never gives refusal 13."
abbrev pub NeverThirteen : Type 0
NeverThirteen = (c : Call) → c.given.matcher ≡ Scanning → answer c ≡ no 13 → ⊥

-- "The matcher of CR 7 reports 0."
abbrev pub NothingCompared : Type 0
NothingCompared = (c : Call) (r : Result WcsRefineResult Refusal) (l : Lent) →
    c.given.matcher ≡ Scanning → Answers c r l → (handed r).comparisons ≡ 0

-- ---- of the code, whose contract is `Answers`

-- The refusal handed back is never the one of too many pairs.
abbrev pub NeverManyPairs : Type 0
NeverManyPairs = (c : Call) (r : Result WcsRefineResult Refusal) (l : Lent) →
    c.given.matcher ≡ Scanning → Answers c r l → r ≡ Err ManyPairs → ⊥

-- What is handed back, with no comparisons.
unfoldable pub without_comparisons : Values → Values
without_comparisons v = record {
  refusal = v.refusal;
  matches = v.matches;
  rounds = v.rounds;
  passes = v.passes;
  queries = v.queries;
  comparisons = 0;
  pose = v.pose;
  cd = v.cd;
  rmse_rad = v.rmse_rad;
  cov = v.cov;
}

-- Two calls of the code that differ in the choice alone leave all lists alike, and hand back the same but for the comparisons.
abbrev pub ChoicesAgree : Type 0
ChoicesAgree = (c : Call) (r s : Result WcsRefineResult Refusal) (l m : Lent) →
    Answers (choosing Listing c) r l → Answers (choosing Scanning c) s m → (r ≡ Err ManyPairs → ⊥) →
    (handed s ≡ without_comparisons (handed r)) × (m ≡ l)
