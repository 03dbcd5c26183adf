-- What the call hands back: 01's number and values for each case of the answer, and the equation that its contract is. Definitions only. Assumes nothing.
use Rattle.std.specs.Prelude.{◌≡◌, ℕ, ◌/◌, Bool, List, [], ◌∷◌, length, Float, Result, Ok, Err}
use Rattle.rounding.specs.Arith.{zero64}
use Rattle.fit.specs.declared.Pose.{Pose}
use Rattle.refusal.specs.Number.{number_of}
use Rattle.refusal.specs.declared.Refusal.{Refusal}
use Rattle.entry.specs.Arguments.{Call, Lent}
use Rattle.entry.specs.declared.Matcher.{Matcher}
use Rattle.wcs_refine.specs.Closing.{Report}
use Rattle.wcs_refine.specs.Call.{Answer, no, ok, Outcome, outcome}
use Rattle.wcs_refine.specs.declared.WcsRefineResult.{WcsRefineResult}

-- What is handed back: the number of the refusal, 0 where there is none, the counts, and the values of a pose.
pub record Values : Type 0 where
  pub refusal : ℕ
  pub matches : ℕ
  pub rounds : ℕ
  pub passes : ℕ
  pub queries : ℕ
  pub comparisons : ℕ
  pub pose : Pose
  pub cd : List (List Float)
  pub rmse_rad : Float
  pub cov : List (List Float)

-- "A refusal gives its number; pose and counts are zero."
unfoldable pub refused_with : ℕ → Values
refused_with n =
    let z2 = zero64 ∷ zero64 ∷ [] in
    let z3 = zero64 ∷ zero64 ∷ zero64 ∷ [] in
    let p : Pose = record { theta = zero64; ra = zero64; dec = zero64; scale = zero64 } in
    record {
      refusal = n;
      matches = 0;
      rounds = 0;
      passes = 0;
      queries = 0;
      comparisons = 0;
      pose = p;
      cd = z2 ∷ z2 ∷ [];
      rmse_rad = zero64;
      cov = z3 ∷ z3 ∷ z3 ∷ [];
    }

-- An accepted call: no refusal, the counts, and the report with its matrices by rows.
unfoldable pub accepted : Report → ℕ → ℕ → ℕ → ℕ → Values
accepted r rounds passes queries comparisons = record {
  refusal = 0;
  matches = length r.matches / 2;
  rounds = rounds;
  passes = passes;
  queries = queries;
  comparisons = comparisons;
  pose = r.pose;
  cd = r.cd;
  rmse_rad = r.rms;
  cov = r.covariance;
}

-- "If an answer is an enum, a definition states this paper's number and values for each of its cases": of the definition's answer,
unfoldable pub values_of : Answer → Values
unfolding refused_with accepted
values_of (no n) = refused_with n
values_of (ok r rounds passes queries comparisons) = accepted r rounds passes queries comparisons

-- what the code answers, beside a number,
abbrev pub numbered : ℕ → WcsRefineResult → Values
numbered n r = record {
  refusal = n;
  matches = r.matches;
  rounds = r.rounds;
  passes = r.passes;
  queries = r.queries;
  comparisons = r.comparisons;
  pose = r.pose;
  cd = r.cd;
  rmse_rad = r.rmse_rad;
  cov = r.cov;
}

-- and of the code's answer.
unfoldable pub handed : Result WcsRefineResult Refusal → Values
unfolding refused_with
handed (Ok r) = numbered 0 r
handed (Err r) = refused_with (number_of r)

-- What a call hands back, and what the lent lists hold then.
pub record Returned : Type 0 where
  pub result : Values
  pub lent : Lent

-- The same of the outcome of a call.
unfoldable pub returned : Outcome → Returned
unfolding values_of
returned o = record { result = values_of o.answer; lent = o.lent }

-- The arguments of the code, in its order: the lent lists, and the call that they are part of.
abbrev pub lists : List ℕ → List Float → List Float → List ℕ → List ℕ → Lent
lists numbers floats distances indices result = record {
  numbers = numbers;
  floats = floats;
  distances = distances;
  indices = indices;
  result = result;
}

abbrev pub called :
    List Float → List ℕ → List Float → List (List Float) → Float → Bool → Float → Float → ℕ → ℕ → Matcher → Lent → Call
called spots matches directions rotation scale mirror radius cut limit rounds matcher lent = record {
  spots = spots;
  directions = directions;
  given = record {
    matches = matches;
    rotation = rotation;
    scale = scale;
    mirror = mirror;
    radius = radius;
    cut = cut;
    limit = limit;
    rounds = rounds;
    matcher = matcher;
    lent = lent;
  };
}

-- The contract of the call, one equation: what it hands back, with every list written to, is what the definition of the whole call says.
abbrev pub Answers : Call → Result WcsRefineResult Refusal → Lent → Type 0
Answers c r l = record { result = handed r; lent = l } ≡ returned (outcome c)
