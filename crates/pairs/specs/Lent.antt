-- The candidate lists as the code holds them: what stands in them, and what a call leaves of them. Definitions only. Assumes nothing.
use Rattle.std.specs.Prelude.{◌≡◌, ℕ, ◌+◌, ⊤, List, length, Option, Some, None, IfNone}
use Rattle.pairs.specs.Pairs.{Pair}
use Rattle.pairs.specs.Candidates.{laid, Beyond, Found, found}
use Rattle.pairs.specs.declared.candidates.Candidates.{Candidates}

-- The pairs that stand in them, and those with how many were found.
abbrev pub held : Candidates → List Pair
held c = laid c.distances.now c.indices.now

abbrev pub found_in : Candidates → Found
found_in c = found c.n c.distances.now c.indices.now

-- They are the same lists, as long as they were, whatever stands in them.
pub record Same (c c' : Candidates) : Type 0 where
  pub cap : c'.cap ≡ c.cap
  pub distances : c'.distances.ghost_name ≡ c.distances.ghost_name
  pub indices : c'.indices.ghost_name ≡ c.indices.ghost_name
  pub distances_long : length c'.distances.now ≡ length c.distances.now
  pub indices_long : length c'.indices.now ≡ length c.indices.now

-- From place n on they are as they were, and so is how many pairs were found.
pub record Kept (n : ℕ) (c c' : Candidates) : Type 0 where
  pub same : Same c c'
  pub many : c'.n ≡ c.n
  pub beyond : Beyond n c.distances.now c.indices.now c'.distances.now c'.indices.now

-- How many pairs a search found: those that stand in the lists, or one more than they hold where it answers that a pair found no place.
unfoldable pub how_many : Option ⊤ → Candidates → ℕ
how_many (Some u) c = c.n
how_many None c = c.cap + 1

-- What it answers and leaves is what was found; where a pair found no place the lists are full.
pub record Tried (c : Candidates) (answer : Option ⊤) (c' : Candidates) (s : Found) : Type 0 where
  pub same : Same c c'
  pub pairs : found (how_many answer c') c'.distances.now c'.indices.now ≡ s
  pub full : IfNone answer (c'.n ≡ c'.cap)
