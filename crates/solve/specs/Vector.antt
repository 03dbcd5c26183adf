-- 01, "Vectors: dot is (a0b0 + a1b1) + a2b2; norm its square root; normalising divides each component by the norm." Definitions only.
-- A vector [f64; 3] is the list of its three components. Assumes nothing.
use Rattle.std.specs.Prelude.{ℕ, List, [], ◌∷◌, slice_index_or, Float}
use Rattle.std.specs.Float.{nan, binary64}
use Rattle.std.specs.Float.Ieee.{neg}
use Rattle.rounding.specs.Arith.{◌⊕◌, ◌⊗◌, ◌⊘◌}
use Rattle.rounding.specs.Root.{root}

-- The component i.
abbrev pub at : List Float → ℕ → Float
at v i = slice_index_or v i nan

-- The row i of a matrix,
abbrev pub row : List (List Float) → ℕ → List Float
row m i = slice_index_or m i []

-- and what stands there in column j.
abbrev pub entry : List (List Float) → ℕ → ℕ → Float
entry m i j = at (row m i) j

-- "dot is (a0b0 + a1b1) + a2b2"
unfoldable pub dot : List Float → List Float → Float
dot a b = at a 0 ⊗ at b 0 ⊕ at a 1 ⊗ at b 1 ⊕ at a 2 ⊗ at b 2

-- "norm its square root": of a vector's dot product with itself
unfoldable pub norm : List Float → Float
unfolding dot root
norm v = root binary64 (dot v v)

-- "normalising divides each component by the norm"
unfoldable pub normalised : List Float → List Float
unfolding norm
normalised v = at v 0 ⊘ norm v ∷ at v 1 ⊘ norm v ∷ at v 2 ⊘ norm v ∷ []

-- a * s + b * t, as the Rust combines two vectors
unfoldable pub combined : List Float → Float → List Float → Float → List Float
combined a s b t =
    at a 0 ⊗ s ⊕ at b 0 ⊗ t
    ∷ at a 1 ⊗ s ⊕ at b 1 ⊗ t
    ∷ at a 2 ⊗ s ⊕ at b 2 ⊗ t
    ∷ []

-- -v, each component negated
unfoldable pub negated : List Float → List Float
negated v = neg (at v 0) ∷ neg (at v 1) ∷ neg (at v 2) ∷ []
