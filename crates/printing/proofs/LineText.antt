-- The text of lists of numbers and of matches, of one after the other. Assumes nothing.
use mathlib.Core.Path.{◌≡◌, refl, ap, ◌∙◌}
use mathlib.Core.List.{List, [], ◌∷◌, ◌++◌, append-nil, append_assoc}
use Prim.Native.Nat.{ℕ, suc, ◌/◌}
use native.Mathlib.Omega.{arith}
use lib.ListN.{length}
use Rattle.std.specs.Simd.{first_chunks}
use Rattle.printing.specs.Text.{space, spaced, counts, line, match_lines}

-- ---- numbers

module _ {A : Type 0} (text : A → List ℕ) where
  pub spaced_push : (xs : List A) (x : A) → spaced text (xs ++ x ∷ []) ≡ (spaced text xs ++ space ∷ []) ++ text x
  unfolding spaced
  spaced_push [] x = grind (arith, append-nil)
  spaced_push (y ∷ xs) x = grind (arith, append_assoc, spaced_push xs x)

-- ---- matches

-- A line for each pair of numbers.
unfoldable pub pair_lines : List (List ℕ) → List ℕ
pair_lines [] = []
pair_lines (p ∷ ps) = line (109 ∷ []) (counts p) ++ pair_lines ps

pub pairs_push : (ps : List (List ℕ)) (p : List ℕ) → pair_lines (ps ++ p ∷ []) ≡ pair_lines ps ++ line (109 ∷ []) (counts p)
unfolding pair_lines
pairs_push [] p = grind (arith, append-nil)
pairs_push (q ∷ ps) p = grind (arith, append_assoc, pairs_push ps p)

pub pairs_all : (ms : List ℕ) → pair_lines (first_chunks 2 (length ms / 2) ms) ≡ match_lines ms
unfolding pair_lines match_lines
pairs_all [] = refl
pairs_all (s ∷ []) = refl
pairs_all (s ∷ d ∷ ms) =
    let half : suc (suc (length ms)) / 2 ≡ suc (length ms / 2) = omega arith in
    ap (λ (k : ℕ). pair_lines (first_chunks 2 k (s ∷ d ∷ ms))) half ∙ ap (λ (l : List ℕ). line (109 ∷ []) (counts (s ∷ d ∷ [])) ++ l) (pairs_all ms)
