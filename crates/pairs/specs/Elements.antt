-- The elements of a list: how often each is there, and what holds of all of them. Definitions only. Assumes nothing.
use Rattle.std.specs.Prelude.{◌≡◌, ℕ, ◌+◌, Bool, true, false, List, [], ◌∷◌}

-- How often a test holds along a list.
unfoldable pub counted : {A : Type 0} → (A → Bool) → List A → ℕ
counted t [] = 0
counted t (x ∷ xs) = mark (t x) + counted t xs
  where
    mark : Bool → ℕ
    mark true = 1
    mark false = 0

-- Two lists have the same elements, each as often: every test counts the same on both.
abbrev pub SameElements : {A : Type 0} → List A → List A → Type 0
SameElements {A} xs ys = (t : A → Bool) → counted t xs ≡ counted t ys

-- P holds of every element.
pub data All {A : Type 0} (P : A → Type 0) : List A → Type 0 where
  none : All P []
  more : (x : A) (l : List A) → P x → All P l → All P (x ∷ l)
