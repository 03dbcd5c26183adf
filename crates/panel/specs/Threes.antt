-- Three things that lie together in a flat list. Definitions only. Assumes nothing.
use Rattle.std.specs.Prelude.{ℕ, ◌+◌, ◌*◌, List, [], ◌∷◌, get_or}

-- The three from place 3 i on; past the list's end each reads as `past`.
unfoldable pub three_at : {A : Type 0} → List A → ℕ → A → List A
three_at list i past = get_or list (3 * i) past ∷ get_or list (3 * i + 1) past ∷ get_or list (3 * i + 2) past ∷ []
