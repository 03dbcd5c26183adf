-- A list whose front was cleared. Definitions only. Assumes nothing.
use Rattle.std.specs.Prelude.{List, ◌++◌, ℕ, min, length, drop, replicate}

-- The first n places hold z, all of them where there are fewer; the others are as they were.
unfoldable pub cleared : {A : Type 0} → A → ℕ → List A → List A
cleared z n l = replicate (min n (length l)) z ++ drop n l
