-- Text laid into a list of bytes, one byte after another. Definitions only. Assumes nothing.
use Rattle.std.specs.Prelude.{◌≡◌, ℕ, ◌+◌, cond, List, [], ◌∷◌, ltb, length, set}
use Rattle.printing.specs.declared.laying.Writer.{Writer}

-- A list of bytes, and the place where the next byte goes.
pub record Laid : Type 0 where
  pub at : ℕ
  pub bytes : List ℕ

-- The two together.
abbrev pub laid : ℕ → List ℕ → Laid
laid i l = record { at = i; bytes = l }

-- What a writer has laid so far.
abbrev pub laid_by : Writer → Laid
laid_by w = laid w.at w.room.now

-- One byte: written where there is a place for it, and lost otherwise.
unfoldable pub put : ℕ → Laid → Laid
put b s = cond (ltb s.at (length s.bytes)) (laid (s.at + 1) (set s.bytes s.at b)) s

-- A text, byte after byte.
unfoldable pub pushed : List ℕ → Laid → Laid
unfolding put
pushed [] s = s
pushed (b ∷ bs) s = pushed bs (put b s)

-- The text is laid from x on, and leaves y.
pub record Lays (text : List ℕ) (x y : Laid) : Type 0 where
  pub so : y ≡ pushed text x

-- A function of a writer: the text is laid on into the same list.
pub record Writes (text : List ℕ) (before after : Writer) : Type 0 where
  pub same : after.room.ghost_name ≡ before.room.ghost_name
  pub lays : Lays text (laid_by before) (laid_by after)
