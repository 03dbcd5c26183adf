-- The code's side of the entry: a row of the rotation, and what the settings mean. Definitions only. Assumes nothing.
use Rattle.std.specs.Prelude.{Bool, ◌&&◌, List, Float}
use Rattle.solve.specs.Vector.{at}
use Rattle.entry.specs.Check.{lawful_component}
use Rattle.entry.specs.Fixed.{Fixed}
use Rattle.entry.specs.declared.Settings.{Settings}

-- 9, of a row of the rotation: the code looks at the rotation row by row.
unfoldable pub row_fits : List Float → Bool
row_fits v = lawful_component (at v 0) && lawful_component (at v 1) && lawful_component (at v 2)

-- What the code's settings mean.
abbrev pub fixed_of : Settings → Fixed
fixed_of k = record {
  scale = k.scale;
  mirror = k.mirror;
  radius = k.radius;
  limit = k.limit;
  matcher = k.matcher;
  count = k.count;
  capacity = k.capacity;
  cut = k.cut;
  far = k.far;
}
