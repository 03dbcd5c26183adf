-- A list whose front was written over. Definitions only. Assumes nothing.
use Rattle.std.specs.Prelude.{List, ◌++◌, length, drop}

-- New things at the front of a list, the rest as it was.
abbrev pub fronted : {A : Type 0} → List A → List A → List A
fronted new l = new ++ drop (length new) l
