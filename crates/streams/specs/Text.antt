-- What the programs print of a file of entries. Definitions only. Assumes nothing.
use Rattle.std.specs.Prelude.{ℕ, List, ◌++◌, codes, decimal, Result, Ok, Err}
use Rattle.streams.specs.declared.Unread.{Unread}
use Rattle.streams.specs.declared.Unread.TheVariants.{NotOpened, TooLong}
use Rattle.streams.specs.declared.entries.Tally.{Tally}

-- Why it is not to be had,
unfoldable pub unread_text : Unread → List ℕ
unread_text NotOpened = codes "not to be opened"
unread_text TooLong = codes "too long"

-- or how many of its entries came out as expected, and how many did not.
abbrev pub tally_text : Tally → List ℕ
tally_text t = decimal t.same ++ codes " as expected, " ++ decimal t.other ++ codes " not"

-- The one or the other.
unfoldable pub told_text : Result Tally Unread → List ℕ
unfolding unread_text
told_text (Ok t) = tally_text t
told_text (Err why) = unread_text why
