-- A list that is laid over another's front, place by place. Assumes nothing.
use Rattle.std.proofs.Common.{◌≡◌, ℕ, ◌+◌, ◌<◌, ◌≤◌, List, [], ◌∷◌, length, get_or, drop, set, sym, ap, ◌∙◌, add-one, drop_of_length-le, drop-cons}
use Rattle.lists.specs.Fronted.{fronted}
use Rattle.query.proofs.Listed.{Writing, onward, front_push, front_whole}

module _ (new o l : List ℕ) (i : ℕ) (w : Writing 0 i l o (drop i new) new) where
  pub lay_next : i < length new → i < length l → Writing 0 (i + 1) (set l i (get_or new i 0)) o (drop (i + 1) new) new
  lay_next h k =
      let e : drop i new ≡ get_or new i 0 ∷ drop (i + 1) new = drop-cons new i 0 h ∙ ap (λ (j : ℕ). get_or new i 0 ∷ drop j new) (sym (add-one i)) in
      front_push i l o (get_or new i 0) (onward e w) k

  pub lay_done : length new ≤ i → i ≤ length l → l ≡ fronted new o
  lay_done h k =
      let e : drop i new ≡ [] = drop_of_length-le new h in
      front_whole i l o (onward e w) k
