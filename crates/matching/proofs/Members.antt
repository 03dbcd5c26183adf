-- Which elements a list has, and lists in which each element is related to all that follow. Assumes nothing.
use Rattle.std.proofs.Common.{◌≡◌, ◌⊎◌, List, [], ◌∷◌, ◌++◌, inl, inr, refl, subst}
use Rattle.pairs.specs.Elements.{All, none, more}
use Rattle.pairs.proofs.Elements.{all_head, all_tail}

unfoldable pub Has : {A : Type 0} → A → List A → Type 0
Has x [] = ⊥
Has x (y ∷ l) = (y ≡ x) ⊎ Has x l

-- what holds of whatever a list has holds of all of it, and the other way round
pub all_has : {A : Type 0} (P : A → Type 0) (l : List A) → ((x : A) → Has x l → P x) → All P l
unfolding Has
all_has P [] h = none
all_has P (x ∷ l) h = more x l (h x (inl refl)) (all_has P l (λ y q. h y (inr q)))

pub has_all : {A : Type 0} (P : A → Type 0) (l : List A) → All P l → (x : A) → Has x l → P x
unfolding Has
has_all P [] h x q = absurd q
has_all P (y ∷ l) h x (inl e) = subst P e (all_head P h)
has_all P (y ∷ l) h x (inr q) = has_all P l (all_tail P h) x q

module _ {A : Type 0} (x : A) where
  pub has_front : (l m : List A) → Has x l → Has x (l ++ m)
  unfolding Has
  has_front [] m h = absurd h
  has_front (y ∷ l) m (inl e) = inl e
  has_front (y ∷ l) m (inr h) = inr (has_front l m h)

  pub has_back : (l m : List A) → Has x m → Has x (l ++ m)
  unfolding Has
  has_back [] m h = h
  has_back (y ∷ l) m h = inr (has_back l m h)

-- each is related to all that follow
unfoldable pub Chain : {A : Type 0} → (A → A → Type 0) → List A → Type 0
Chain R [] = Unit
Chain R (x ∷ l) = All (R x) l × Chain R l
