-- Pairs that share a spot or a prediction, and the matcher's list as what is picked of the pairs in order (`Picking.antt`). Assumes nothing.
use Rattle.std.proofs.Common.{◌≡◌, Bool, true, false, cond, ◌||◌, List, [], ◌∷◌, inl, inr, refl, sym, ap, ap₂, ◌∙◌}
use Rattle.std.specs.Bool.{Decides}
use Rattle.std.proofs.lemmas.Bool.Decides.{Decides-or, Decides-eqb}
use lib.Dec.{eqb}
use Rattle.pairs.specs.Pairs.{Pair}
use Rattle.pairs.specs.Elements.{All, none, more}
use Rattle.pairs.proofs.Elements.{all_head, all_tail}
use Rattle.matching.specs.Greedy.{Match, clashes, assigned}
use Rattle.matching.specs.Meaning.{Share}
use Rattle.matching.proofs.Members.{Has}
use Rattle.matching.proofs.Picking.{both_ways, clash, picked}

-- ---- the test

pub share : Match → Match → Bool
share m n = eqb m.spot n.spot || eqb m.prediction n.prediction

says : (m n : Match) → Decides (share m n) (Share m n)
unfolding share
says m n = Decides-or _ _ (Decides-eqb m.spot n.spot) (Decides-eqb m.prediction n.prediction)

pub shares : (m n : Match) → Share m n → share m n ≡ true
shares m n = (says m n).1

pub shared : (m n : Match) → share m n ≡ true → Share m n
shared m n = (says m n).0

pub share_self : (m : Match) → share m m ≡ true
share_self m = shares m m (inl refl)

pub turned_round : (m n : Match) → Share m n → Share n m
turned_round m n (inl e) = inl (sym e)
turned_round m n (inr e) = inr (sym e)

-- nothing clashes where nothing was taken
pub none_free : (m : Match) → clash share m [] ≡ false
unfolding clash
none_free m = refl

pub none_taken : (m : Match) → clash share m [] ≡ true → ⊥
none_taken m c = both_ways c (none_free m)

-- ---- pairs as matches

unfoldable pub match_of : Pair → Match
match_of p = record { spot = p.spot; prediction = p.prediction }

unfoldable pub mapped : List Pair → List Match
mapped [] = []
mapped (p ∷ ps) = match_of p ∷ mapped ps

pub mapped_has : (ps : List Pair) (p : Pair) → Has p ps → Has (match_of p) (mapped ps)
unfolding Has mapped
mapped_has [] p h = h
mapped_has (q ∷ ps) p (inl e) = inl (ap match_of e)
mapped_has (q ∷ ps) p (inr h) = inr (mapped_has ps p h)

-- what holds of all pairs holds of the matches
pub mapped_all : (P : Pair → Type 0) (Q : Match → Type 0) → ((p : Pair) → P p → Q (match_of p)) → (ps : List Pair) → All P ps → All Q (mapped ps)
unfolding mapped
mapped_all P Q f [] h = none
mapped_all P Q f (p ∷ ps) h = more (match_of p) (mapped ps) (f p (all_head P h)) (mapped_all P Q f ps (all_tail P h))

-- ---- what is assigned is what is picked

pub clashes_clash : (p : Pair) (ms : List Match) → clashes p ms ≡ clash share (match_of p) ms
unfolding clashes clash share match_of
clashes_clash p [] = refl
clashes_clash p (m ∷ ms) =
    ap (λ (b : Bool). eqb p.spot m.spot || eqb p.prediction m.prediction || b) (clashes_clash p ms)

pub assigned_picked : (ps : List Pair) (taken : List Match) → assigned taken ps ≡ picked share taken (mapped ps)
unfolding assigned picked mapped match_of
assigned_picked [] taken = refl
assigned_picked (p ∷ ps) taken =
    ap₂ (λ (a b : List Match). cond (clashes p taken) a (match_of p ∷ b)) (assigned_picked ps taken) (assigned_picked ps (match_of p ∷ taken))
    ∙ ap (λ (b : Bool). cond b (picked share taken (mapped ps)) (match_of p ∷ picked share (match_of p ∷ taken) (mapped ps))) (clashes_clash p taken)
