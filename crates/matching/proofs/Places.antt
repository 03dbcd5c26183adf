-- What the page `specs/Meaning.antt` says by places, as what holds of each element and of all that follow it, and back. Assumes nothing.
use Rattle.std.proofs.Common.{◌≡◌, ℕ, zero, suc, false, List, [], ◌∷◌, inl, inr, ⊎_elim, refl, sym, ap, subst, ◌∙◌}
use Rattle.pairs.specs.Elements.{All, none, more}
use Rattle.pairs.proofs.Elements.{all_head, all_tail}
use Rattle.matching.specs.Greedy.{Match}
use Rattle.matching.specs.Meaning.{Frame, At, Taken, Share, Near, Earlier, Once, Ordered}
use Rattle.matching.proofs.Members.{Has, all_has, has_all, Chain}
use Rattle.matching.proofs.Picking.{both_ways, Free}
use Rattle.matching.proofs.Sharing.{share, share_self, shares, turned_round}
use Rattle.matching.proofs.Precedence.{NotAfter, strict, through}

pub at_has : (l : List Match) (i : ℕ) (m : Match) → At l i m → Has m l
unfolding At Has
at_has [] i m h = h
at_has (x ∷ l) zero m h = inl h
at_has (x ∷ l) (suc i) m h = inr (at_has l i m h)

pub has_at : (l : List Match) (m : Match) → Has m l → Taken l m
unfolding At Has
has_at [] m h = absurd h
has_at (x ∷ l) m (inl e) = (0, e)
has_at (x ∷ l) m (inr h) = let r = has_at l m h in (suc r.0, r.1)

-- a place holds one pair
pub at_same : (l : List Match) (i : ℕ) (m n : Match) → At l i m → At l i n → m ≡ n
unfolding At
at_same [] i m n a b = absurd a
at_same (x ∷ l) zero m n a b = sym a ∙ b
at_same (x ∷ l) (suc i) m n a b = at_same l i m n a b

module _ (f : Frame) where
  -- each shares nothing with any that follows: used once
  pub chain_once : (l : List Match) → Chain (Free share) l → Once f l
  unfolding Chain At
  chain_once [] c i j m n a b s = absurd a
  chain_once (x ∷ l) c zero zero m n a b s = refl
  chain_once (x ∷ l) c zero (suc j) m n a b s =
      absurd (both_ways (shares n x (subst (Share n) (sym a) (turned_round m n s))) (has_all (Free share x) l c.0 n (at_has l j n b)))
  chain_once (x ∷ l) c (suc i) zero m n a b s =
      absurd (both_ways (shares m x (subst (Share m) (sym b) s)) (has_all (Free share x) l c.0 m (at_has l i m a)))
  chain_once (x ∷ l) c (suc i) (suc j) m n a b s = ap suc (chain_once l c.1 i j m n a b s)

  -- in order: each is earlier than any that follows
  pub ordered_chain : (l : List Match) → All (Near f) l → Ordered f l → Chain (Earlier f) l
  unfolding Chain At
  ordered_chain [] g o = tt
  ordered_chain (x ∷ l) g o =
      let rest = ordered_chain l (all_tail (Near f) g) (λ i m n a b. o (suc i) m n a b) in
      (first l (all_tail (Near f) g) rest (λ y a. o 0 x y refl a), rest)
    where
      first : (l : List Match) → All (Near f) l → Chain (Earlier f) l → ((y : Match) → At l 0 y → Earlier f x y) → All (Earlier f x) l
      first [] k c h = none
      first (y ∷ l) k c h =
          let s = h y refl in
          more y l s
          (all_has (Earlier f x) l
          (λ z q. through f x y z (all_head (Near f) g) (all_head (Near f) k) (has_all (Near f) l (all_tail (Near f) k) z q) s (has_all (Earlier f y) l c.0 z q)))

  -- what is not after the next and shares nothing with it is earlier
  pub chain_ordered : (l : List Match) → Chain (NotAfter f) l → Chain (Free share) l → Ordered f l
  unfolding Chain At
  chain_ordered [] c d i m n a b = absurd a
  chain_ordered (x ∷ l) c d zero m n a b =
      let q = at_has l 0 n b in
      subst (λ (z : Match). Earlier f z n) a
      (⊎_elim
      (λ (e : x ≡ n). absurd (both_ways (share_self n) (subst (λ (z : Match). share n z ≡ false) e (has_all (Free share x) l d.0 n q))))
      (λ s. s)
      (strict f x n (has_all (NotAfter f x) l c.0 n q)))
  chain_ordered (x ∷ l) c d (suc i) m n a b = chain_ordered l c.1 d.1 i m n a b
