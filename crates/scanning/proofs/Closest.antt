-- What is assigned of the pairs in order begins with the closest free pair, and goes on with what is assigned once that one is taken. Assumes nothing.
use Rattle.std.proofs.Common.{◌≡◌, Bool, true, false, List, [], ◌∷◌, inl, inr, ⊎_elim, refl, sym, ap, subst, ◌∙◌}
use Rattle.matching.specs.Greedy.{Match, assigned}
use Rattle.matching.specs.Meaning.{Frame, Near}
use Rattle.matching.proofs.Members.{Has, has_all, Chain}
use Rattle.matching.proofs.Picking.{both_ways, either_way, clash, clash_first, clash_rest, picked, picked_clash, picked_free}
use Rattle.matching.proofs.Sharing.{share, share_self, mapped, assigned_picked}
use Rattle.matching.proofs.Nearness.{in_order, near_there, there_near}
use Rattle.matching.proofs.Precedence.{NotAfter, against, strict, pairs_chain}

-- ---- what is picked of a list in order

module _ {A : Type 0} (share : A → A → Bool) where
  none_picked : (S taken : List A) → ((x : A) → Has x S → clash share x taken ≡ true) → picked share taken S ≡ []
  unfolding picked Has
  none_picked [] taken h = refl
  none_picked (x ∷ S) taken h = picked_clash share taken x S (h x (inl refl)) ∙ none_picked S taken (λ y q. h y (inr q))

  -- L: not after
  module _ (L : A → A → Type 0) (self : (x : A) → share x x ≡ true) (apart : (x y : A) → L x y → L y x → x ≡ y) where
    -- what is free, and not after anything else that is free, is picked first: what stands before it clashes, and clashes with more too
    first_picked : (S taken : List A) (m : A) → Chain L S → Has m S → clash share m taken ≡ false
        → ((x : A) → Has x S → clash share x taken ≡ false → L m x) → picked share taken S ≡ m ∷ picked share (m ∷ taken) S
    unfolding Chain Has
    first_picked [] taken m c q free first = absurd q
    first_picked (x ∷ S) taken m c q free first =
        either_way (clash share x taken)
        (λ e.
        let later = ⊎_elim (λ (u : x ≡ m). absurd (both_ways (subst (λ (z : A). clash share z taken ≡ true) u e) free)) (λ (u : Has m S). u) q in
        picked_clash share taken x S e ∙ first_picked S taken m c.1 later free (λ y p. first y (inr p))
        ∙ ap (λ (l : List A). m ∷ l) (sym (picked_clash share (m ∷ taken) x S (clash_rest share x m taken e))))
        (λ e.
        let same = ⊎_elim (λ (u : x ≡ m). u) (λ (u : Has m S). apart x m (has_all (L x) S c.0 m u) (first x (inl refl) e)) q in
        subst (λ (z : A). picked share taken (x ∷ S) ≡ z ∷ picked share (z ∷ taken) (x ∷ S)) same
        (picked_free share taken x S e
        ∙ ap (λ (l : List A). x ∷ l) (sym (picked_clash share (x ∷ taken) x S (clash_first share x x taken (self x))))))

-- ---- what is assigned of the pairs in order

module _ (f : Frame) (taken : List Match) where
  -- the closest of the pairs within the radius that share nothing with what was taken
  pub record FirstFree (m : Match) : Type 0 where
    pub near : Near f m
    pub free : clash share m taken ≡ false
    pub first : (n : Match) → Near f n → clash share n taken ≡ false → NotAfter f m n

  pub begins : (m : Match) → FirstFree m → assigned taken (in_order f) ≡ m ∷ assigned (m ∷ taken) (in_order f)
  begins m h =
      assigned_picked (in_order f) taken
      ∙ first_picked share (NotAfter f) share_self (λ x y p q. ⊎_elim (λ e. e) (λ e. absurd (against f y x q e)) (strict f x y p))
      (mapped (in_order f)) taken m (pairs_chain f) (near_there f m h.near) h.free (λ n q. h.first n (there_near f n q))
      ∙ ap (λ (l : List Match). m ∷ l) (sym (assigned_picked (in_order f) (m ∷ taken)))

  pub ended : ((n : Match) → Near f n → clash share n taken ≡ true) → assigned taken (in_order f) ≡ []
  ended h = assigned_picked (in_order f) taken ∙ none_picked share (mapped (in_order f)) taken (λ n q. h n (there_near f n q))
