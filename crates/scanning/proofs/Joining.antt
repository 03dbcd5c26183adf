-- The best of some pairs and the first of others, which stand behind them by spot and then prediction, give the best of all of them. Assumes nothing.
use Rattle.std.proofs.Common.{◌≡◌, ◌⊎◌, ◌<◌, ◌≤◌, Bool, true, false, cond, Option, Some, None, ⊎_elim, refl, sym, ◌∙◌, arith}
use Rattle.std.proofs.lemmas.Bool.{or_left, false≢true}
use Rattle.std.proofs.lemmas.Grind.{common_steps}
use lib.Ieee.{lt, le}
use lib.Ieee.Bits.{is_true}
use Rattle.pairs.specs.Pairs.{Pair}
use Rattle.pairs.proofs.Monotone.{other_way}
use Rattle.matching.specs.Merge.{not_after}
use Rattle.matching.specs.Greedy.{Match}
use Rattle.matching.specs.Ordered.{Measured}
use Rattle.matching.specs.Meaning.{Frame, apart, Near}
use Rattle.matching.proofs.Theorems.{pairs_total, at_most}
use Rattle.matching.proofs.Nearness.{pair_of}
use Rattle.matching.proofs.Precedence.{near_measured}
use Rattle.scanning.specs.declared.scan.Found.{Found}
use Rattle.scanning.specs.Seeking.{match_at, pair_at, closer, FirstOf, BestOf}

-- Of two pairs the one stands before the other, or is it, by spot and then prediction.
abbrev pub Before : Match → Match → Type 0
Before m n = (m.spot < n.spot) ⊎ ((m.spot ≡ n.spot) × (m.prediction ≤ n.prediction))

-- a pair with a distance is not after itself
reflexive : (p : Pair) → Measured p → not_after p p ≡ true
reflexive p h = grind (arith, is_true _ (pairs_total.either p p h h))

nearer : (p q : Pair) → lt p.d2 q.d2 ≡ true → not_after p q ≡ true
unfolding not_after
nearer p q h = or_left _ _ h

-- a pair no farther than one that it stands before is not after it
level : (p q : Pair) → le p.d2 q.d2 ≡ true → (p.spot < q.spot) ⊎ ((p.spot ≡ q.spot) × (p.prediction ≤ q.prediction)) → not_after p q ≡ true
unfolding not_after le
level p q h b = grind (arith, common_steps)

module _ (f : Frame) where
  found_measured : (n : Found) → n.d2 ≡ apart f (match_at n) → Near f (match_at n) → Measured (pair_at n)
  found_measured n e h = at_most n.d2 f.radius_sq (rw e h.distance)

  -- a pair by itself is the first of those of its spot and prediction
  pub alone : (P : Match → Type 0) (n : Found) → n.d2 ≡ apart f (match_at n) → Near f (match_at n) → P (match_at n)
      → ((m : Match) → P m → m ≡ match_at n) → FirstOf f P n
  alone P n e h p only = record {
    distance = e;
    among = p;
    first = λ m q. rw (only m q) (rw (← e) (reflexive (pair_at n) (found_measured n e h)));
  }

  -- the best of some pairs is the best of the same pairs otherwise said
  pub restated : (P R : Match → Type 0) → ((m : Match) → P m → R m) → ((m : Match) → R m → P m) → (r : Option Found) → BestOf f P r → BestOf f R r
  restated P R to back None b = λ m h. b m (back m h)
  restated P R to back (Some n) b = record { distance = b.distance; among = to _ b.among; first = λ m h. b.first m (back m h) }

  module _ (P Q R : Match → Type 0) (near : (m : Match) → R m → Near f m) (parts : (m : Match) → R m → P m ⊎ Q m)
      (left : (m : Match) → P m → R m) (right : (m : Match) → Q m → R m) (before : (m n : Match) → P m → Q n → Before m n) where
    pub joined : (r : Option Found) (n : Found) → BestOf f P r → FirstOf f Q n → BestOf f R (closer r n)
    unfolding closer
    joined None n b q = record {
      distance = q.distance;
      among = right _ q.among;
      first = λ m h. ⊎_elim (λ (u : P m). absurd (b m u)) (λ u. q.first m u) (parts m h);
    }
    joined (Some p) n b q = by (lt n.d2 p.d2) refl
      where
        mp : Measured (pair_at p)
        mp = found_measured p b.distance (near _ (left _ b.among))

        mn : Measured (pair_at n)
        mn = found_measured n q.distance (near _ (right _ q.among))

        by : (t : Bool) → lt n.d2 p.d2 ≡ t → BestOf f R (cond t (Some n) (Some p))
        by true e = record {
          distance = q.distance;
          among = right _ q.among;
          first = λ m h.
              ⊎_elim
              (λ (u : P m).
              pairs_total.through (pair_at n) (pair_at p) (pair_of f m) mn mp (near_measured f m (near m h)) (nearer (pair_at n) (pair_at p) e) (b.first m u))
              (λ u. q.first m u)
              (parts m h);
        }
        by false e = record {
          distance = b.distance;
          among = left _ b.among;
          first = λ m h.
              ⊎_elim
              (λ u. b.first m u)
              (λ (u : Q m).
              pairs_total.through (pair_at p) (pair_at n) (pair_of f m) mp mn (near_measured f m (near m h))
              (level (pair_at p) (pair_at n)
              (is_true _ (other_way n.d2 p.d2 mn mp (λ t. false≢true (sym e ∙ is_true _ t))))
              (before _ _ b.among q.among))
              (q.first m u))
              (parts m h);
        }
