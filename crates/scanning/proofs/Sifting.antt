-- A scan over the spots: which marks have changed, and which pair is the best so far. Assumes nothing.
use Rattle.std.proofs.Common.{◌≡◌, ◌⊎◌, ℕ, ◌+◌, ◌-◌, ◌<◌, ◌≤◌, true, List, length, get_or, set, Option, inl, inr, ⊎_elim, ◌∙◌, arith, length-set}
use Rattle.std.proofs.lemmas.Grind.{common_steps}
use lib.Seq.{drop-set-lt}
use Rattle.lists.proofs.Cases.{below_or}
use Rattle.pairs.specs.declared.search.Search.{Search}
use Rattle.matching.specs.Greedy.{Match}
use Rattle.matching.specs.Meaning.{Near}
use Rattle.scanning.specs.declared.scan.Found.{Found}
use Rattle.scanning.specs.Seeking.{frame_of, marks, gone, free, Takeable, OfSpot, Behind, Looked, Sifted, Settled, closer, FirstOf, BestOf}
use Rattle.scanning.proofs.Joining.{restated, joined}

module _ (s : Search) where
  pub spot_in : (m : Match) → Near (frame_of s) m → m.spot < s.np
  spot_in m h = omega (arith, h.spot)

  module _ (W : List ℕ) where
    -- the pairs that could be taken at first, of the spots that were gone over
    pub record Over (i : ℕ) (m : Match) : Type 0 where
      pub takeable : Takeable s W m
      pub spot : m.spot < i

    pub record Scanning (w : List ℕ) (i : ℕ) (found : Option Found) : Type 0 where
      pub sifted : Sifted s W w
      pub seen : (m : Match) → Over i m → get_or w (s.np + m.prediction) 0 ≡ 2
      pub best : BestOf (frame_of s) (Over i) found

    module _ (w : List ℕ) (i : ℕ) (found : Option Found) (c : Scanning w i found) where
      over_next : (m : Match) → Over (i + 1) m → Over i m ⊎ (m.spot ≡ i)
      over_next m o = ⊎_elim (λ u. inl (record { takeable = o.takeable; spot = u })) (λ (u : i ≤ m.spot). inr (omega (arith, o.spot))) (below_or m.spot i)

      over_more : (m : Match) → Over i m → Over (i + 1) m
      over_more m o = record { takeable = o.takeable; spot = omega (arith, o.spot) }

      -- of the next spot no pair may be taken: the best stays
      best_left : ((m : Match) → Takeable s W m → m.spot ≡ i → ⊥) → BestOf (frame_of s) (Over (i + 1)) found
      best_left none = restated (frame_of s) (Over i) (Over (i + 1)) over_more (λ m o. ⊎_elim (λ u. u) (λ u. absurd (none m o.takeable u)) (over_next m o)) found c.best

      -- the spot is gone
      pub scan_gone : get_or w i 0 ≡ 1 → Scanning w (i + 1) found
      unfolding free
      scan_gone e =
          let none : (m : Match) → Takeable s W m → m.spot ≡ i → ⊥ = λ m t q. grind (arith, c.sifted.free m t) in
          record { sifted = c.sifted; seen = λ m o. ⊎_elim (λ u. c.seen m u) (λ u. absurd (none m o.takeable u)) (over_next m o); best = best_left none }

      module _ (h : i < s.np) (w' : List ℕ) (l : Looked s i w w') where
        -- a pair of the spot may be taken now where it could be at first
        now : (m : Match) → Takeable s W m → m.spot ≡ i → OfSpot s i w m
        now m t q = record { spot = q; takeable = record { near = t.near; free = c.sifted.free m t } }

        at_first : (m : Match) → OfSpot s i w m → Takeable s W m
        unfolding free
        at_first m o =
            let near = o.takeable.near in
            record { near = near; free = grind (arith, o.takeable.free, spot_in m near, near.prediction, c.sifted.gone m.spot, c.sifted.gone (s.np + m.prediction)) }

        looked_gone : (k : ℕ) → k < marks s → gone W k ≡ true → gone w' k ≡ true
        looked_gone k u g = grind (arith, c.sifted.gone k, l.spots k, l.predictions (k - s.np))

        looked_free : (m : Match) → Takeable s W m → free s w' m ≡ true
        unfolding free
        looked_free m t = grind (arith, c.sifted.free m t, spot_in m t.near, t.near.prediction, l.spots m.spot, l.predictions m.prediction)

        looked_seen : (m : Match) → Over (i + 1) m → get_or w' (s.np + m.prediction) 0 ≡ 2
        unfolding free
        looked_seen m o =
            let near = o.takeable.near in
            grind (arith, o.spot, c.seen m, c.sifted.free m o.takeable, near.distance, near.prediction, l.predictions m.prediction)

        looked_behind : Behind s W w'
        looked_behind = record { long = l.behind.long ∙ c.sifted.behind.long; beyond = l.behind.beyond ∙ c.sifted.behind.beyond }

        -- one of its pairs is the closest
        pub scan_found : (n : Found) → FirstOf (frame_of s) (OfSpot s i w) n → Scanning w' (i + 1) (closer found n)
        scan_found n b = record {
          sifted = record { behind = looked_behind; gone = looked_gone; free = looked_free };
          seen = looked_seen;
          best = joined (frame_of s) (Over i) (OfSpot s i w) (Over (i + 1))
              (λ m o. o.takeable.near)
              (λ m o. ⊎_elim (λ u. inl u) (λ u. inr (now m o.takeable u)) (over_next m o))
              over_more
              (λ m o. record { takeable = at_first m o; spot = omega (arith, o.spot) })
              (λ m n p q. inl (omega (arith, p.spot, q.spot)))
              found n c.best b;
        }

        -- it has none, and is gone
        pub scan_none : marks s ≤ length W → ((m : Match) → OfSpot s i w m → ⊥) → Scanning (set w' i 1) (i + 1) found
        unfolding free
        scan_none room nothing =
            let none : (m : Match) → Takeable s W m → m.spot ≡ i → ⊥ = λ m t q. nothing m (now m t q) in
            let long : length w' ≡ length W = looked_behind.long in
            record {
              sifted = record {
                behind = record { long = rw length-set long; beyond = rw (drop-set-lt (marks s) w' i 1 (omega arith)) looked_behind.beyond };
                gone = λ k u g. grind (arith, common_steps, looked_gone k u g);
                free = λ m t. grind (arith, common_steps, looked_free m t, none m t);
              };
              seen = λ m o. grind (arith, common_steps, looked_seen m o);
              best = best_left none;
            }

      -- all spots were gone over, and the predictions' marks put right
      module _ (all : s.np ≤ i) (w' : List ℕ) (p : Settled s w w') where
        over_all : (m : Match) → Takeable s W m → Over i m
        over_all m t = record { takeable = t; spot = omega (arith, spot_in m t.near) }

        pub all_scanned : BestOf (frame_of s) (Takeable s W) found × Sifted s W w'
        unfolding free
        all_scanned = (
          restated (frame_of s) (Over i) (Takeable s W) (λ m o. o.takeable) over_all found c.best,
          record {
            behind = record { long = p.behind.long ∙ c.sifted.behind.long; beyond = p.behind.beyond ∙ c.sifted.behind.beyond };
            gone = λ k u g. grind (arith, c.sifted.gone k, p.spots k, p.predictions (k - s.np));
            free = λ m t.
                grind (arith, c.sifted.free m t, spot_in m t.near, t.near.prediction, p.spots m.spot, p.predictions m.prediction, c.seen m (over_all m t));
          },
        )
