-- One spot's predictions gone over: which of them are marked, and which pair is the best so far. Assumes nothing.
use Rattle.std.proofs.Common.{◌≡◌, ℕ, ◌+◌, ◌<◌, ◌≤◌, true, false, cond, not, ◌&&◌, List, length, get_or, set, Option, inl, inr, ⊎_elim, refl, sym, ◌∙◌, le_refl, arith}
use Rattle.std.proofs.lemmas.Bool.{false≢true, not_from_true, not_from_false, eq-eqb, ne_eqb}
use lib.Ieee.{Float, le}
use Rattle.lists.proofs.Cases.{below_or}
use Rattle.pairs.specs.declared.search.Search.{Search}
use Rattle.matching.specs.Greedy.{Match}
use Rattle.matching.specs.Meaning.{apart, Near}
use Rattle.matching.proofs.Precedence.{same_match}
use Rattle.scanning.specs.declared.scan.Found.{Found}
use Rattle.scanning.specs.Seeking.{frame_of, predictions, marks, gone, free, OfSpot, closer, FirstOf, BestOf}
use Rattle.scanning.proofs.Marking.{Marked, mark_left, mark_put}
use Rattle.scanning.proofs.Joining.{alone, restated, joined}

abbrev pub match : ℕ → ℕ → Match
match i j = record { spot = i; prediction = j }

-- ---- a pair's marks

module _ (s : Search) (w : List ℕ) (m : Match) where
  pub free_parts : free s w m ≡ true → (gone w m.spot ≡ false) × (gone w (s.np + m.prediction) ≡ false)
  unfolding free
  free_parts h = grind arith

  pub free_from : gone w m.spot ≡ false → gone w (s.np + m.prediction) ≡ false → free s w m ≡ true
  unfolding free
  free_from h k = grind arith

-- ---- the loop

module _ (s : Search) (spot : ℕ) (W : List ℕ) where
  -- a prediction's mark once it was looked at
  abbrev pub look : ℕ → ℕ
  look j = cond (not (gone W (s.np + j)) && le (apart (frame_of s) (match spot j)) s.radius_sq) 2 (get_or W (s.np + j) 0)

  -- the pairs that were looked at
  pub record Passed (j : ℕ) (m : Match) : Type 0 where
    pub of : OfSpot s spot W m
    pub passed : m.prediction < j

  pub record Looking (w : List ℕ) (j : ℕ) (found : Option Found) : Type 0 where
    pub marked : Marked s.np (predictions s) look W w j
    pub best : BestOf (frame_of s) (Passed j) found

  module _ (w : List ℕ) (j : ℕ) (best : Option Found) (l : Looking w j best) where
    same : get_or w (s.np + j) 0 ≡ get_or W (s.np + j) 0
    same = l.marked.rest j (le_refl j)

    -- the next pair is none that may be taken
    passed_by : ((m : Match) → OfSpot s spot W m → m.prediction ≡ j → ⊥) → BestOf (frame_of s) (Passed (j + 1)) best
    passed_by none =
        restated (frame_of s) (Passed j) (Passed (j + 1))
        (λ m p. record { of = p.of; passed = omega (arith, p.passed) })
        (λ m p. record { of = p.of; passed = ⊎_elim (λ u. u) (λ (u : j ≤ m.prediction). absurd (none m p.of (omega (arith, p.passed)))) (below_or m.prediction j) })
        best l.best

    pub look_gone : get_or w (s.np + j) 0 ≡ 1 → Looking w (j + 1) best
    look_gone e =
        let g : gone W (s.np + j) ≡ true = eq-eqb _ 1 (sym same ∙ e) in
        record {
          marked = mark_left s.np (predictions s) look W w j l.marked (rw (not_from_true _ g) same);
          best = passed_by (λ m p q. false≢true (sym (free_parts s W m p.takeable.free).1 ∙ rw q g));
        }

    module _ (ne : get_or w (s.np + j) 0 ≡ 1 → ⊥) where
      not_gone : gone W (s.np + j) ≡ false
      not_gone = ne_eqb _ 1 (λ e. ne (same ∙ e))

      pub look_far : (le (apart (frame_of s) (match spot j)) s.radius_sq ≡ false) → Looking w (j + 1) best
      look_far far =
          record {
            marked = mark_left s.np (predictions s) look W w j l.marked (rw (not_from_false _ not_gone, far) same);
            best = passed_by (λ m p q. false≢true (sym far ∙ rw (← p.spot, ← q) p.takeable.near.distance));
          }

      module _ (room : marks s ≤ length W) (h : j < predictions s) (here : spot < s.np) (not_spot : gone W spot ≡ false)
          (d : Float) (e : d ≡ apart (frame_of s) (match spot j)) (near : le d s.radius_sq ≡ true) where
        abbrev pub next : Found
        next = record { d2 = d; spot = spot; prediction = j }

        next_near : Near (frame_of s) (match spot j)
        next_near = record { spot = omega (arith, s.fits); prediction = h; distance = rw (← e) near }

        abbrev Next : Match → Type 0
        Next m = OfSpot s spot W m × (m.prediction ≡ j)

        first : FirstOf (frame_of s) Next next
        first = alone (frame_of s) Next next e next_near
            (record { spot = refl; takeable = record { near = next_near; free = free_from s W (match spot j) not_spot not_gone } }, refl)
            (λ m q. same_match m (match spot j) q.0.spot q.1)

        pub look_near : Looking (set w (s.np + j) 2) (j + 1) (closer best next)
        look_near = record {
          marked = mark_put s.np (predictions s) look W w j l.marked room h 2 (rw (not_from_false _ not_gone, ← e, near) refl);
          best = joined (frame_of s) (Passed j) Next (Passed (j + 1))
              (λ m p. p.of.takeable.near)
              (λ m p. ⊎_elim (λ u. inl (record { of = p.of; passed = u })) (λ (u : j ≤ m.prediction). inr (p.of, omega (arith, p.passed))) (below_or m.prediction j))
              (λ m p. record { of = p.of; passed = omega (arith, p.passed) })
              (λ m q. record { of = q.0; passed = omega (arith, q.1) })
              (λ m n p q. inr (p.of.spot ∙ sym q.0.spot, omega (arith, p.passed, q.1)))
              best next l.best first;
        }
