-- A loop that goes over the marks of the predictions, behind those of the spots, and may write each in turn. Assumes nothing.
use Rattle.std.proofs.Common.{below_more, ◌≡◌, ◌≢◌, ℕ, ◌+◌, ◌<◌, ◌≤◌, List, length, get_or, drop, set, ◌∙◌, arith, length-set, get_or-set_same, get_or-set_other}
use lib.Seq.{drop-set-lt}

-- Behind np marks of spots and nq of predictions nothing was written, nor to a spot's; the first j predictions' marks are as `f` says, and the others as
-- they were.
pub record Marked (np nq : ℕ) (f : ℕ → ℕ) (W w : List ℕ) (j : ℕ) : Type 0 where
  pub long : length w ≡ length W
  pub beyond : drop (np + nq) w ≡ drop (np + nq) W
  pub spots : (i : ℕ) → i < np → get_or w i 0 ≡ get_or W i 0
  pub done : (k : ℕ) → k < j → get_or w (np + k) 0 ≡ f k
  pub rest : (k : ℕ) → j ≤ k → get_or w (np + k) 0 ≡ get_or W (np + k) 0

module _ (np nq : ℕ) (f : ℕ → ℕ) (W w : List ℕ) (j : ℕ) (m : Marked np nq f W w j) where
  -- the next mark is left as it is,
  pub mark_left : get_or w (np + j) 0 ≡ f j → Marked np nq f W w (j + 1)
  mark_left e = record {
    long = m.long;
    beyond = m.beyond;
    spots = m.spots;
    done = below_more (λ (k : ℕ). get_or w (np + k) 0 ≡ f k) j m.done e;
    rest = λ k h. m.rest k (omega arith);
  }

  -- or written
  pub mark_put : np + nq ≤ length W → j < nq → (v : ℕ) → v ≡ f j → Marked np nq f W (set w (np + j) v) (j + 1)
  mark_put room h v e =
      let others : (k : ℕ) → k ≢ np + j → get_or (set w (np + j) v) k 0 ≡ get_or w k 0 = λ k. get_or-set_other w (np + j) k v 0 in
      record {
        long = rw length-set m.long;
        beyond = rw (drop-set-lt (np + nq) w (np + j) v (omega arith)) m.beyond;
        spots = λ i u. others i (omega arith) ∙ m.spots i u;
        done = below_more (λ (k : ℕ). get_or (set w (np + j) v) (np + k) 0 ≡ f k) j
            (λ k u. others (np + k) (omega arith) ∙ m.done k u)
            (get_or-set_same w (np + j) v 0 (omega (arith, m.long)) ∙ e);
        rest = λ k u. others (np + k) (omega arith) ∙ m.rest k (omega arith);
      }
