-- The candidate lists after one call and another, and how many pairs they hold. Assumes nothing.
use Rattle.std.proofs.Common.{◌≡◌, ℕ, ◌+◌, ◌*◌, ◌<◌, ◌≤◌, length, get_or, refl, ◌∙◌, arith}
use lib.Ieee.{nan}
use Rattle.pairs.specs.Candidates.{pair, nothing}
use Rattle.pairs.specs.Lent.{held, Same, Kept}
use Rattle.pairs.specs.declared.candidates.Candidates.{Candidates}
use Rattle.pairs.proofs.Laying.{laid_get, laid_long, stays, then, later}

pub same_self : (c : Candidates) → Same c c
same_self c = record { cap = refl; distances = refl; indices = refl; distances_long = refl; indices_long = refl }

pub same_on : {c c₁ c₂ : Candidates} → Same c c₁ → Same c₁ c₂ → Same c c₂
same_on p q = record {
  cap = q.cap ∙ p.cap;
  distances = q.distances ∙ p.distances;
  indices = q.indices ∙ p.indices;
  distances_long = q.distances_long ∙ p.distances_long;
  indices_long = q.indices_long ∙ p.indices_long;
}

pub kept_self : (n : ℕ) (c : Candidates) → Kept n c c
kept_self n c = record { same = same_self c; many = refl; beyond = stays n c.distances.now c.indices.now }

pub kept_on : {n : ℕ} {c c₁ c₂ : Candidates} → Kept n c c₁ → Kept n c₁ c₂ → Kept n c c₂
kept_on p q = record { same = same_on p.same q.same; many = q.many ∙ p.many; beyond = then p.beyond q.beyond }

pub kept_later : {n : ℕ} {c c' : Candidates} (k : ℕ) → n ≤ k → Kept n c c' → Kept k c c'
kept_later k h p = record { same = p.same; many = p.many; beyond = later k h p.beyond }

-- with the room behind them there are places for twice as many pairs as they hold
pub held_long : (c : Candidates) (n : ℕ) → n ≤ 2 * c.cap → n ≤ length (held c)
held_long c n h = laid_long c.distances.now c.indices.now n (omega (arith, c.fits)) (omega (arith, c.fits))

pub held_at : (c : Candidates) (p : ℕ) → p < 2 * c.cap
    → get_or (held c) p nothing ≡ pair (get_or c.distances.now p nan) (get_or c.indices.now (2 * p) 0) (get_or c.indices.now (2 * p + 1) 0)
held_at c p h = laid_get c.distances.now c.indices.now p (omega (arith, c.fits)) (omega (arith, c.fits))
