-- The first half of a round's search, as its parts leave the working lists. Definitions only. Assumes nothing.
use Rattle.std.specs.Prelude.{◌≡◌, ℕ, ◌+◌, ◌*◌, ◌≤◌, List, take, Float}
use Rattle.std.proofs.Math.Seq.{slice}
use Rattle.fit.specs.declared.Pose.{Pose}
use Rattle.entry.specs.declared.Settings.{Settings}
use Rattle.entry.specs.Entry.{fixed_of}
use Rattle.query.specs.Query.{query, predictions, pruned}
use Rattle.wcs_refine.specs.Keeping.{Predicted}

-- The query stands in the region of the cached directions: c of them.
pub record ListedTo (k : Settings) (n : ℕ) (directions : List Float) (p : Pose) (before after : List ℕ)
    (c : ℕ) : Type 0 where
  pub few : c ≤ k.count
  pub listed : slice (2 * n) (2 * n + c) after ≡ query (fixed_of k) directions p
  pub matches : take (2 * n) after ≡ take (2 * n) before

-- The predictions of the c listed directions stand in their regions: q of them. The listed ones stay.
pub record ToldTo (k : Settings) (n c : ℕ) (directions : List Float) (rows : List (List Float))
    (before after : List ℕ) (floats : List Float) (q : ℕ) : Type 0 where
  pub few : q ≤ c
  pub predicted : Predicted n q after floats
      (predictions (fixed_of k) directions rows (slice (2 * n) (2 * n + c) before))
  pub listed : slice (2 * n) (2 * n + c) after ≡ slice (2 * n) (2 * n + c) before
  pub matches : take (2 * n) after ≡ take (2 * n) before

-- Of the c listed directions, those within keep_r stand in their region: r of them. What stands behind the region stays.
pub record PrunedTo (k : Settings) (n c : ℕ) (directions : List Float) (rows : List (List Float))
    (before after : List ℕ) (r : ℕ) : Type 0 where
  pub few : r ≤ c
  pub pruned : slice (2 * n) (2 * n + r) after ≡ pruned (fixed_of k) directions rows (slice (2 * n) (2 * n + c) before)
  pub behind : (q : ℕ) → slice (3 * n) (3 * n + q) after ≡ slice (3 * n) (3 * n + q) before
  pub matches : take (2 * n) after ≡ take (2 * n) before
