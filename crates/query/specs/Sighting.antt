-- When a query is due, and the state and counts after a look. Definitions only. Assumes nothing.
use Rattle.std.specs.Prelude.{ℕ, Bool, true, cond}
use Rattle.project.specs.Camera.{boresight}
use Rattle.entry.specs.declared.Settings.{Settings}
use Rattle.entry.specs.Entry.{fixed_of}
use Rattle.query.specs.Query.{drifted}
use Rattle.query.specs.declared.Held.{Held}
use Rattle.query.specs.declared.Looked.{Looked}

-- A query is due where none is cached, or the pose has drifted from the cached one.
abbrev pub due : Settings → Held → Bool
due k h = cond h.filled (drifted (fixed_of k) h.pose h.boresight h.theta) true

-- The state and the counts after a fresh query, of which so many directions are cached.
abbrev pub afresh : Held → ℕ → ℕ → Looked
afresh h cached predicted = record {
  held = record {
    pose = h.pose;
    used = h.used;
    filled = true;
    boresight = boresight h.pose.ra h.pose.dec;
    theta = h.pose.theta;
    cached = cached;
  };
  predicted = predicted;
  queries = 1;
}

-- The same where the cached query serves: the state stays.
abbrev pub kept : Held → ℕ → Looked
kept h predicted = record { held = h; predicted = predicted; queries = 0 }
