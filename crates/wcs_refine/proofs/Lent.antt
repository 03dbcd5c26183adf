-- The lists that a run works in stay the same lists. Assumes nothing.
use Rattle.std.proofs.Common.{refl, ◌∙◌}
use Rattle.wcs_refine.specs.Keeping.{Fits, Same}
use Rattle.wcs_refine.specs.declared.working.Working.{Working}

pub same_self : (w : Working) → Same w w
same_self w = record {
  course = refl;
  numbers = refl;
  floats = refl;
  distances = refl;
  indices = refl;
  numbers_long = refl;
  floats_long = refl;
  distances_long = refl;
  indices_long = refl;
}

pub same_on : {w w₁ w₂ : Working} → Same w w₁ → Same w₁ w₂ → Same w w₂
same_on a b = record {
  course = b.course ∙ a.course;
  numbers = b.numbers ∙ a.numbers;
  floats = b.floats ∙ a.floats;
  distances = b.distances ∙ a.distances;
  indices = b.indices ∙ a.indices;
  numbers_long = b.numbers_long ∙ a.numbers_long;
  floats_long = b.floats_long ∙ a.floats_long;
  distances_long = b.distances_long ∙ a.distances_long;
  indices_long = b.indices_long ∙ a.indices_long;
}

-- A state has room in its regions.
pub fits_of : (w : Working) → Fits w.course.k w.course.room w.held
fits_of w = record { used = w.used; cached = w.cached }
