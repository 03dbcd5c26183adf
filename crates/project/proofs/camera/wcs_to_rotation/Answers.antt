-- Each field is the definition's, by the callees' contracts.
use Rattle.project.specs.Camera.{wcs_to_rotation, raw_x, raw_y}
use Rattle.project.proofs.camera.wcs_to_rotation.Goals as goal

pub returns : goal.returns
unfolding wcs_to_rotation raw_x raw_y
returns c = rw (c.field_of_view.ensures, c.norm.ensures, c.narrowed_rows.ensures, c.normalised-2.ensures, c.normalised.ensures, c.combined-y.ensures, c.raw_x-x.ensures, c.mirrored.ensures, c.plane_at.ensures)
