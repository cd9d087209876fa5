-- A coordinate that has no comma.
use Rattle.std.proofs.Common.{◌∙◌, sym}
use Rattle.url_read.proofs.Degrees.{degrees_of-uncut}
use Rattle.url_read.proofs.coordinates.degrees_of.Goals as goal

pub returns-in_err-longitude : goal.returns-in_err-longitude
returns-in_err-longitude c = c.from_residual.ensures ∙ sym (degrees_of-uncut c.args.coordinate.now c.in_err-longitude.ensures)
