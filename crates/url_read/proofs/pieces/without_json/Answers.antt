-- What `strip_suffix` leaves.
use Rattle.std.proofs.Common.{refl, ◌∙◌, ap}
use Rattle.url_read.proofs.Suffixes.{without_json-stripped}
use Rattle.url_read.proofs.pieces.without_json.Goals as goal

pub returns : goal.returns
returns c = ap (λ r. r.now) c.unwrap_or.ensures ∙ without_json-stripped c.args.coordinates.now c.strip_suffix.result c.args.coordinates c.strip_suffix.ensures.cases refl
