use Rattle.polyline_text.proofs.RoundTrip.{gives_back_points, gives_back_rounded}
use Rattle.polyline_text.proofs.laws.decoding_undoes_encoding.Goals as goal

pub returns : goal.returns
returns c = record { six = gives_back_points; five = gives_back_rounded }
