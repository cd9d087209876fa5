use Rattle.std.proofs.Common.{refl, sym, ◌∙◌, ◌≡◌, true, false, map, codes}
use Rattle.std.specs.List.{list_any}
use Rattle.httparse.specs.Spans.{header_bytes}
use Rattle.http_head.specs.Fields.{is_named}
use Rattle.control_port.proofs.Lengths.{list_any-map}
use Rattle.control_port.proofs.asking.announced_by.Goals as goal

pub returns-then-is_coded : goal.returns-then-is_coded
returns-then-is_coded c = rw (list_any-map, ← c.is_coded.ensures, c.if-is_coded.true) refl

pub returns : goal.returns
returns c = rw (list_any-map, ← c.is_coded.ensures, c.if-is_coded.false) c.by_lengths.ensures
