-- What is announced by the fields before this one.
use Rattle.std.proofs.Common.{◌≡◌, take, map, codes}
use Rattle.std.specs.Prelude.{filter}
use Rattle.httparse.specs.Spans.{header_bytes}
use Rattle.http_head.specs.Fields.{is_named}
use Rattle.control_port.specs.Asking.{by_lengths}
use Rattle.control_port.proofs.asking.by_lengths.Given as goal

abbrev pub invariant-loop-field : goal.invariant-loop-field
invariant-loop-field l = l.body ≡ by_lengths (filter (is_named (codes "content-length")) (map (header_bytes l.bytes) (take l.field-index l.fields)))
