use Rattle.std.proofs.Common.{◌≡◌, length}
use denote.Text.{Utf8}
use denote.Shadow.{shadow}
use Rattle.opl_read.specs.Cutting.{fields_of}
use Rattle.opl_read.specs.LineParts.{no_parts, with_fields}
use Rattle.opl_read.proofs.line_parts.parts_of.Given as goal

-- the parts so far, and the fields that are left, make the whole
abbrev pub invariant-loop-field : goal.invariant-loop-field
invariant-loop-field l =
    shadow (Utf8 l.rest) × (with_fields l.kind l.parts (fields_of l.rest) ≡ with_fields l.kind no_parts (fields_of l.text))

abbrev pub decreases-loop-field : goal.decreases-loop-field
decreases-loop-field l = length l.rest
