-- The draft that the fields of a `Json` stand for.
use Rattle.std.specs.Prelude.{reverse, string_bytes}
use Rattle.json_text.specs.declared.writer.Json.TheInside.{Inside}
use Rattle.json_text.specs.Drafts.{Draft}
use Rattle.json_text.specs.Parts.{IsPart}

-- the bytes, the containers from the innermost on, and what stands last
abbrev pub draft_inside : Inside → Draft
draft_inside j = record { bytes = string_bytes j.out; containers = reverse j.containers.items; latest = j.latest }

-- they are a part of some JSON value
abbrev pub IsPartInside : Inside → Type 0
IsPartInside j = IsPart (draft_inside j)
