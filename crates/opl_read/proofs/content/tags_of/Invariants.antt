use Rattle.std.proofs.Common.{◌≡◌, length}
use denote.Text.{Utf8}
use denote.Shadow.{shadow}
use Rattle.opl_read.specs.Content.{tags_of, tag_of}
use Rattle.opl_read.proofs.Entries.{onto}
use Rattle.opl_read.proofs.content.tags_of.Given as goal

-- the entries so far, and those that are left, are the content's
abbrev pub invariant-loop-entry : goal.invariant-loop-entry
invariant-loop-entry l = shadow (Utf8 l.rest) × (onto tag_of l.tags l.rest ≡ tags_of l.content)

abbrev pub decreases-loop-entry : goal.decreases-loop-entry
decreases-loop-entry l = length l.rest
