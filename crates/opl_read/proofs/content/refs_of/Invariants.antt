use Rattle.std.proofs.Common.{◌≡◌, length}
use denote.Text.{Utf8}
use denote.Shadow.{shadow}
use Rattle.opl_read.specs.Content.{refs_of, ref_of}
use Rattle.opl_read.proofs.Entries.{onto}
use Rattle.opl_read.proofs.content.refs_of.Given as goal

-- the entries so far, and those that are left, are the content's
abbrev pub invariant-loop-entry : goal.invariant-loop-entry
invariant-loop-entry l = shadow (Utf8 l.rest) × (onto ref_of l.ids.items l.rest ≡ refs_of l.content)

abbrev pub decreases-loop-entry : goal.decreases-loop-entry
decreases-loop-entry l = length l.rest
