use Rattle.std.proofs.Common.{◌≡◌, drop}
use Rattle.way_profile.specs.WayTags.{is_denied, values_at}
use Rattle.way_profile.proofs.way_uses.is_denied.Given as goal

-- the way carries no key so far
abbrev pub invariant-loop-key : goal.invariant-loop-key
invariant-loop-key l =
    is_denied l.denied (values_at l.tags l.keys) ≡ is_denied l.denied (values_at l.tags (drop l.key-index l.keys))
