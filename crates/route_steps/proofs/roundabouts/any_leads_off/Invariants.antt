use Rattle.std.proofs.Common.{◌≡◌, drop}
use Rattle.std.specs.List.{list_any}
use Rattle.route_steps.specs.Roundabouts.{leads_off}
use Rattle.route_steps.proofs.roundabouts.any_leads_off.Given as goal

-- none so far leads off
abbrev pub invariant-loop-v : goal.invariant-loop-v
invariant-loop-v l = list_any (leads_off l.network) l.vertices ≡ list_any (leads_off l.network) (drop l.v-index l.vertices)
