use Rattle.std.proofs.Common.{◌≡◌, ◌++◌, take}
use Rattle.std.specs.List.{filter_map}
use Rattle.route_steps.specs.Annotations.{head_of, tail_of}
use Rattle.route_steps.proofs.annotations.nodes_along.Given as goal

-- the begin of the first vertex and the ends of those so far are listed
abbrev pub invariant-loop-v : goal.invariant-loop-v
invariant-loop-v l =
    l.nodes.items ≡ filter_map (tail_of l.network.segments) (take 1 l.walk) ++ filter_map (head_of l.network.segments) (take l.v-index l.walk)
