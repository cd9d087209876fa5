use Rattle.std.proofs.Common.{ℕ, List, ap, ap₂, eqb, map, position, subst, sym, ◌∙◌}
use Rattle.std.specs.List.{list_any}
use Rattle.std.specs.List.Sorted.{IsNonDecreasing}
use Rattle.road_segments.specs.Vertex.{opposite}
use Rattle.route_steps.specs.Intersections.{intersection_between}
use Rattle.route_steps.specs.Turnings.{bearing_on}
use Rattle.route_steps.specs.Ways.{follows, place_of, ways_behind}
use Rattle.route_steps.specs.declared.ways.Way.{Way}
use Rattle.route_steps.proofs.IntersectionLemmas.{intersection-same}
use Rattle.route_steps.proofs.WayLemmas.{bearings-told, entries-told, place-told}
use Rattle.route_steps.proofs.intersections.intersection_between.Goals as goal

-- what may follow is in order
pub entries_of-requires : goal.entries_of-requires
entries_of-requires c = subst IsNonDecreasing (sym c.deref-3.ensures.value) c.in_ok-followers.ensures.ascending

-- each part of it
pub returns : goal.returns
unfolding intersection_between
returns c =
    let network = c.args.network.now in
    let d = c.args.d in
    let ways : List Way = c.in_ok-ways.ways.items in
    let all = c.in_ok-ways.ensures.ways in
    intersection-same c.args.location c.of.result (map (bearing_on network) (ways_behind network d)) c.of-2.result (map (follows network d) (ways_behind network d))
    c.place_of-enter.result (place_of (opposite d) (ways_behind network d)) c.place_of-leave.result (place_of c.args.e (ways_behind network d))
    (c.of.ensures ∙ c.in_ok-bearings.ensures ∙ ap (map (λ (way : Way). way.bearing)) c.deref.ensures.value ∙ bearings-told network d ways all)
    (c.of-2.ensures ∙ c.in_ok-entry.ensures
    ∙ ap₂ (λ (l : List Way) (followers : List ℕ). map (λ way. list_any (λ u. eqb u way.vertex) followers) l) c.deref-2.ensures.value c.deref-3.ensures.value
    ∙ entries-told network d ways all c.in_ok-followers.followers.items c.in_ok-followers.ensures.all)
    (c.place_of-enter.ensures ∙ ap₂ (λ (l : List Way) (v : ℕ). position (λ way. eqb way.vertex v) l) c.deref-4.ensures.value c.other_way.ensures ∙ place-told network d ways all (opposite d))
    (c.place_of-leave.ensures ∙ ap (position (λ (way : Way). eqb way.vertex c.args.e)) c.deref-5.ensures.value ∙ place-told network d ways all c.args.e)
