use Rattle.std.proofs.Common.{ℕ, ◌*◌, List, All, length, arith, subst, sym, ap}
use Rattle.search_graph.specs.Faults.{AllInRange}
use Rattle.turn_rules.specs.Rules.{Rule}
use Rattle.via_paths.specs.declared.barred.Barred.{Barred}
use Rattle.via_paths.specs.Forbidden.{IsBelow, words_in}
use Rattle.edge_graph.specs.LimitLaws.{few_turns}
use Rattle.edge_graph.specs.NetworkParts.{AreCopiesFor}
use Rattle.edge_graph.proofs.NetworkLemmas.{few-vertices, within-copies}
use Rattle.edge_graph.proofs.RangeLemmas.{turns-in_range}
use Rattle.road_segments.specs.Segment.{Segment}
use Rattle.edge_graph.proofs.parts.parts_of.Goals as goal

pub copies_for-requires-clause-vertices : goal.copies_for-requires-clause-vertices
copies_for-requires-clause-vertices c = let few = few-vertices c.args.roads.now c.requires.few in omega (arith, few, c.len.ensures.value)

pub copies_for-requires-clause-below : goal.copies_for-requires-clause-below
copies_for-requires-clause-below c =
    let groups : List Barred = c.in_ok-found.found.groups.items in
    let below : All (IsBelow (2 * c.len.result)) groups = subst (λ (n : ℕ). All (IsBelow (2 * n)) groups) (sym c.len.ensures.value) c.in_ok-found.ensures.below in
    subst (λ (l : List Barred). All (IsBelow (2 * c.len.result)) l) (sym c.deref-2.ensures.value) below

pub overflow_cast-turns : goal.overflow_cast-turns
overflow_cast-turns c =
    omega (arith, few_turns, c.len-turns.ensures, c.in_ok-exits-2.list.ok.0, ap length c.in_ok-exits-2.ensures.list, c.in_ok-exits-2.ensures.few)

pub arcs_of-requires-clause-within : goal.arcs_of-requires-clause-within
arcs_of-requires-clause-within c =
    let roads : List Segment = c.args.roads.now in
    let rules : List Rule = c.args.restrictions.now.kept in
    let n : ℕ = 2 * length roads in
    let in_range : AllInRange n c.in_ok-exits-2.list.items = subst (λ (l : List (ℕ × ℕ)). AllInRange n l) (sym c.in_ok-exits-2.ensures.list) (turns-in_range roads rules) in
    let made : AreCopiesFor (2 * c.len.result) (words_in c.deref-2.result.now) c.in_ok-copies.copies = c.in_ok-copies.ensures.are in
    let wide : AreCopiesFor n (words_in c.deref-2.result.now) c.in_ok-copies.copies =
    subst (λ (k : ℕ). AreCopiesFor (2 * k) (words_in c.deref-2.result.now) c.in_ok-copies.copies) c.len.ensures.value made in
    within-copies n c.in_ok-exits-2.list.items (words_in c.deref-2.result.now) c.in_ok-copies.copies wide in_range
