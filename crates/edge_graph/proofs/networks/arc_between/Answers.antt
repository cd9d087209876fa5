use Rattle.std.proofs.Common.{◌≡◌, ℕ, ◌<◌, length, sym, ◌∙◌, ap, subst, rules}
use Rattle.std.proofs.lemmas.Option.{slice_get_within, same_Some}
use Rattle.list_lemmas.proofs.Gets.{Contains_get, get_Contains}
use Rattle.search_graph.specs.Digraph.{IsArc, Leaves}
use Rattle.edge_graph.proofs.networks.arc_between.Goals as goal

pub arc-head-requires : goal.arc-head-requires
arc-head-requires c =
    let listed = Contains_get c.out-row.result c.loop-place.place c.get-arc.result c.get-arc.ensures in
    let leaves : Leaves c.args.graph.now c.get-arc.result c.args.d = (c.loop-place.invariant.0 c.get-arc.result).0 listed in
    slice_get_within c.args.graph.now.arcs c.get-arc.result (c.args.d, leaves.0) leaves.1

pub returns-then-stands_at-e : goal.returns-then-stands_at-e
returns-then-stands_at-e c =
    let listed = Contains_get c.out-row.result c.loop-place.place c.get-arc.result c.get-arc.ensures in
    let leaves : Leaves c.args.graph.now c.get-arc.result c.args.d = (c.loop-place.invariant.0 c.get-arc.result).0 listed in
    let tail : c.arc-head.result.0 ≡ c.args.d = ap (λ (p : ℕ × ℕ). p.0) (same_Some _ _ (sym c.arc-head.ensures.is ∙ leaves.1)) in
    let arc : IsArc c.args.graph.now c.get-arc.result c.args.d c.arc-head.result.1 = subst (λ (v : ℕ). IsArc c.args.graph.now c.get-arc.result v c.arc-head.result.1) tail c.arc-head.ensures.is in
    (c.arc-head.result.1, arc, search rules)

pub returns : goal.returns
returns c = λ i q is.
    let listed = get_Contains c.out-row.result i ((c.loop-place.invariant.0 i).1 (q, is)) in
    let within : listed.0 < length c.out-row.result = slice_get_within c.out-row.result listed.0 i listed.1 in
    c.loop-place.invariant.2 listed.0 i q (search rules) listed.1 is
