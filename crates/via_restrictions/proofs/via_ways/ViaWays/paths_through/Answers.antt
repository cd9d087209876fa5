use Rattle.std.proofs.Common.{◌≡◌, ℕ, ◌+◌, ◌-◌, ◌++◌, All, List, Some, pos, get_or, drop, filter, map, arith, rules, ap, ◌∙◌, w64, FitsSigned}
use Rattle.std.specs.List.{slice_get}
use Rattle.std.proofs.lemmas.Int.{to_z-of_z}
use Rattle.std.proofs.lemmas.List.Elements.{All-filter, All-same}
use Rattle.std.proofs.lemmas.Option.{slice_get-get_or}
use Rattle.via_restrictions.specs.ViaParts.{lists_in}
use Rattle.via_restrictions.specs.ViaWays.{against, along, follow, paths_through}
use Rattle.road_segments.specs.Vertex.{vertices}
use Rattle.via_restrictions.proofs.ViaLemmas.{IsVertex, below-paths, below-those, is_along, paths-step}
use Rattle.via_restrictions.proofs.via_ways.ViaWays.paths_through.Goals as goal

pub led_by-requires-clause-along : goal.led_by-requires-clause-along
led_by-requires-clause-along c =
    let segments = c.args.turning.now.roads.now in
    let via = c.args.via.now in
    let i = c.loop-i.i - 1 in
    let x = get_or via i (pos 0) in
    let fits : FitsSigned w64 (get_or via i (pos 0)) = search rules in
    let says = simp (to_z-of_z, fits) at c.along.ensures in
    All-same (IsVertex segments) c.along.result.now (along (vertices segments) x) (says ∙ c.requires.along x (c.requires.via i (pos 0) (omega arith))) (below-those segments (is_along x))

pub led_by-requires-clause-rest : goal.led_by-requires-clause-rest
led_by-requires-clause-rest c =
    let segments = c.args.turning.now.roads.now in
    let paths = paths_through (vertices segments) (drop c.loop-i.i c.args.via.now) in
    let test = follow (vertices segments) c.args.turning.now.restrictions.now.kept in
    All-same (All (IsVertex segments)) (lists_in c.deref.result.now) (filter test paths) (ap lists_in c.deref.ensures.value ∙ c.loop-i.invariant)
    (All-filter test (All (IsVertex segments)) paths (below-paths segments (drop c.loop-i.i c.args.via.now)))

pub loop-i-preserved : goal.loop-i-preserved
loop-i-preserved c =
    let vs = vertices c.args.turning.now.roads.now in
    let rules' = c.args.turning.now.restrictions.now.kept in
    let via = c.args.via.now in
    let i = c.loop-i.i - 1 in
    let up : c.loop-i.i ≡ i + 1 = omega arith in
    let x = get_or via i (pos 0) in
    let at : slice_get via i ≡ Some x = slice_get-get_or via i (pos 0) (omega arith) in
    let fits : FitsSigned w64 (get_or via i (pos 0)) = search rules in
    let says = simp (to_z-of_z, fits) at c.along.ensures in
    let run : c.along.result.now ≡ along vs x = says ∙ c.requires.along x (c.requires.via i (pos 0) (omega arith)) in
    let rest = lists_in c.deref.result.now in
    let its : rest ≡ filter (follow vs rules') (paths_through vs (drop (i + 1) via)) =
    ap lists_in c.deref.ensures.value ∙ c.loop-i.invariant ∙ ap (λ (k : ℕ). filter (follow vs rules') (paths_through vs (drop k via))) up in
    c.in_ok-paths.ensures
    ∙ ap (λ (l : List ℕ). filter (follow vs rules') (map {A = List ℕ} {B = List ℕ} (λ path. l ++ path) rest ++ map {A = List ℕ} {B = List ℕ} (λ path. against l ++ path) rest)) run
    ∙ paths-step vs rules' via i x rest at its
