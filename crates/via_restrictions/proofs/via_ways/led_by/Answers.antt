use Rattle.std.proofs.Common.{ℕ, ◌++◌, List, filter, map, sym, ap, ◌∙◌, Vec}
use Rattle.std.specs.Global.{Global}
use Rattle.std.proofs.lemmas.List.Elements.{All-same, filter-append}
use Rattle.via_restrictions.specs.ViaParts.{lists_in}
use Rattle.via_restrictions.specs.ViaWays.{against, follow}
use Rattle.road_segments.specs.Vertex.{vertices}
use Rattle.via_restrictions.proofs.ViaLemmas.{IsVertex, below-against}
use Rattle.via_restrictions.proofs.via_ways.led_by.Goals as goal

pub push_led-requires-2-clause-run : goal.push_led-requires-2-clause-run
push_led-requires-2-clause-run c =
    let segments = c.args.turning.now.roads.now in
    All-same (IsVertex segments) c.deref.result.now (against c.args.along.now) (c.deref.ensures.value ∙ c.in_ok-against.ensures) (below-against segments c.args.along.now c.requires.along)

pub returns : goal.returns
returns c =
    let test = follow (vertices c.args.turning.now.roads.now) c.args.turning.now.restrictions.now.kept in
    let rest = lists_in c.args.rest.now in
    let one = map {A = List ℕ} {B = List ℕ} (λ path. c.args.along.now ++ path) rest in
    let other = map {A = List ℕ} {B = List ℕ} (λ path. against c.args.along.now ++ path) rest in
    c.in_ok-push_led-2.ensures
    ∙ ap (λ (l : List (List ℕ)). l ++ filter test (map {A = List ℕ} {B = List ℕ} (λ path. c.deref.result.now ++ path) rest)) (c.in_ok-push_led.ensures ∙ ap (λ (l : List (Vec ℕ Global)). lists_in l ++ filter test one) c.new-paths.ensures.items)
    ∙ ap (λ (run : List ℕ). filter test one ++ filter test (map {A = List ℕ} {B = List ℕ} (λ path. run ++ path) rest)) (c.deref.ensures.value ∙ c.in_ok-against.ensures)
    ∙ sym (filter-append test one other)
