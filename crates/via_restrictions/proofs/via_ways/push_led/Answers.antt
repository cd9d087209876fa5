use Rattle.std.proofs.Common.{ℕ, ◌++◌, List, sym, ap, ◌∙◌}
use Rattle.std.proofs.lemmas.List.Elements.{All-append, All-same}
use Rattle.list_lemmas.proofs.Gets.{All_get, get_is}
use Rattle.via_restrictions.specs.ViaParts.{lists_in}
use Rattle.via_restrictions.proofs.ViaLemmas.{IsVertex, list-at}
use Rattle.std.proofs.Common.{All}
use Rattle.via_restrictions.proofs.via_ways.push_led.Goals as goal

pub follow-requires-clause-vertices : goal.follow-requires-clause-vertices
follow-requires-clause-vertices c =
    let segments = c.args.turning.now.roads.now in
    let rest = c.args.rest.now in
    let path = c.index-rest-i.result in
    let at = get_is rest c.loop-i.i path c.loop-i-test.true (sym c.index-rest-i.is) in
    let below = All_get (All (IsVertex segments)) (lists_in rest) c.loop-i.i path.items c.requires.rest (list-at rest c.loop-i.i path at) in
    let is = c.deref-in-loop-i.ensures.value ∙ c.in_ok-path.ensures ∙ ap (λ (l : List ℕ). c.args.run.now ++ l) c.deref.ensures.value in
    All-same (IsVertex segments) c.deref-in-loop-i.result.now (c.args.run.now ++ path.items) is (All-append (IsVertex segments) c.args.run.now path.items c.requires.run below)
