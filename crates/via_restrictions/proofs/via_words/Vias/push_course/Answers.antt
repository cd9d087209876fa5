use Rattle.std.proofs.Common.{◌≡◌, ℕ, ◌≤◌, ◌++◌, All, List, take, length, arith, sym, ap, ◌∙◌}
use Rattle.std.specs.List.{flat_map}
use Rattle.std.proofs.lemmas.List.{take_all}
use Rattle.std.proofs.lemmas.List.Elements.{All-same}
use Rattle.std.proofs.lemmas.Option.{same_Some}
use Rattle.list_lemmas.proofs.Gets.{All_get, get_is}
use Rattle.turn_rules.specs.Rules.{ViaRule}
use Rattle.via_restrictions.specs.ViaParts.{lists_in}
use Rattle.via_restrictions.specs.ViaWays.{ends_along, paths_of, words_along}
use Rattle.via_paths.specs.Forbidden.{words_in}
use Rattle.road_segments.specs.Vertex.{vertices}
use Rattle.via_restrictions.proofs.FindLemmas.{adds-along, adds-same, words-along}
use Rattle.via_restrictions.proofs.ViaLemmas.{IsVertex, below-paths_of, list-at, some-paths}
use Rattle.via_restrictions.proofs.via_words.Vias.push_course.Goals as goal

pub push_path-requires-clause-path : goal.push_path-requires-clause-path
push_path-requires-clause-path c =
    let vs = vertices c.args.self.now.turning.roads.now in
    let kept = c.args.self.now.turning.restrictions.now.kept in
    let via = c.via-via.result.now in
    let paths = c.in_ok-paths.paths.items in
    let path = c.index.result.now in
    let at = list-at paths c.loop-i.i path (get_is paths c.loop-i.i path (omega (arith, c.loop-i-test.true, c.len-i-end.ensures)) (sym c.index.ensures)) in
    let few : 1 ≤ length via = omega (arith, ap length c.via-via.ensures.value, c.via-via.ensures.vias.0) in
    let some = All_get (λ p. 1 ≤ length p) (lists_in paths) c.loop-i.i path.items (All-same (λ p. 1 ≤ length p) (lists_in paths) (paths_of vs kept via) c.in_ok-paths.ensures (some-paths vs kept via few)) at in
    omega (arith, some, ap length c.deref.ensures.value)

pub push_path-requires-clause-below : goal.push_path-requires-clause-below
push_path-requires-clause-below c =
    let segments = c.args.self.now.turning.roads.now in
    let kept = c.args.self.now.turning.restrictions.now.kept in
    let via = c.via-via.result.now in
    let paths = c.in_ok-paths.paths.items in
    let path = c.index.result.now in
    let at = list-at paths c.loop-i.i path (get_is paths c.loop-i.i path (omega (arith, c.loop-i-test.true, c.len-i-end.ensures)) (sym c.index.ensures)) in
    All-same (IsVertex segments) c.deref.result.now path.items c.deref.ensures.value
    (All_get (All (IsVertex segments)) (lists_in paths) c.loop-i.i path.items (All-same (All (IsVertex segments)) (lists_in paths) (paths_of (vertices segments) kept via) c.in_ok-paths.ensures (below-paths_of segments kept via)) at)

pub loop-i-preserved : goal.loop-i-preserved
loop-i-preserved c =
    let vs = vertices c.args.self.now.turning.roads.now in
    let kept = c.args.self.now.turning.restrictions.now.kept in
    let all = c.args.self.now.rules.now in
    let number = c.args.number in
    let paths = c.in_ok-paths.paths.items in
    let path = c.index.result.now in
    let i = c.loop-i.i in
    let at = get_is paths i path (omega (arith, c.loop-i-test.true, c.len-i-end.ensures)) (sym c.index.ensures) in
    record {
      words = λ rule its. words-along (words_along vs kept all (number, rule)) paths i path c.deref.result.now (words_in c.args.groups.now.items) (words_in c.loop-i.groups.items) (words_in c.push_path.new.groups.items) at c.deref.ensures.value
          (c.loop-i.invariant.words rule its) (c.in_ok-push_path.ensures.words rule its);
      paths = λ h. c.in_ok-push_path.ensures.paths (c.loop-i.invariant.paths h);
      below = λ h. c.in_ok-push_path.ensures.below (c.loop-i.invariant.below h);
      reached = λ rule its. adds-along vs number (ends_along vs kept rule) paths i path c.deref.result.now c.args.reached.now.ways c.loop-i.reached.ways c.push_path.new.reached.ways c.args.reached.now.firsts c.loop-i.reached.firsts c.push_path.new.reached.firsts at c.deref.ensures.value
          (c.loop-i.invariant.reached rule its) (c.in_ok-push_path.ensures.reached rule its);
    }

pub returns-clause-words : goal.returns-clause-words
returns-clause-words c = λ rule its.
    let vs = vertices c.args.self.now.turning.roads.now in
    let kept = c.args.self.now.turning.restrictions.now.kept in
    let all = c.args.self.now.rules.now in
    let number = c.args.number in
    let paths = c.in_ok-paths.paths.items in
    let here : c.index-self-number.result ≡ rule = same_Some c.index-self-number.result rule (sym (get_is all number c.index-self-number.result c.requires.number (sym c.index-self-number.is)) ∙ its) in
    let way : lists_in paths ≡ paths_of vs kept rule.via = c.in_ok-paths.ensures ∙ ap (paths_of vs kept) (c.via-via.ensures.value ∙ ap (λ (r : ViaRule). r.via) (sym c.index-self-number.is ∙ here)) in
    c.loop-i.invariant.words rule its
    ∙ ap (λ (l : List (List ℕ)). words_in c.args.groups.now.items ++ flat_map (words_along vs kept all (number, rule)) l)
    (ap lists_in (take_all c.loop-i.i paths (omega (arith, c.loop-i-test.false, c.len-i-end.ensures))) ∙ way)

pub returns-clause-reached : goal.returns-clause-reached
returns-clause-reached c = λ rule its.
    let vs = vertices c.args.self.now.turning.roads.now in
    let kept = c.args.self.now.turning.restrictions.now.kept in
    let all = c.args.self.now.rules.now in
    let number = c.args.number in
    let paths = c.in_ok-paths.paths.items in
    let here : c.index-self-number.result ≡ rule = same_Some c.index-self-number.result rule (sym (get_is all number c.index-self-number.result c.requires.number (sym c.index-self-number.is)) ∙ its) in
    let way : lists_in paths ≡ paths_of vs kept rule.via = c.in_ok-paths.ensures ∙ ap (paths_of vs kept) (c.via-via.ensures.value ∙ ap (λ (r : ViaRule). r.via) (sym c.index-self-number.is ∙ here)) in
    adds-same vs number (flat_map (ends_along vs kept rule) (lists_in (take c.loop-i.i paths))) (flat_map (ends_along vs kept rule) (paths_of vs kept rule.via)) c.args.reached.now.ways c.loop-i.reached.ways c.args.reached.now.firsts c.loop-i.reached.firsts
    (ap (λ (l : List (List ℕ)). flat_map (ends_along vs kept rule) l) (ap lists_in (take_all c.loop-i.i paths (omega (arith, c.loop-i-test.false, c.len-i-end.ensures))) ∙ way))
    (c.loop-i.invariant.reached rule its)
