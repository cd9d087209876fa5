use Rattle.std.proofs.Common.{◌≡◌, ◌+◌, ◌++◌, ◌≤◌, ◌<◌, ◌∙◌, ℕ, List, [], ◌∷◌, Some, ap, arith, length, refl, rules, string_bytes, subst, sym, take}
use Rattle.std.specs.List.{AllZip, flat_map, range_with_len}
use Rattle.std.proofs.lemmas.List.{flat_map_more, take_all}
use Rattle.list_lemmas.proofs.Fronts.{all_zip-more}
use Rattle.town_drill.specs.Drill.{AreLines, IsLine}
use Rattle.town_drill.proofs.Ranges.{range-get}
use Rattle.town_drill.proofs.drills.lines_under.Goals as goal

-- one line more
pub loop-number-preserved : goal.loop-number-preserved
loop-number-preserved g c =
    let network = c.args.roads.now.network in
    let n = c.args.n in
    let k = c.loop-number.number in
    let line = string_bytes c.in_ok-line.line in
    let lines = c.loop-number.invariant.0 in
    let lt : k < 4 = omega arith in
    let put : string_bytes c.push_str.new.self ≡ string_bytes c.loop-number.text ++ line = search rules in (
      lines ++ line ∷ [],
      all_zip-more (λ i l. IsLine network n i l) (range_with_len 0 4) lines k k line c.loop-number.invariant.1 (range-get 0 4 k lt ∙ ap (λ i. Some i) (let e : 0 + k ≡ k = omega arith in e)) c.in_ok-line.ensures,
      put ∙ ap (λ t. t ++ line) c.loop-number.invariant.2 ∙ flat_map_more (λ l. l) [] lines line,
    )

-- all of them
pub returns : goal.returns
returns g c =
    let network = c.args.roads.now.network in
    let all : length (range_with_len 0 4) ≤ c.loop-number.number = omega arith in (
      c.loop-number.invariant.0,
      subst (λ (front : List ℕ). AllZip (λ i l. IsLine network c.args.n i l) front c.loop-number.invariant.0) (take_all c.loop-number.number (range_with_len 0 4) all) c.loop-number.invariant.1,
      c.loop-number.invariant.2,
    )
