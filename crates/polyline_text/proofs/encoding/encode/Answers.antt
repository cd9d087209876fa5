use Rattle.std.proofs.Common.{rules, arith, ap, sym, ◌∙◌, List, ◌∷◌, ◌+◌, drop, length-drop, string_bytes}
use Rattle.std.proofs.lemmas.List.{drop_more, nil_from_length}
use Rattle.road_base.specs.declared.coordinates.Point.{Point}
use Rattle.polyline_text.proofs.Writing.{point_written, all_written}
use Rattle.polyline_text.proofs.encoding.encode.Goals as goal

pub loop-point-preserved : goal.loop-point-preserved
loop-point-preserved c =
    let i = c.loop-point.point-index in
    let first = drop_more c.args.points.now i c.point-item.result c.loop-point-test.true ∙ ap (λ (p : Point). p ∷ drop (i + 1) c.args.points.now) (sym c.point-item.is) in
    record {
      text = point_written c.args.digits _ _ _ _ c.point-item.result _ _ _ (string_bytes c.push_difference.new.text) _ _ first (search rules) (search rules)
          (search (rules, c.in_ok-push_difference.ensures)) (search (rules, c.in_ok-push_difference-2.ensures)) c.loop-point.invariant.text;
      west = search rules;
      east = search rules;
      south = search rules;
      north = search rules;
    }

pub returns : goal.returns
returns c =
    c.of.ensures ∙ all_written c.args.digits _ _ _ _ _
    (nil_from_length _ (omega (arith, length-drop c.loop-point.point-index c.args.points.now))) c.loop-point.invariant.text
