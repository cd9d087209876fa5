use Rattle.std.proofs.Common.{◌≡◌, ◌∙◌, sym, ap}
use Rattle.std.proofs.lemmas.List.Elements.{All-weaker}
use mathlib.Core.List.{IsPrefix}
use Rattle.customized.specs.Exact.{Customized, ShareRoads}
use Rattle.door_workers.specs.Serving.{Answered, AnsweredUnder}
use Rattle.edge_graph.specs.NetworkView.{NetworkView}
use Rattle.metric_publish.specs.History.{IsKin}
use Rattle.snap_index.specs.Ends.{all_ends}
use Rattle.route_doors.proofs.Beginnings.{kin_on, on_kin}
use Rattle.route_doors.proofs.ControlDoors.{controlled_door, kept, spent}
use Rattle.route_doors.proofs.QueryDoors.{answered_apart, answered_door, each_new}
use Rattle.route_doors.specs.RoadDoors.{BeginsOn, IsAnsweredDoor, IsQueried}
use Rattle.route_doors.proofs.serving.serve.Goals as goal

pub serve-requires-clause-fits : goal.serve-requires-clause-fits
serve-requires-clause-fits g c = λ κs lives.
    let roads = c.args.roads.now in
    All-weaker (λ s. BeginsOn roads s.seen.token.log) (λ s. (x : Customized) → IsKin ShareRoads s.seen.token.log x → c.args.grid.now ≡ all_ends x.road.network.segments)
    (λ s begins x kin. c.requires.ends ∙ ap (λ (n : NetworkView). all_ends n.segments) (sym (kin_on roads s.seen.token.log x begins kin))) c.args.seats.now.items c.requires.seats_begin

pub serve-requires-clause-makes : goal.serve-requires-clause-makes
serve-requires-clause-makes g c = λ κs lives x on.
    on_kin c.args.roads.now c.args.desk.now.writer.desk.shown.value.front.token.log x c.requires.desk_begins on

pub returns-clause-served : goal.returns-clause-served
returns-clause-served g c = λ whole.
    let view = g.D.Door.view in
    let last = c.serve.new.desk.writer.desk.shown.value.front.token.log in record {
      control = controlled_door c.args.roads.now _ last (view c.args.opened.control) _ _ _ c.requires.control_new c.serve.ensures.control;
      queries = each_new (λ d e. Answered d e (IsQueried last)) (IsAnsweredDoor last) (answered_door last) _ _ c.requires.new (c.serve.ensures.all whole);
    }

pub returns-clause-apart : goal.returns-clause-apart
returns-clause-apart g c = λ opening begun.
    let view = g.D.Door.view in
    let last = c.serve.new.desk.writer.desk.shown.value.front.token.log in record {
      control = controlled_door c.args.roads.now _ last (view c.args.opened.control) _ _ _ c.requires.control_new c.serve.ensures.control;
      queries = each_new (λ d e. AnsweredUnder opening d e IsQueried) (λ door. (list : _) × IsPrefix opening list × IsAnsweredDoor list door) (answered_apart opening) _ _ c.requires.new (c.serve.ensures.each opening begun);
    }

pub returns-clause-spent : goal.returns-clause-spent
returns-clause-spent g c = spent c.args.roads.now _ _ _ _ _ _ c.requires.control_new c.serve.ensures.control

pub returns-clause-kept : goal.returns-clause-kept
returns-clause-kept g c = kept c.args.roads.now _ _ _ _ _ _ c.serve.ensures.control
