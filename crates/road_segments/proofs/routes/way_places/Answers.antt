use Rattle.std.proofs.Common.{◌≡◌, ℕ, ◌-◌, ◌<◌, Some, ◌∙◌, arith, rules, refl, ap, subst, length, drop, map, w64, FitsSigned}
use Rattle.std.specs.List.{slice_get}
use Rattle.std.specs.Prelude.{Vec}
use Rattle.std.specs.declared.alloc.Global.{Global}
use Rattle.std.proofs.lemmas.Int.{to_z-of_z}
use Rattle.std.proofs.lemmas.Option.{slice_get_read}
use Rattle.std.proofs.lemmas.Result.{IfOk-weaker}
use Rattle.road_base.specs.declared.osm_objects.Object.TheVariants as object
use Rattle.road_segments.specs.Segment.{ways_by_id}
use Rattle.road_segments.proofs.WayLemmas.{as_object, keyed, place-step, stand-at}
use Rattle.road_segments.proofs.routes.way_places.Goals as goal

pub loop-i-preserved-in_ok-insert : goal.loop-i-preserved-in_ok-insert
loop-i-preserved-in_ok-insert c =
    let objects = c.args.objects.now in
    let within : c.loop-i.i - 1 < length objects = omega arith in
    let at : slice_get objects (c.loop-i.i - 1) ≡ Some (object.Way c.in-Way.way) =
    slice_get_read objects (length objects) (c.loop-i.i - 1) c.index-objects-i.result refl within c.index-objects-i.is ∙ ap Some c.in-Way.is in
    let id : FitsSigned w64 c.in-Way.way.id = search rules in
    place-step objects c.loop-i.i c.in-Way.way c.loop-i.ways.entries c.insert.new.self.entries at c.loop-i-test.true (simp to_z-of_z at c.in_ok-insert.ensures.entries) c.loop-i.invariant

pub returns : goal.returns
returns c =
    let objects = c.args.objects.now in
    let all : c.loop-i.i ≡ 0 = omega arith in
    let whole : map (keyed (slice_get objects)) c.loop-i.ways.entries ≡ map (keyed as_object) (ways_by_id objects) =
    subst (λ (k : ℕ). map (keyed (slice_get objects)) c.loop-i.ways.entries ≡ map (keyed as_object) (ways_by_id (drop k objects))) all c.loop-i.invariant in
    IfOk-weaker {X = Vec ℕ Global} _ _ _ (λ places e. stand-at objects c.loop-i.ways.entries places.items e whole) c.values_of.ensures
