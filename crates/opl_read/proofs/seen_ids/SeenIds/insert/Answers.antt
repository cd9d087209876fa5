-- One more object of each kind.
use Rattle.std.proofs.Common.{◌++◌, ◌∷◌, [], ◌||◌, sym, subst, rules, w64, FitsSigned}
use Rattle.std.proofs.lemmas.Int.{to_z-of_z}
use Rattle.std.specs.Ordering.{int_eq}
use Rattle.road_base.specs.declared.osm_objects.Kind.TheVariants as kind
use Rattle.road_base.specs.declared.osm_objects.Object.{Object}
use Rattle.opl_read.specs.Seen.{stood, AreKept, AreSeen}
use Rattle.opl_read.proofs.Outcomes.{on_ok}
use Rattle.opl_read.proofs.SeenLaws.{seen-node, seen-way, seen-relation}
use Rattle.opl_read.specs.declared.seen_ids.SeenIds.{SeenIds}
use Rattle.opl_read.proofs.seen_ids.SeenIds.insert.Goals as goal

pub returns-in-Node-clause-seen : goal.returns-in-Node-clause-seen
returns-in-Node-clause-seen c =
    let fits : FitsSigned w64 c.in-Node.node.id = search rules in
    let seen : SeenIds = record { nodes = c.insert.new.self; ways = c.args.self.now.ways; relations = c.args.self.now.relations } in
    let kept = simp to_z-of_z at c.insert.ensures.kept in
    on_ok (λ _. AreKept (λ id. stood kind.Node c.args.objects.now id || int_eq c.in-Node.node.id id) c.insert.new.self) (λ _. AreSeen (c.args.objects.now ++ c.args.object.now ∷ []) seen) c.insert.result
    (λ _ more. subst (λ (o : Object). AreSeen (c.args.objects.now ++ o ∷ []) seen) (sym c.in-Node.is) (seen-node c.args.objects.now c.args.self.now c.requires c.insert.new.self c.in-Node.node more)) kept

pub returns-in-Way-clause-seen : goal.returns-in-Way-clause-seen
returns-in-Way-clause-seen c =
    let fits : FitsSigned w64 c.in-Way.way.id = search rules in
    let seen : SeenIds = record { nodes = c.args.self.now.nodes; ways = c.insert-in-Way.new.self; relations = c.args.self.now.relations } in
    let kept = simp to_z-of_z at c.insert-in-Way.ensures.kept in
    on_ok (λ _. AreKept (λ id. stood kind.Way c.args.objects.now id || int_eq c.in-Way.way.id id) c.insert-in-Way.new.self) (λ _. AreSeen (c.args.objects.now ++ c.args.object.now ∷ []) seen) c.insert-in-Way.result
    (λ _ more. subst (λ (o : Object). AreSeen (c.args.objects.now ++ o ∷ []) seen) (sym c.in-Way.is) (seen-way c.args.objects.now c.args.self.now c.requires c.insert-in-Way.new.self c.in-Way.way more)) kept

pub returns-in-Relation-clause-seen : goal.returns-in-Relation-clause-seen
returns-in-Relation-clause-seen c =
    let fits : FitsSigned w64 c.in-Relation.relation.id = search rules in
    let seen : SeenIds = record { nodes = c.args.self.now.nodes; ways = c.args.self.now.ways; relations = c.insert-in-Relation.new.self } in
    let kept = simp to_z-of_z at c.insert-in-Relation.ensures.kept in
    on_ok (λ _. AreKept (λ id. stood kind.Relation c.args.objects.now id || int_eq c.in-Relation.relation.id id) c.insert-in-Relation.new.self) (λ _. AreSeen (c.args.objects.now ++ c.args.object.now ∷ []) seen) c.insert-in-Relation.result
    (λ _ more. subst (λ (o : Object). AreSeen (c.args.objects.now ++ o ∷ []) seen) (sym c.in-Relation.is) (seen-relation c.args.objects.now c.args.self.now c.requires c.insert-in-Relation.new.self c.in-Relation.relation more)) kept
