-- What is kept of the ids that stood, after one more object.
use Rattle.std.proofs.Common.{◌≡◌, ℤ, ◌≤ℤ◌, ◌<ℤ◌, Bool, false, List, [], ◌∷◌, ◌++◌, ◌||◌, inl, inr, refl, sym, ◌∙◌, ap, subst, arith}
use Rattle.std.specs.Int.Signed.{<ℤ_irrefl}
use Rattle.std.specs.Ordering.{int_eq}
use Rattle.std.proofs.Math.Bool.{or-false}
use Rattle.std.proofs.lemmas.Bool.{cases_Bool}
use Rattle.std.proofs.lemmas.Bool.Decides.{Decides-int_eq}
use Rattle.std.proofs.lemmas.Int.{ints}
use Rattle.std.proofs.lemmas.List.Folds.{list_any-append}
use Rattle.road_base.specs.declared.osm_objects.Kind.{Kind}
use Rattle.road_base.specs.declared.osm_objects.Kind.TheVariants as kind
use Rattle.road_base.specs.declared.osm_objects.Node.{Node}
use Rattle.road_base.specs.declared.osm_objects.Object.{Object}
use Rattle.road_base.specs.declared.osm_objects.Object.TheVariants as object
use Rattle.road_base.specs.declared.osm_objects.Relation.{Relation}
use Rattle.road_base.specs.declared.osm_objects.Way.{Way}
use Rattle.opl_read.specs.Seen.{is_named, stood, AreKept, AreSeen}
use Rattle.opl_read.specs.declared.seen_ids.KindIds.{KindIds}
use Rattle.opl_read.specs.declared.seen_ids.KindIds.TheVariants as ids
use Rattle.opl_read.specs.declared.seen_ids.SeenIds.{SeenIds}

-- where no id from this one on was there, none above it is there with it
pub none_above : (was : ℤ → Bool) (id : ℤ) → ((other : ℤ) → id ≤ℤ other → was other ≡ false) → (other : ℤ) → id <ℤ other → (was other || int_eq id other) ≡ false
none_above was id none other lt = elim (cases_Bool (int_eq id other)) [
  | inl same ↦ let e : id ≡ other = (Decides-int_eq id other).0 same in absurd (<ℤ_irrefl (subst (λ (x : ℤ). x <ℤ other) e lt))
  | inr differs ↦ ap (λ b. b || int_eq id other) (none other (omega (arith, ints))) ∙ differs
]

-- of the same ids the same is kept
AreKept-same : (was now : ℤ → Bool) (kept : KindIds) → ((id : ℤ) → was id ≡ now id) → AreKept was kept → AreKept now kept
AreKept-same was now ids.Nothing same are = λ id. sym (same id) ∙ are id
AreKept-same was now (ids.UpTo greatest) same are = λ id lt. sym (same id) ∙ are id lt
AreKept-same was now (ids.Among set) same are = λ id. are id ∙ same id

pub stood-push : (kind : Kind) (objects : List Object) (object : Object) (id : ℤ) → stood kind (objects ++ object ∷ []) id ≡ (stood kind objects id || is_named kind id object)
stood-push kind objects object id =
    list_any-append (is_named kind id) objects (object ∷ []) ∙ ap (λ b. stood kind objects id || b) (or-false (is_named kind id object))

module _ (objects : List Object) (object : Object) (kind : Kind) (kept : KindIds) where
  -- an object of another kind changes nothing
  other-kind : ((id : ℤ) → is_named kind id object ≡ false) → AreKept (stood kind objects) kept → AreKept (stood kind (objects ++ object ∷ [])) kept
  other-kind none = AreKept-same (stood kind objects) (stood kind (objects ++ object ∷ [])) kept
      (λ id. sym (stood-push kind objects object id ∙ ap (λ b. stood kind objects id || b) (none id) ∙ or-false (stood kind objects id)))

  -- one of this kind adds its id
  own-kind : (mine : ℤ) → ((id : ℤ) → is_named kind id object ≡ int_eq mine id) → AreKept (λ id. stood kind objects id || int_eq mine id) kept → AreKept (stood kind (objects ++ object ∷ [])) kept
  own-kind mine its = AreKept-same (λ id. stood kind objects id || int_eq mine id) (stood kind (objects ++ object ∷ [])) kept
      (λ id. sym (stood-push kind objects object id ∙ ap (λ b. stood kind objects id || b) (its id)))

module _ (objects : List Object) (seen : SeenIds) (are : AreSeen objects seen) (kept : KindIds) where
  pub seen-node : (n : Node) → AreKept (λ id. stood kind.Node objects id || int_eq n.id id) kept → AreSeen (objects ++ object.Node n ∷ []) (record { nodes = kept; ways = seen.ways; relations = seen.relations })
  seen-node n more = record {
    nodes = own-kind objects (object.Node n) kind.Node kept n.id (λ id. refl) more;
    ways = other-kind objects (object.Node n) kind.Way seen.ways (λ id. refl) are.ways;
    relations = other-kind objects (object.Node n) kind.Relation seen.relations (λ id. refl) are.relations;
  }

  pub seen-way : (w : Way) → AreKept (λ id. stood kind.Way objects id || int_eq w.id id) kept → AreSeen (objects ++ object.Way w ∷ []) (record { nodes = seen.nodes; ways = kept; relations = seen.relations })
  seen-way w more = record {
    nodes = other-kind objects (object.Way w) kind.Node seen.nodes (λ id. refl) are.nodes;
    ways = own-kind objects (object.Way w) kind.Way kept w.id (λ id. refl) more;
    relations = other-kind objects (object.Way w) kind.Relation seen.relations (λ id. refl) are.relations;
  }

  pub seen-relation : (r : Relation) → AreKept (λ id. stood kind.Relation objects id || int_eq r.id id) kept → AreSeen (objects ++ object.Relation r ∷ []) (record { nodes = seen.nodes; ways = seen.ways; relations = kept })
  seen-relation r more = record {
    nodes = other-kind objects (object.Relation r) kind.Node seen.nodes (λ id. refl) are.nodes;
    ways = other-kind objects (object.Relation r) kind.Way seen.ways (λ id. refl) are.ways;
    relations = own-kind objects (object.Relation r) kind.Relation kept r.id (λ id. refl) more;
  }
