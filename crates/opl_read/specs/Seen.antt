-- What a reader keeps of the ids of the objects so far, so that it knows the next one that was there.
use Rattle.std.specs.Prelude.{◌≡◌, ℤ, ◌<ℤ◌, Bool, false, List}
use Rattle.std.specs.HashSet.{contains}
use Rattle.std.specs.List.{list_any}
use Rattle.std.specs.Ordering.{int_eq}
use Rattle.road_base.specs.declared.osm_objects.Kind.{Kind}
use Rattle.road_base.specs.declared.osm_objects.Kind.TheVariants as kind
use Rattle.road_base.specs.declared.osm_objects.Object.{Object}
use Rattle.road_base.specs.declared.osm_objects.Object.TheVariants as object
use Rattle.opl_read.specs.declared.seen_ids.KindIds.{KindIds}
use Rattle.opl_read.specs.declared.seen_ids.KindIds.TheVariants as ids
use Rattle.opl_read.specs.declared.seen_ids.SeenIds.{SeenIds}

-- the object is of this kind and has this id
abbrev pub is_named : Kind → ℤ → Object → Bool
is_named kind.Node id (object.Node n) = int_eq n.id id
is_named kind.Way id (object.Way w) = int_eq w.id id
is_named kind.Relation id (object.Relation r) = int_eq r.id id
is_named _ _ _ = false

-- one of the objects is
abbrev pub stood : Kind → List Object → ℤ → Bool
stood kind objects id = list_any (is_named kind id) objects

-- what is kept of the ids that stood: none did, none above this one, or just these
abbrev pub AreKept : (ℤ → Bool) → KindIds → Type 0
AreKept stood ids.Nothing = (id : ℤ) → stood id ≡ false
AreKept stood (ids.UpTo greatest) = (id : ℤ) → greatest <ℤ id → stood id ≡ false
AreKept stood (ids.Among set) = (id : ℤ) → contains int_eq set id ≡ stood id

-- the ids of the objects are those that were seen
pub record AreSeen (objects : List Object) (seen : SeenIds) : Type 0 where
  pub nodes : AreKept (stood kind.Node objects) seen.nodes
  pub ways : AreKept (stood kind.Way objects) seen.ways
  pub relations : AreKept (stood kind.Relation objects) seen.relations
