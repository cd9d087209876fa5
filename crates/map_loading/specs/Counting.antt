-- What `check` prints: how many objects a map has, and what its network is for a vehicle (this project's rule).
use Rattle.std.specs.Prelude.{ℕ, Bool, true, false, ◌*◌, ◌==◌, if◌then◌else◌, List, [], ◌++◌, length, codes, count_by}
use Rattle.std.specs.Fmt.{decimal}
use Rattle.road_base.specs.declared.osm_objects.Kind.{Kind}
use Rattle.road_base.specs.declared.osm_objects.Kind.TheVariants as kind
use Rattle.road_base.specs.declared.osm_objects.Object.{Object}
use Rattle.road_base.specs.declared.osm_objects.Object.TheVariants as object
use Rattle.edge_graph.specs.NetworkView.{NetworkView, vertices_of}
use Rattle.map_loading.specs.declared.counting.Counts.{Counts}

-- the object is of this kind
abbrev pub is_of : Kind → Object → Bool
is_of kind.Node (object.Node n) = true
is_of kind.Way (object.Way w) = true
is_of kind.Relation (object.Relation r) = true
is_of _ _ = false

-- how many objects of each kind there are
abbrev pub counts_of : List Object → Counts
counts_of objects = record { nodes = count_by (is_of kind.Node) objects; ways = count_by (is_of kind.Way) objects; relations = count_by (is_of kind.Relation) objects }

-- how many vertices of the network the vehicle may use
abbrev pub permitted_in : NetworkView → ℕ
permitted_in network = count_by (λ v. v.permitted) (vertices_of network)

-- a text, and behind it a line with a word and its number
abbrev pub with_line : List ℕ → List ℕ → ℕ → List ℕ
with_line text word count = text ++ (word ++ (codes " " ++ (decimal count ++ codes "\n")))

-- eight lines of what there is
unfoldable pub counts_text : Counts → NetworkView → List ℕ
counts_text objects network =
    let nodes = with_line [] (codes "nodes") objects.nodes in
    let ways = with_line nodes (codes "ways") objects.ways in
    let relations = with_line ways (codes "relations") objects.relations in
    let segments = with_line relations (codes "segments") (length network.segments) in
    let vertices = with_line segments (codes "vertices") (permitted_in network) in
    let turns = with_line vertices (codes "turns") (length network.turns) in
    let restrictions = with_line turns (codes "restrictions") network.applied in
    with_line restrictions (codes "ignored") network.ignored

-- behind a text, where the settings have sets of classes that a request may exclude, how many, and how many bytes the
-- costs of the network's vertices take for each of these, those of copies not counted
abbrev pub with_sets : List ℕ → NetworkView → List ℕ
with_sets text network = if length network.profile.excludable == 0 then text else (
    let sets = with_line text (codes "excludable") (length network.profile.excludable) in
    with_line sets (codes "set_bytes") (16 * length network.segments))

-- the lines of a map
unfoldable pub check_text : Counts → NetworkView → List ℕ
check_text objects network = with_sets (counts_text objects network) network
