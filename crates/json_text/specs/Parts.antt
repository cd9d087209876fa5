-- What the bytes so far are: a front of the compact text of a JSON value, cut between two calls.
use Rattle.std.specs.Prelude.{◌≡◌, ℕ, List, [], ◌∷◌, ◌++◌}
use Rattle.json.specs.Print.{quoted}
use Rattle.json_text.specs.declared.draft.Container.{Container}
use Rattle.json_text.specs.declared.draft.Container.TheVariants as container
use Rattle.json_text.specs.declared.draft.Last.{Last}
use Rattle.json_text.specs.declared.draft.Last.TheVariants as last
use Rattle.json_text.specs.Values.{JsonValue, Items, no_items, item, Members, no_members, member, compact_text, items_text, members_text}
use Rattle.json_text.specs.Drafts.{Draft, empty_draft, comma_text}

-- an open container that another one stands in: an array with the items before it, or an object
-- with the members before it and the key that it stands behind
pub data Frame : Type 0 where
  in_array : Items → Frame
  in_object : Members → List ℕ → Frame

-- nothing, a whole value, or an innermost container with what it has so far, inside such frames
pub data Part : Type 0 where
  nothing : Part
  finished : JsonValue → Part
  items : Items → List Frame → Part
  members : Members → List Frame → Part
  key : List ℕ → Members → List Frame → Part

-- what stands last in an array with these items
abbrev pub last_of_items : Items → Last
last_of_items no_items = last.Opening
last_of_items (item v vs) = last.Value

-- what stands last in an object with these members
abbrev pub last_of_members : Members → Last
last_of_members no_members = last.Opening
last_of_members (member k v ms) = last.Value

-- an object up to the colon behind this key
abbrev pub key_text : Members → List ℕ → List ℕ
key_text ms k = 123 ∷ members_text ms ++ comma_text (last_of_members ms) ++ quoted k ++ 58 ∷ []

-- the text up to where the next value stands, the innermost frame first
abbrev pub frames_text : List Frame → List ℕ
frames_text [] = []
frames_text (in_array vs ∷ outer) = frames_text outer ++ 91 ∷ items_text vs ++ comma_text (last_of_items vs)
frames_text (in_object ms k ∷ outer) = frames_text outer ++ key_text ms k

-- the container of each frame
abbrev pub containers_of : List Frame → List Container
containers_of [] = []
containers_of (in_array vs ∷ outer) = container.Array ∷ containers_of outer
containers_of (in_object ms k ∷ outer) = container.Object ∷ containers_of outer

-- the draft of a part
abbrev pub draft_of : Part → Draft
draft_of nothing = empty_draft
draft_of (finished v) = record { bytes = compact_text v; containers = []; latest = last.Value }
draft_of (items vs outer) = record {
  bytes = frames_text outer ++ 91 ∷ items_text vs;
  containers = container.Array ∷ containers_of outer;
  latest = last_of_items vs;
}
draft_of (members ms outer) = record {
  bytes = frames_text outer ++ 123 ∷ members_text ms;
  containers = container.Object ∷ containers_of outer;
  latest = last_of_members ms;
}
draft_of (key k ms outer) = record {
  bytes = frames_text outer ++ key_text ms k;
  containers = container.Object ∷ containers_of outer;
  latest = last.Key;
}

-- the draft is a part of some JSON value
abbrev pub IsPart : Draft → Type 0
IsPart d = (p : Part) × (d ≡ draft_of p)
