-- Of which of a profile's classes a way is (this project's rule over OpenStreetMap's tags).
use Rattle.std.specs.Prelude.{ℕ, Bool, List, [], ◌∷◌, filter, map}
use Rattle.std.specs.List.{list_any}
use Rattle.way_profile.specs.Vehicle.{ProfileView}
use Rattle.way_profile.specs.WayTags.{says}

-- the tags have one of the class: its key with exactly its value
abbrev pub is_of_class : List (List ℕ × List ℕ) → List ℕ × List (List ℕ × List ℕ) → Bool
is_of_class tags class = list_any (λ tag. says tags tag.0 (tag.1 ∷ [])) class.1

-- the names of the classes of a way with these tags, in the order in which the profile has them
abbrev pub classes_of : ProfileView → List (List ℕ × List ℕ) → List (List ℕ)
classes_of profile tags = map (λ class. class.0) (filter (is_of_class tags) profile.classes)
