-- Parts as halving keeps them, one behind another. This serves the crate's own functions alone.
use Rattle.std.specs.Prelude.{◌≡◌, List, [], ◌∷◌, ◌++◌, length, ◌⊎◌}
use Rattle.cell_partition.specs.declared.spot.Spot.{Spot}
use Rattle.cell_partition.specs.declared.spot.Axis.{Axis}
use Rattle.cell_partition.specs.declared.parts.Parts.{Parts}
use Rattle.cell_partition.specs.Bounds.{joined, ends, bounds_of}
use Rattle.cell_partition.specs.Orders.{IsInOrder}

-- each part in order along its axis, and at the same place in order across it
pub data AreInOrder : List Axis → List (List Spot) → List (List Spot) → Type 0 where
  none : AreInOrder [] [] []
  one_more : (axis : Axis) (axes : List Axis) (along across : List Spot) (parts others : List (List Spot)) → IsInOrder axis along across → AreInOrder axes parts others → AreInOrder (axis ∷ axes) (along ∷ parts) (across ∷ others)

-- these parts, in order along both axes
pub record AreParts (p : Parts) (parts : List (List Spot)) : Type 0 where
  pub others : List (List Spot)
  pub along : p.along.items ≡ joined parts
  pub across : p.across.items ≡ joined others
  pub bounds : p.bounds.items ≡ bounds_of parts
  pub in_order : AreInOrder p.axes.items parts others

-- these parts: before the first cut one that isn't sorted
pub record AreStanding (p : Parts) (parts : List (List Spot)) : Type 0 where
  pub along : p.along.items ≡ joined parts
  pub bounds : p.bounds.items ≡ bounds_of parts
  pub sorted : ((p.axes.items ≡ []) × (length parts ≡ 1)) ⊎ AreParts p parts

-- these parts stand behind the old ones
pub record AreAdded (old new : Parts) (parts : List (List Spot)) : Type 0 where
  pub others : List (List Spot)
  pub axes : List Axis
  pub along : new.along.items ≡ old.along.items ++ joined parts
  pub across : new.across.items ≡ old.across.items ++ joined others
  pub bounds : new.bounds.items ≡ old.bounds.items ++ ends (length old.along.items) parts
  pub axes_are : new.axes.items ≡ old.axes.items ++ axes
  pub in_order : AreInOrder axes parts others
