-- The crate's own: what a search knows of the points of a line, where those behind the one at `from` are left.
use Rattle.std.specs.Prelude.{◌≡◌, ℕ, List}
use Rattle.road_base.specs.declared.coordinates.Point.{Point}
use Rattle.line_simplify.specs.Blocks.{AreCovered}
use Rattle.line_simplify.specs.Finds.{AreFinds}
use Rattle.line_simplify.specs.Splits.{AreSplits}
use Rattle.line_simplify.specs.declared.simplifying.Search.{Search}

pub record Knows (limit : ℕ) (points : List Point) (from : ℕ) (search : Search) : Type 0 where
  pub limited : search.limit ≡ limit
  pub runs : AreCovered search.runs 0 points
  pub finds : AreFinds points from search.finds.finds.items
  pub parts : AreSplits limit points search.parts.parts.items
