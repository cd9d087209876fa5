-- Lists of costs, of which a reply tells one part (OSRM's HTTP API, version 1).
use Rattle.std.specs.Prelude.{ℕ, List, map, Option, Some, None}
use Rattle.search_graph.specs.declared.costs.WeightDurLen.{WeightDurLen}
use Rattle.json_text.specs.Values.{JsonValue, null, tenths}
use Rattle.json_text.specs.Wholes.{array_of}
use Rattle.route_steps.specs.Annotations.{speed_of}
use Rattle.reply_texts.specs.declared.cost_parts.CostPart.{CostPart}
use Rattle.reply_texts.specs.declared.cost_parts.CostPart.TheVariants as part

-- decimetres, deciseconds, tenths of a weight, or tenths of metres a second
abbrev pub part_of : CostPart → WeightDurLen → ℕ
part_of part.Length cost = cost.length
part_of part.Duration cost = cost.duration
part_of part.Weight cost = cost.weight
part_of part.Speed cost = speed_of cost

-- with one decimal each: metres, seconds, a weight, or metres a second
abbrev pub part_value : CostPart → WeightDurLen → JsonValue
part_value part cost = tenths (part_of part cost)

unfoldable pub costs_value : CostPart → List WeightDurLen → JsonValue
costs_value part costs = array_of (map (part_value part) costs)

-- a cell of a table; where no walk leads, it is null
abbrev pub cell_value : CostPart → Option WeightDurLen → JsonValue
cell_value part None = null
cell_value part (Some cost) = part_value part cost

unfoldable pub row_value : CostPart → List (Option WeightDurLen) → JsonValue
row_value part row = array_of (map (cell_value part) row)

-- a table, row by row
unfoldable pub rows_value : CostPart → List (List (Option WeightDurLen)) → JsonValue
rows_value part rows = array_of (map (row_value part) rows)
