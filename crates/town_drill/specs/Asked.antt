-- What a drill asks of a generated town (this project's rule): its settings, the rows of its three metrics, and between
-- which nodes it goes.
use Rattle.std.specs.Prelude.{ℕ, ◌+◌, ◌-◌, ◌*◌, ◌/◌, ◌%◌, ◌==◌, pos, Bool, zero, suc, List, [], ◌∷◌, ◌++◌, codes, None, if◌then◌else◌}
use Rattle.std.specs.List.{flat_map, range_with_len}
use Rattle.geo_integer.specs.Position.{Position}
use Rattle.town_text.specs.Town.{all_of, node_id}
use Rattle.traffic_files.specs.declared.rows.SpeedRow.{SpeedRow}

-- the settings, in TOML
abbrev pub settings_text : List ℕ
settings_text =
    codes "name = \"car\"\nvehicle = \"motorcar\"\nu_turn_penalty = 200\n\n[speeds]\nprimary = 60\nresidential = 30\n\n[turn_penalty]\nleft = 30\nright = 10\n"

-- under metric k the row's speed from a node to the next one to the east is ten times k km/h, told in thousandths; no row has a rate
abbrev pub speed_row : (n k x y : ℕ) → SpeedRow
speed_row n k x y = record { from = pos (node_id n x y); to = pos (node_id n (x + 1) y); speed = 10000 * k; rate = None }

-- at one node of five, and each metric at others
abbrev pub has_row : (k x y : ℕ) → Bool
has_row k x y = (x + y + k) % 5 == 0

abbrev pub row_at : (n k x y : ℕ) → List SpeedRow
row_at n k x y = if has_row k x y then speed_row n k x y ∷ [] else []

-- row by row, and in each from west to east; the last node of a row has none to its east
abbrev pub rows_along : (n k y : ℕ) → List SpeedRow
rows_along n k y = flat_map (λ x. row_at n k x y) (range_with_len 0 (n - 1))

-- the speed rows of metric k; metric 0 is the town's own and has none
unfoldable pub speed_rows : (n k : ℕ) → List SpeedRow
speed_rows n k = if k == 0 then [] else flat_map (λ y. rows_along n k y) (all_of n)

-- the nodes between which trip q goes under metric k, by their numbers in the order of their ids, from 0
abbrev pub start_of : (n k q : ℕ) → ℕ
start_of n k q = (101 * q + k) % (n * n)

abbrev pub stop_of : (n k q : ℕ) → ℕ
stop_of n k q = (211 * q + 3 * k + n) % (n * n)

-- where the node of this number lies: so many thousandths of a degree to the east as the number of its column, and to the
-- north as that of its row
abbrev pub node_position : (n i : ℕ) → Position
node_position n i = record { lon = pos (1000 * (i % n)); lat = pos (1000 * (i / n)) }
