-- The generated town of a number (this project's rule): a map of any size made from a number alone, as OPL text
-- (osmcode.org/opl-file-format).
--
-- Town n has n times n nodes, a thousandth of a degree apart. It has n rows from west to east, each fourth of which
-- is primary, and n columns from south to north, of each four of which one is a one-way street to the north and one to
-- the south. Turns to the left out of a row into a column are forbidden at some of the nodes inside.
use Rattle.std.specs.Prelude.{ℕ, ◌+◌, ◌-◌, ◌*◌, ◌/◌, ◌%◌, ◌==◌, Bool, List, [], ◌++◌, codes, if◌then◌else◌}
use Rattle.std.specs.Fmt.{decimal}
use Rattle.std.specs.List.{flat_map, range_with_len}

-- the id of the node in column x and row y; nodes are numbered from 1, row by row
abbrev pub node_id : ℕ → ℕ → ℕ → ℕ
node_id n x y = y * n + x + 1

-- so many thousandths of a degree, with six decimals
abbrev pub degrees : ℕ → List ℕ
degrees v = decimal (v / 1000) ++ (codes "." ++ (decimal (v / 100 % 10) ++ (decimal (v / 10 % 10) ++ (decimal (v % 10) ++ codes "000"))))

-- the node in column x and row y lies x thousandths of a degree to the east and y to the north
unfoldable pub node_line : ℕ → ℕ → ℕ → List ℕ
node_line n x y = codes "n" ++ (decimal (node_id n x y) ++ (codes " x" ++ (degrees x ++ (codes " y" ++ (degrees y ++ codes "\n")))))

-- a node of a way behind another
unfoldable pub next_node : ℕ → List ℕ
next_node id = codes ",n" ++ decimal id

-- n nodes of a way, the first of this id and each next one's id by `step` above the one before
unfoldable pub nodes_along : (n first step : ℕ) → List ℕ
nodes_along n first step = (codes "n" ++ decimal first) ++ flat_map (λ k. next_node (first + k * step)) (range_with_len 1 (n - 1))

-- each fourth row is primary, beginning with the southernmost
unfoldable pub row_class : ℕ → List ℕ
row_class y = if y % 4 == 0 then codes "primary" else codes "residential"

-- the ways of the rows have the ids from 1 on
unfoldable pub row_head : ℕ → List ℕ
row_head y = codes "w" ++ (decimal (y + 1) ++ (codes " Thighway=" ++ (row_class y ++ (codes ",name=Row%20%" ++ (decimal y ++ codes " N")))))

unfoldable pub row_line : ℕ → ℕ → List ℕ
row_line n y = row_head y ++ nodes_along n (node_id n 0 y) 1 ++ codes "\n"

-- where x mod 4 is 1 the column is one-way as its nodes stand, and where it is 3 against them
unfoldable pub column_direction : ℕ → List ℕ
column_direction x = if x % 4 == 1 then codes ",oneway=yes" else if x % 4 == 3 then codes ",oneway=-1" else []

-- the ways of the columns have the next ids
unfoldable pub column_head : ℕ → ℕ → List ℕ
column_head n x = codes "w" ++ (decimal (n + x + 1) ++ (codes " Thighway=residential,name=Column%20%" ++ decimal x))

unfoldable pub column_line : ℕ → ℕ → List ℕ
column_line n x = column_head n x ++ column_direction x ++ codes " N" ++ nodes_along n (node_id n x 0) n ++ codes "\n"

-- at these nodes of those inside a turn is forbidden
abbrev pub is_forbidden_at : ℕ → ℕ → Bool
is_forbidden_at x y = (7 * x + 11 * y) % 13 == 0

-- the turn to the left out of the row into the column
abbrev pub forbidden_turn : ℕ → ℕ → ℕ → List ℕ
forbidden_turn n x y =
    codes "r" ++ (decimal (node_id n x y) ++ (codes " Ttype=restriction,restriction=no_left_turn Mw" ++ (decimal (y + 1) ++ (codes "@from,n" ++ (decimal (node_id n x y)
    ++ (codes "@via,w" ++ (decimal (n + x + 1) ++ codes "@to\n")))))))

-- the line of a node inside, if a turn is forbidden there
unfoldable pub restriction_line : ℕ → ℕ → ℕ → List ℕ
restriction_line n x y = if is_forbidden_at x y then forbidden_turn n x y else []

-- the numbers of all rows, or columns, and of those inside
abbrev pub all_of : ℕ → List ℕ
all_of n = range_with_len 0 n

abbrev pub inner_of : ℕ → List ℕ
inner_of n = range_with_len 1 (n - 2)

-- the lines of the nodes, of the rows, of the columns, and of the forbidden turns; nodes and forbidden turns stand in the
-- order of the nodes' ids
unfoldable pub node_lines : ℕ → List ℕ
node_lines n = flat_map (λ y. flat_map (λ x. node_line n x y) (all_of n)) (all_of n)

unfoldable pub row_lines : ℕ → List ℕ
row_lines n = flat_map (λ y. row_line n y) (all_of n)

unfoldable pub column_lines : ℕ → List ℕ
column_lines n = flat_map (λ x. column_line n x) (all_of n)

unfoldable pub restriction_lines : ℕ → List ℕ
restriction_lines n = flat_map (λ y. flat_map (λ x. restriction_line n x y) (inner_of n)) (inner_of n)

-- the text of the town
unfoldable pub town_text : ℕ → List ℕ
town_text n = node_lines n ++ row_lines n ++ column_lines n ++ restriction_lines n
