-- What numbers rows have (this project's rule).
use Rattle.std.specs.Prelude.{◌≡◌, ◌⊎◌, ℕ, ◌≤◌, List, All}
use Rattle.std.specs.Option.{ForSome}
use Rattle.traffic_files.specs.declared.rows.SpeedRow.{SpeedRow}
use Rattle.traffic_files.specs.declared.rows.TurnRow.{TurnRow}

-- a speed of 0, which closes the way, or one of 1 to 1000 km/h
abbrev pub IsRowSpeed : ℕ → Type 0
IsRowSpeed speed = (speed ≡ 0) ⊎ ((1000 ≤ speed) × (speed ≤ 1000000))

-- 0.278 to 1000 metres for each unit of the printed weight
abbrev pub IsRate : ℕ → Type 0
IsRate rate = (278 ≤ rate) × (rate ≤ 1000000)

-- a weight of at most 100000, in tenths
abbrev pub IsRowWeight : ℕ → Type 0
IsRowWeight weight = weight ≤ 1000000

abbrev pub IsSpeedInRange : SpeedRow → Type 0
IsSpeedInRange row = IsRowSpeed row.speed × ForSome row.rate IsRate

-- a penalty of at most 100000 s
abbrev pub IsPenaltyInRange : TurnRow → Type 0
IsPenaltyInRange row = (row.penalty ≤ 1000000) × ForSome row.weight IsRowWeight

abbrev pub AreSpeedsInRange : List SpeedRow → Type 0
AreSpeedsInRange rows = All IsSpeedInRange rows

abbrev pub ArePenaltiesInRange : List TurnRow → Type 0
ArePenaltiesInRange rows = All IsPenaltyInRange rows
