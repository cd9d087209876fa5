-- Values that are lists, over so many coordinates: one entry for each, or numbers of some of them.
use Rattle.std.specs.Prelude.{◌≡◌, ℕ, true, ◌==◌, List, length, replicate, nat_lt, Option, Some, None, if◌then◌else◌}
use Rattle.std.specs.List.{list_all}
use Rattle.option_values.specs.Values.{all_read, chosen_of}
use Rattle.option_values.specs.declared.option_types.Chosen.{Chosen}
use Rattle.option_values.specs.declared.option_types.Chosen.TheVariants.{All, Only}

abbrev pub as_many : {A : Type 0} → ℕ → Option (List A) → Option (List A)
as_many count None = None
as_many count (Some entries) = if length entries == count then Some entries else None

-- an entry for each coordinate: those of the value where it has as many, and absent ones where there is no value
abbrev pub one_each : {A : Type 0} → A → (List ℕ → Option A) → ℕ → Option (List ℕ) → Option (List A)
one_each absent read count None = Some (replicate count absent)
one_each absent read count (Some value) = as_many count (all_read read value)

-- the chosen coordinates where there are so many
abbrev pub among : ℕ → Option Chosen → Option Chosen
among count None = None
among count (Some All) = Some All
among count (Some (Only indexes)) = if list_all (λ i. nat_lt i count) indexes then Some (Only indexes) else None

abbrev pub chosen_among : ℕ → Option (List ℕ) → Option Chosen
chosen_among count None = Some All
chosen_among count (Some value) = among count (chosen_of value)

-- of so many coordinates there are those that are chosen
abbrev pub AreThere : ℕ → Chosen → Type 0
AreThere count All = Unit {0}
AreThere count (Only indexes) = list_all (λ i. nat_lt i count) indexes ≡ true
