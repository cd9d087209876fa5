-- Roundabouts on a walk (`roundabout`, `exit roundabout` and `exit` of OSRM's route service; how exits are counted is
-- this project's rule). Place k of a walk is where its vertex k begins. A run is a longest part of a walk all of whose
-- vertices are round.
use Rattle.std.specs.Prelude.{ℕ, ◌-◌, ◌^◌, Bool, true, false, not, ◌&&◌, List, Option, None, Some, drop, if◌then◌else◌, min, reverse, slice_index, take}
use Rattle.std.specs.List.{count_by, list_all, list_any, slice_get, take_while}
use Rattle.std.specs.Option.{option_map_or}
use Rattle.road_turns.specs.Departures.{vertices_from}
use Rattle.edge_graph.specs.NetworkView.{NetworkView, vertices_of}

-- vertex v is a piece of a roundabout
abbrev pub is_round : NetworkView → ℕ → Bool
is_round network v = option_map_or (λ x. x.round) (slice_get (vertices_of network) v) false

-- the vehicle may use vertex v, whatever traffic there is today
abbrev pub is_permitted : NetworkView → ℕ → Bool
is_permitted network v = option_map_or (λ x. x.permitted) (slice_get (vertices_of network) v) false

-- vertex v leads off a roundabout, if it begins at one
abbrev pub leads_off : NetworkView → ℕ → Bool
leads_off network v = is_permitted network v && not (is_round network v)

-- vertex v has an exit: where it ends some vertex leads off
unfoldable pub has_exit : NetworkView → ℕ → Bool
has_exit network v = option_map_or (λ x. list_any (leads_off network) (vertices_from (vertices_of network) x.head)) (slice_get (vertices_of network) v) false

-- the round vertices from place k on
abbrev pub run_from : NetworkView → List ℕ → ℕ → List ℕ
run_from network walk k = take_while (is_round network) (drop k walk)

-- the round vertices that lead up to place k, the last of them first
abbrev pub run_up_to : NetworkView → List ℕ → ℕ → List ℕ
run_up_to network walk k = take_while (is_round network) (reverse (take k walk))

-- the number of the exit behind a run: how many of its vertices have one, told up to 2^32 - 1
abbrev pub exit_number : ℕ → ℕ
exit_number count = min count (2 ^ 32 - 1)

abbrev pub exit_behind : NetworkView → List ℕ → ℕ
exit_behind network run = exit_number (count_by (has_exit network) run)

-- that of the run that begins at place k; None where the walk ends in it
unfoldable pub exit_ahead : NetworkView → List ℕ → ℕ → Option ℕ
exit_ahead network walk k = if list_all (is_round network) (drop k walk) then None else Some (exit_behind network (run_from network walk k))

-- the exit that is told at place k, by whether the vertex before it and that behind it are round: where the walk comes
-- into a run the one that it will take, and where it leaves a run the one that it takes
abbrev pub exit_between : (before behind : Bool) → NetworkView → List ℕ → ℕ → Option ℕ
exit_between false true network walk k = exit_ahead network walk k
exit_between true false network walk k = Some (exit_behind network (run_up_to network walk k))
exit_between true true network walk k = None
exit_between false false network walk k = None

-- the exit that is told at place k of a walk, behind its first vertex
unfoldable pub exit_at : NetworkView → List ℕ → ℕ → Option ℕ
exit_at network walk k = exit_between (is_round network (slice_index walk (k - 1))) (is_round network (slice_index walk k)) network walk k
