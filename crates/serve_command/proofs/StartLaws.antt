-- What a run to serve begins with, put together from its parts.
use Rattle.std.proofs.Common.{◌≡◌, inl, inr, ℕ, List, [], ◌∷◌, ◌++◌, Option, None, Some, Result, Ok, Err, IfErr, IfOk, refl, subst, sym}
use Rattle.control_port.specs.Controlling.{AreRowsOf, BothRows}
use Rattle.command_words.specs.Commands.{Serving}
use Rattle.customized.specs.Exact.{Customized, customized_on}
use Rattle.customized.specs.Framing.{RoadsView}
use Rattle.edge_graph.specs.NetworkView.{NetworkView}
use Rattle.map_loading.specs.LoadCause.{IsLoadFault}
use Rattle.map_loading.specs.Loading.{load_of}
use Rattle.map_loading.specs.declared.loading.LoadFault.{LoadFault}
use Rattle.map_loading.specs.declared.loading.LoadFault.TheVariants as load
use Rattle.metric_make.specs.MetricOf.{MetricView, metric_of}
use Rattle.metric_publish.specs.History.{entry}
use Rattle.program_ends.specs.FileReads.{AreRead, FileBytes, IsBare, IsLeft, listed, named, names_of}
use Rattle.program_ends.specs.ReadLaws.{left_before, left_then, read_then}
use Rattle.road_io.specs.Views.{FilesView}
use Rattle.road_io.specs.declared.failures.FileFault.{FileFault}
use Rattle.serve_command.specs.InnerEnds.{IsFirstMetric, IsRowFault, IsStartFault}
use Rattle.serve_command.specs.Start.{IsOpening, IsStartRead, StartBytes, names_in, start_bytes}

pub names_named : (name : Option (List ℕ)) (bytes : List ℕ) → names_of (named name bytes) ≡ listed name
names_named None bytes = refl
names_named (Some name) bytes = refl

abbrev both : Serving → List ℕ → List ℕ → List FileBytes
both words map settings = (words.map, map) ∷ (words.settings, settings) ∷ []

pub start_read : (first one two last : FilesView) (words : Serving) (bytes : StartBytes)
    → AreRead first one (both words bytes.map bytes.settings) → AreRead one two (named words.speeds bytes.speeds) → AreRead two last (named words.turns bytes.turns)
    → IsBare words.speeds bytes.speeds → IsBare words.turns bytes.turns → IsStartRead first last words bytes
start_read first one two last words bytes read speeds turns no_speeds no_turns = record {
  read = read_then first two last (both words bytes.map bytes.settings ++ named words.speeds bytes.speeds) (named words.turns bytes.turns)
      (read_then first one two (both words bytes.map bytes.settings) (named words.speeds bytes.speeds) read speeds) turns;
  no_speeds = no_speeds;
  no_turns = no_turns;
}

-- map or settings were not read
pub left_both : (first last : FilesView) (words : Serving) (name : List ℕ) (fault : FileFault)
    → IsLeft first last (words.map ∷ words.settings ∷ []) name fault → IsLeft first last (names_in words) name fault
left_both first last words name fault left =
    left_before first last (words.map ∷ words.settings ∷ []) (listed words.speeds ++ listed words.turns) name fault left

-- the speeds were not
pub left_speeds : (first one last : FilesView) (words : Serving) (map settings name : List ℕ) (fault : FileFault)
    → AreRead first one (both words map settings) → IsLeft one last (listed words.speeds) name fault → IsLeft first last (names_in words) name fault
left_speeds first one last words map settings name fault read left =
    left_before first last (words.map ∷ words.settings ∷ listed words.speeds) (listed words.turns) name fault
    (left_then first one last (both words map settings) (listed words.speeds) name fault read left)

-- the turns were not
pub left_turns : (first one two last : FilesView) (words : Serving) (map settings speeds name : List ℕ) (fault : FileFault)
    → AreRead first one (both words map settings) → AreRead one two (named words.speeds speeds) → IsLeft two last (listed words.turns) name fault → IsLeft first last (names_in words) name fault
left_turns first one two last words map settings speeds name fault read more left =
    subst (λ (l : List (List ℕ)). IsLeft first last (words.map ∷ words.settings ∷ (l ++ listed words.turns)) name fault) (names_named words.speeds speeds)
    (left_then first two last (both words map settings ++ named words.speeds speeds) (listed words.turns) name fault
    (read_then first one two (both words map settings) (named words.speeds speeds) read more) left)

pub first_metric : (roads : RoadsView) (speeds turns : List ℕ) (rows : BothRows) (base : MetricView) (metric : Customized)
    → AreRowsOf speeds turns rows → base ≡ metric_of roads.network rows.speeds rows.turns → metric ≡ customized_on roads base → IsFirstMetric roads speeds turns metric
first_metric roads speeds turns rows base metric read made is = record {
  base = base;
  made = record {
    rows = record { speeds = rows.speeds; turns = rows.turns; speeds_read = read.speeds_read; turns_read = read.turns_read };
    made = made;
  };
  metric_is = is;
}

module _ {S : Type 0} (roads : S → RoadsView) (metric : S → Customized) where
  pub opening_of : (r : Result S LoadFault) (network : NetworkView) (bytes : StartBytes) → load_of bytes.map bytes.settings ≡ Ok network
      → IfOk r (λ s. (roads s).network ≡ network) → IfOk r (λ s. IsFirstMetric (roads s) bytes.speeds bytes.turns (metric s))
      → IfOk r (λ s. IsOpening bytes (roads s) (entry 0 (metric s) ∷ []))
  opening_of (Ok s) network bytes loads of first = record {
    base = first.base;
    loads = subst (λ (n : NetworkView). load_of bytes.map bytes.settings ≡ Ok n) (sym of) loads;
    made = first.made;
    first_is = subst (λ (m : Customized). entry 0 (metric s) ∷ [] ≡ entry 0 m ∷ []) first.metric_is refl;
  }
  opening_of (Err e) network bytes loads of first = tt

fault_row : (fault : LoadFault) (network : NetworkView) (bytes : StartBytes) → load_of bytes.map bytes.settings ≡ Ok network → IsRowFault bytes.speeds bytes.turns fault → IsStartFault bytes fault
fault_row (load.Refused line) network bytes loads row = inr (record { network = network; loads = loads; fault = row.0; first = row.1; line_is = row.2 })
fault_row load.Memory network bytes loads row = tt

-- behind a map that is loaded a fault is one of the rows
pub fault_of_rows : {S : Type 0} (r : Result S LoadFault) (network : NetworkView) (bytes : StartBytes) → load_of bytes.map bytes.settings ≡ Ok network
    → IfErr r (IsRowFault bytes.speeds bytes.turns) → IfErr r (IsStartFault bytes)
fault_of_rows (Ok s) network bytes loads row = tt
fault_of_rows (Err e) network bytes loads row = fault_row e network bytes loads row

-- and before, one of loading
pub fault_of_load : (fault : LoadFault) (bytes : StartBytes) → IsLoadFault (load_of bytes.map bytes.settings) fault → IsStartFault bytes fault
fault_of_load (load.Refused line) bytes is = inl is
fault_of_load load.Memory bytes is = tt

-- the same of other names of the same bytes
pub bytes_same : (P : StartBytes → Type 0) (map settings speeds turns now_settings now_speeds now_turns : List ℕ) → settings ≡ now_settings → speeds ≡ now_speeds → turns ≡ now_turns
    → P (start_bytes map settings speeds turns) → P (start_bytes map now_settings now_speeds now_turns)
bytes_same P map settings speeds turns now_settings now_speeds now_turns one two three holds =
    subst (λ (l : List ℕ). P (start_bytes map now_settings now_speeds l)) three
    (subst (λ (l : List ℕ). P (start_bytes map now_settings l turns)) two
    (subst (λ (l : List ℕ). P (start_bytes map l speeds turns)) one holds))
