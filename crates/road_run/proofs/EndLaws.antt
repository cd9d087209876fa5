-- What the parts of a run say, put together.
use Rattle.std.proofs.Common.{◌≡◌, ℕ, List, ◌⊎◌, inl, inr, Ok, Err, refl, sym, ◌∙◌, subst}
use Rattle.road_io.specs.Faults.{FilesRose, InputRose, OutputRose, Rose}
use Rattle.road_io.specs.Outside.{Outside, outside}
use Rattle.road_io.specs.Putting.{Closes}
use Rattle.road_io.specs.Views.{FilesView, InputView, OutputView}
use Rattle.road_base.specs.declared.program_status.Status.{Status}
use Rattle.road_base.specs.declared.program_status.Status.TheVariants as status
use Rattle.edge_graph.specs.NetworkView.{NetworkView}
use Rattle.line_session.specs.Publication.{Publication, opening}
use Rattle.opl_read.specs.Objects.{opl_objects}
use Rattle.road_base.specs.declared.osm_objects.Object.{Object}
use Rattle.map_loading.specs.Counting.{check_text, counts_of}
use Rattle.map_loading.specs.Loading.{load_of}
use Rattle.program_ends.specs.FileReads.{AreBegun, AreRead}
use Rattle.program_ends.specs.ReadLaws.{begun_all}
use Rattle.program_ends.specs.StoppedEarly.{EndsUnbegun}
use Rattle.road_run.specs.AskEnding.{Answering, EndsAsk, EndsFailed, EndsTold, EndsUnread, IsLong}
use Rattle.road_run.specs.CheckEnding.{EndsCheck, IsCounted}
use Rattle.road_run.specs.InnerEnds.{EndsCountOver, EndsFrom, EndsOver, answered, count_exhausted, count_refused, counted, exhausted, refused}
use Rattle.road_run.specs.MapReads.{MapRefused, both_files, both_names}
use Rattle.road_run.specs.TownEnding.{EndsDrill, EndsPut, EndsTown}
use Rattle.town_drill.specs.Drill.{IsDrill}

-- where a file is not read, the run ends for it
pub ask_unbegun : (code : Status) (before after : Outside) (map settings : List ℕ) → EndsUnbegun code before after (both_names map settings) → EndsAsk code before after map settings
ask_unbegun status.Ok before after map settings h = absurd h
ask_unbegun status.Outside before after map settings h = inl h
ask_unbegun status.Words before after map settings h = absurd h
ask_unbegun status.Refused before after map settings h = absurd h
ask_unbegun status.Memory before after map settings h = h

pub check_unbegun : (code : Status) (before after : Outside) (map settings : List ℕ) → EndsUnbegun code before after (both_names map settings) → EndsCheck code before after map settings
check_unbegun status.Ok before after map settings h = absurd h
check_unbegun status.Outside before after map settings h = inl h
check_unbegun status.Words before after map settings h = absurd h
check_unbegun status.Refused before after map settings h = absurd h
check_unbegun status.Memory before after map settings h = h

answering_of : (ended : Publication → Outside → Outside → Type 0) (before after : Outside) (files : FilesView) (map settings map_bytes settings_bytes : List ℕ) (network : NetworkView)
    → AreRead before.files files (both_files map settings map_bytes settings_bytes) → load_of map_bytes settings_bytes ≡ Ok network
    → ended (opening network) (outside files before.input before.output) after → Answering ended before after map settings
answering_of ended before after files map settings map_bytes settings_bytes network read loads ends = record {
  files = files;
  network = network;
  loaded = record { map_bytes = map_bytes; settings_bytes = settings_bytes; read = read; loads = loads };
  ends = ends;
}

-- how answering over what was loaded ends, by its status
ends_from : (code : Status) (before after : Outside) (files : FilesView) (map settings map_bytes settings_bytes : List ℕ) (network : NetworkView)
    → AreRead before.files files (both_files map settings map_bytes settings_bytes) → load_of map_bytes settings_bytes ≡ Ok network
    → EndsFrom code (opening network) (outside files before.input before.output) after
    → EndsAsk code before after map settings
ends_from status.Ok before after files map settings map_bytes settings_bytes network read loads h = (
  record { files = h.1.answered.grows.read.steady ∙ read.steady; input = h.1.steady; output = h.1.answered.grows.steady },
  answering_of EndsTold before after files map settings map_bytes settings_bytes network read loads h,
)
ends_from status.Outside before after files map settings map_bytes settings_bytes network read loads (inl failed) =
    inr (inl (answering_of EndsFailed before after files map settings map_bytes settings_bytes network read loads failed))
ends_from status.Outside before after files map settings map_bytes settings_bytes network read loads (inr unread) =
    inr (inr (answering_of EndsUnread before after files map settings map_bytes settings_bytes network read loads unread))
ends_from status.Words before after files map settings map_bytes settings_bytes network read loads h = absurd h
ends_from status.Refused before after files map settings map_bytes settings_bytes network read loads h =
    inr (answering_of IsLong before after files map settings map_bytes settings_bytes network read loads h)
ends_from status.Memory before after files map settings map_bytes settings_bytes network read loads h = record {
  files = subst (λ (v : FilesView). AreBegun before.files v (both_names map settings)) (sym h.0) (begun_all before.files files (both_files map settings map_bytes settings_bytes) read);
  input = h.1;
  put = h.2;
}

refuses_of : (before after : Outside) (map settings map_bytes settings_bytes line : List ℕ)
    → AreRead before.files after.files (both_files map settings map_bytes settings_bytes) → load_of map_bytes settings_bytes ≡ Err line
    → after.input ≡ before.input → Closes before.output after.output line → MapRefused before after map settings
refuses_of before after map settings map_bytes settings_bytes line read refuses untaken put = record {
  map_bytes = map_bytes;
  settings_bytes = settings_bytes;
  line = line;
  refuses = record { read = read; input = untaken; put = put };
  refused = refuses;
}

-- how a run ends that read its files and answers
pub ends_of_read : (code : Status) (before after : Outside) (files : FilesView) (map settings map_bytes settings_bytes : List ℕ)
    → AreRead before.files files (both_files map settings map_bytes settings_bytes)
    → EndsOver code (load_of map_bytes settings_bytes) (outside files before.input before.output) after
    → EndsAsk code before after map settings
ends_of_read code before after files map settings map_bytes settings_bytes read (answered network loads from) =
    ends_from code before after files map settings map_bytes settings_bytes network read loads from
ends_of_read code before after files map settings map_bytes settings_bytes read (refused line refuses is unread untaken put) =
    subst (λ (c : Status). EndsAsk c before after map settings) (sym is)
    (inl (refuses_of before after map settings map_bytes settings_bytes line (subst (λ (v : FilesView). AreRead before.files v (both_files map settings map_bytes settings_bytes)) (sym unread) read) refuses untaken put))
ends_of_read code before after files map settings map_bytes settings_bytes read (exhausted is unread untaken put) =
    subst (λ (c : Status). EndsAsk c before after map settings) (sym is)
    (record {
      files = subst (λ (v : FilesView). AreBegun before.files v (both_names map settings)) (sym unread) (begun_all before.files files (both_files map settings map_bytes settings_bytes) read);
      input = untaken;
      put = put;
    })

counted_of : (first last : FilesView) (map settings map_bytes settings_bytes : List ℕ) (objects : List Object) (network : NetworkView)
    → AreRead first last (both_files map settings map_bytes settings_bytes) → opl_objects map_bytes ≡ Ok objects → load_of map_bytes settings_bytes ≡ Ok network
    → IsCounted first last map settings (check_text (counts_of objects) network)
counted_of first last map settings map_bytes settings_bytes objects network read are loads = record {
  map_bytes = map_bytes;
  settings_bytes = settings_bytes;
  read = read;
  objects = objects;
  are_objects = are;
  network = network;
  loads = loads;
  is_text = refl;
}

-- how putting the counts ends, by its status
count_from : (code : Status) (first last : FilesView) (input : InputView) (before after : OutputView) (map settings map_bytes settings_bytes text : List ℕ)
    → AreRead first last (both_files map settings map_bytes settings_bytes) → IsCounted first last map settings text → EndsPut code text before after
    → EndsCheck code (outside first input before) (outside last input after) map settings
count_from status.Ok first last input before after map settings map_bytes settings_bytes text read is h = (record { files = read.steady; input = refl; output = h.0 }, (text, is, h.1))
count_from status.Outside first last input before after map settings map_bytes settings_bytes text read is h = inr (h.0, (text, is, h.1))
count_from status.Words first last input before after map settings map_bytes settings_bytes text read is h = absurd h
count_from status.Refused first last input before after map settings map_bytes settings_bytes text read is h = absurd h
count_from status.Memory first last input before after map settings map_bytes settings_bytes text read is h =
    record { files = begun_all first last (both_files map settings map_bytes settings_bytes) read; input = refl; put = h }

-- how a run ends that read its files and counts
pub check_of_read : (code : Status) (first last : FilesView) (input : InputView) (before after : OutputView) (map settings map_bytes settings_bytes : List ℕ)
    → AreRead first last (both_files map settings map_bytes settings_bytes)
    → EndsCountOver code map_bytes settings_bytes before after
    → EndsCheck code (outside first input before) (outside last input after) map settings
check_of_read code first last input before after map settings map_bytes settings_bytes read (counted objects network are loads put) =
    count_from code first last input before after map settings map_bytes settings_bytes (check_text (counts_of objects) network) read (counted_of first last map settings map_bytes settings_bytes objects network read are loads) put
check_of_read code first last input before after map settings map_bytes settings_bytes read (count_refused line refuses is put) =
    subst (λ (c : Status). EndsCheck c (outside first input before) (outside last input after) map settings) (sym is)
    (refuses_of (outside first input before) (outside last input after) map settings map_bytes settings_bytes line read refuses refl put)
check_of_read code first last input before after map settings map_bytes settings_bytes read (count_exhausted is put) =
    subst (λ (c : Status). EndsCheck c (outside first input before) (outside last input after) map settings) (sym is)
    (record { files = begun_all first last (both_files map settings map_bytes settings_bytes) read; input = refl; put = put })

-- a run that counts ends for the outside only where a count of faults rose
check_causes : (first last : FilesView) (input : InputView) (before after : OutputView) (map settings : List ℕ) (doors : ℕ)
    → EndsCheck status.Outside (outside first input before) (outside last input after) map settings
    → FilesRose first last ⊎ (InputRose input input ⊎ (OutputRose before after ⊎ Rose doors doors))
check_causes first last input before after map settings doors (inl unread) = inl unread.failed.rose
check_causes first last input before after map settings doors (inr rest) = inr (inr (inl rest.0))

pub check_outside : (code : Status) (first last : FilesView) (input : InputView) (before after : OutputView) (map settings : List ℕ) (doors : ℕ)
    → EndsCheck code (outside first input before) (outside last input after) map settings
    → code ≡ status.Outside → FilesRose first last ⊎ (InputRose input input ⊎ (OutputRose before after ⊎ Rose doors doors))
check_outside code first last input before after map settings doors ends is =
    check_causes first last input before after map settings doors (subst (λ (c : Status). EndsCheck c (outside first input before) (outside last input after) map settings) is ends)

ask_causes : (before after : Outside) (map settings : List ℕ) (doors : ℕ) → EndsAsk status.Outside before after map settings
    → FilesRose before.files after.files ⊎ (InputRose before.input after.input ⊎ (OutputRose before.output after.output ⊎ Rose doors doors))
ask_causes before after map settings doors (inl unread) = inl unread.failed.rose
ask_causes before after map settings doors (inr (inl answering)) = elim answering.ends.1 [ inl failed ↦ inr (inl failed.rose) | inr failed ↦ inr (inr (inl failed.halted.grows.rose)) ]
ask_causes before after map settings doors (inr (inr answering)) = inl (subst (λ (n : ℕ). Rose n after.files.faults) answering.loaded.read.steady answering.ends.failed.halted.grows.read.rose)

-- and so does a run that answers
pub ask_outside : (code : Status) (before after : Outside) (map settings : List ℕ) (doors : ℕ) → EndsAsk code before after map settings → code ≡ status.Outside
    → FilesRose before.files after.files ⊎ (InputRose before.input after.input ⊎ (OutputRose before.output after.output ⊎ Rose doors doors))
ask_outside code before after map settings doors ends is = ask_causes before after map settings doors (subst (λ (c : Status). EndsAsk c before after map settings) is ends)

-- what a drill tells, put
pub drill_told : (code : Status) (n : ℕ) (text : List ℕ) (before after : OutputView) → IsDrill n text → EndsPut code text before after → EndsDrill code n before after
drill_told status.Ok n text before after is h = (h.0, (text, is, h.1))
drill_told status.Outside n text before after is h = (h.0, (text, is, h.1))
drill_told status.Words n text before after is h = absurd h
drill_told status.Refused n text before after is h = absurd h
drill_told status.Memory n text before after is h = h

-- a run over a town ends for the outside only where the output failed
pub town_outside : (code : Status) (n : ℕ) (files : FilesView) (input : InputView) (before after : OutputView) (doors : ℕ) → EndsTown code n before after → code ≡ status.Outside
    → FilesRose files files ⊎ (InputRose input input ⊎ (OutputRose before after ⊎ Rose doors doors))
town_outside code n files input before after doors ends is =
    let rose = subst (λ (c : Status). EndsTown c n before after) is ends in
    inr (inr (inl rose.0))

pub drill_outside : (code : Status) (n : ℕ) (files : FilesView) (input : InputView) (before after : OutputView) (doors : ℕ) → EndsDrill code n before after → code ≡ status.Outside
    → FilesRose files files ⊎ (InputRose input input ⊎ (OutputRose before after ⊎ Rose doors doors))
drill_outside code n files input before after doors ends is =
    let rose = subst (λ (c : Status). EndsDrill c n before after) is ends in
    inr (inr (inl rose.0))
