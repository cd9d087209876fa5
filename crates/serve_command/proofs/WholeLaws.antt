-- How a whole run to serve ends, by how its parts do.
use Rattle.std.proofs.Common.{◌≡◌, ◌⊎◌, inl, inr, ℕ, List, [], ◌∷◌, ◌++◌, None, refl, ap, ap₂, sym, ◌∙◌, subst}
use Rattle.command_words.specs.Commands.{Serving}
use Rattle.control_port.specs.Controlling.{Board}
use Rattle.customized.specs.Framing.{RoadsView}
use Rattle.program_ends.specs.FileReads.{AreBegun, listed, named, names_of}
use Rattle.program_ends.specs.ReadLaws.{begun_all, names_append}
use Rattle.program_ends.specs.StoppedEarly.{EndsUnbegun, IsExhausted, memory_line}
use Rattle.road_base.specs.declared.program_status.Status.{Status}
use Rattle.road_base.specs.declared.program_status.Status.TheVariants as status
use Rattle.road_io.specs.DoorOpening.{DoorsView}
use Rattle.road_io.specs.Faults.{FilesRose, OutputRose, Rose}
use Rattle.road_io.specs.Outside.{Outside, outside}
use Rattle.road_io.specs.Putting.{Closes}
use Rattle.road_io.specs.Views.{FilesView, InputView, OutputView}
use Rattle.serve_command.specs.InnerEnds.{EndsOver, EndsStarted, begun, exhausted, refused}
use Rattle.serve_command.specs.ServeEnding.{EndsFaulty, EndsServe, Started, asked_in}
use Rattle.serve_command.specs.Start.{IsOpening, IsStartRead, StartBytes, files_of, names_in}
use Rattle.serve_command.proofs.StartLaws.{names_named}

names_started : (words : Serving) (bytes : StartBytes) → names_of (files_of words bytes) ≡ names_in words
names_started words bytes =
    ap (λ (l : List (List ℕ)). words.map ∷ words.settings ∷ l)
    (names_append (named words.speeds bytes.speeds) (named words.turns bytes.turns) ∙ ap₂ ◌++◌ (names_named words.speeds bytes.speeds) (names_named words.turns bytes.turns))

-- all files were read, and there was no memory for more
exhausted_of : (words : Serving) (bytes : StartBytes) (first last : FilesView) (input : InputView) (before after : OutputView)
    → IsStartRead first last words bytes → Closes before after memory_line → IsExhausted (outside first input before) (outside last input after) (names_in words)
exhausted_of words bytes first last input before after start put = record {
  files = subst (λ (names : List (List ℕ)). AreBegun first last names) (names_started words bytes) (begun_all first last (files_of words bytes) start.read);
  input = refl;
  put = put;
}

started_of : (words : Serving) (bytes : StartBytes) (first last : FilesView) (input : InputView) (before after : OutputView) (roads : RoadsView) (list : Board) (Ended : RoadsView → Board → Type 0)
    → IsStartRead first last words bytes → IsOpening bytes roads list → Ended roads list → Started words (outside first input before) (outside last input after) Ended
started_of words bytes first last input before after roads list Ended start opening ended =
    record { bytes = bytes; files = start; input = refl; roads = roads; first = list; opening = opening; ended = ended }

serve_started : (code : Status) (words : Serving) (bytes : StartBytes) (first last : FilesView) (input : InputView) (before after : OutputView) (doors now : DoorsView) (roads : RoadsView) (list : Board)
    → IsStartRead first last words bytes → IsOpening bytes roads list → EndsStarted code (asked_in words) roads list before after doors now
    → EndsServe code words (outside first input before) (outside last input after) doors now
serve_started status.Ok words bytes first last input before after doors now roads list start opening ended =
    record { bytes = bytes; files = start; input = refl; roads = roads; first = list; opening = opening; ended = ended }
serve_started status.Outside words bytes first last input before after doors now roads list start opening ended =
    inr (started_of words bytes first last input before after roads list (EndsFaulty (asked_in words) before after doors now) start opening ended)
serve_started status.Words words bytes first last input before after doors now roads list start opening ended = absurd ended
serve_started status.Refused words bytes first last input before after doors now roads list start opening ended = absurd ended
serve_started status.Memory words bytes first last input before after doors now roads list start opening (inl none) =
    inl (exhausted_of words bytes first last input before after start none.1, none.0)
serve_started status.Memory words bytes first last input before after doors now roads list start opening (inr short) =
    inr (record { bytes = bytes; files = start; input = refl; roads = roads; first = list; opening = opening; ended = short })

-- the files were read
pub serve_read : (code : Status) (words : Serving) (bytes : StartBytes) (first last : FilesView) (input : InputView) (before after : OutputView) (doors now : DoorsView)
    → IsStartRead first last words bytes → EndsOver code (asked_in words) bytes before after doors now
    → EndsServe code words (outside first input before) (outside last input after) doors now
serve_read code words bytes first last input before after doors now start (begun roads list opening ended) =
    serve_started code words bytes first last input before after doors now roads list start opening ended
serve_read code words bytes first last input before after doors now start (refused line is_refused is same put) =
    subst (λ (c : Status). EndsServe c words (outside first input before) (outside last input after) doors now) (sym is)
    (record { bytes = bytes; line = line; no_speeds = start.no_speeds; no_turns = start.no_turns; refuses = record { read = start.read; input = refl; put = put }; refused = is_refused }, same)
serve_read code words bytes first last input before after doors now start (exhausted is same put) =
    subst (λ (c : Status). EndsServe c words (outside first input before) (outside last input after) doors now) (sym is)
    (inl (exhausted_of words bytes first last input before after start put, same))

-- a file was not read
pub serve_unbegun : (code : Status) (words : Serving) (before after : Outside) (doors : DoorsView) → EndsUnbegun code before after (names_in words) → EndsServe code words before after doors doors
serve_unbegun status.Ok words before after doors h = absurd h
serve_unbegun status.Outside words before after doors h = inl (h, refl)
serve_unbegun status.Words words before after doors h = absurd h
serve_unbegun status.Refused words before after doors h = absurd h
serve_unbegun status.Memory words before after doors h = inl (h, refl)

faulty_causes : (words : Serving) (files now_files : FilesView) (before after : OutputView) (doors now : DoorsView) (roads : RoadsView) (list : Board)
    → EndsFaulty (asked_in words) before after doors now roads list → FilesRose files now_files ⊎ (OutputRose before after ⊎ Rose doors.faults now.faults)
faulty_causes words files now_files before after doors now roads list (inl unopened) = inr (inr unopened.rose)
faulty_causes words files now_files before after doors now roads list (inr (inl unready)) = inr (inl unready.rose)
faulty_causes words files now_files before after doors now roads list (inr (inr faulty)) = elim faulty.cause [ inl failed ↦ inr (inl (subst (λ (n : ℕ). Rose n after.faults) faulty.is_ready.steady failed.0)) | inr whole ↦ inr (inr whole.0) ]

serve_causes : (words : Serving) (before after : Outside) (doors now : DoorsView) → EndsServe status.Outside words before after doors now
    → FilesRose before.files after.files ⊎ (OutputRose before.output after.output ⊎ Rose doors.faults now.faults)
serve_causes words before after doors now (inl unread) = inl unread.0.failed.rose
serve_causes words before after doors now (inr started) = faulty_causes words before.files after.files before.output after.output doors now started.roads started.first started.ended

-- a run ends for the outside only where a count of faults rose
pub serve_outside : (code : Status) (words : Serving) (before after : Outside) (doors now : DoorsView) → EndsServe code words before after doors now → code ≡ status.Outside
    → FilesRose before.files after.files ⊎ (OutputRose before.output after.output ⊎ Rose doors.faults now.faults)
serve_outside code words before after doors now ends is = serve_causes words before after doors now (subst (λ (c : Status). EndsServe c words before after doors now) is ends)

-- an input of which nothing is told
abbrev pub no_input : InputView
no_input = record { left = None; taken = 0; faults = 0 }
