-- What serves this crate's own functions, and no clause of a public call: how one line is answered, and what stands
-- between two bytes of an input.
use Rattle.std.specs.Prelude.{◌≡◌, ℕ, List, [], ◌∷◌, ◌++◌, ◌⊎◌, All, map, take, length, false, ◌==◌, Option, Some, None}
use Rattle.std.specs.List.{AllByRecursion}
use Rattle.std.specs.Str.Lines.{strip_carriage_return}
use Rattle.control_port.specs.Telling.{body_of}
use Rattle.control_port.specs.declared.controlled.Controlled.{Controlled}
use Rattle.road_io.specs.Taking.{TookSoFar}
use Rattle.road_io.specs.Views.{FilesView, InputView}
use Rattle.line_session.specs.Growing.{Grows, GrowsFront, GrowsUnread, ReadsAll, ReadsUpTo, Sides}
use Rattle.line_session.specs.Publication.{Comes, Publication, newline}
use Rattle.line_session.specs.Stopping.{CutOff, Unread}
use Rattle.line_session.specs.Told.{Adds, AnswersTo, Telling, Told, nothing, whole_lines}
use Rattle.line_session.specs.Traffic.{IsUpTo, StandsFor, files_named, files_of, traffic_names}
use Rattle.line_session.specs.declared.asking.Stop.{Stop}
use Rattle.line_session.specs.declared.asking.Stop.TheVariants as stop
use Rattle.line_session.specs.declared.replying.Unanswered.{Unanswered}
use Rattle.line_session.specs.declared.replying.Unanswered.TheVariants as unanswered

-- the text is the reply to these traffic files, with a newline behind it
abbrev pub IsTrafficReply : Publication → List ℕ → List ℕ → List ℕ → Publication → Type 0
IsTrafficReply last speeds turns text next = (answer : Controlled) × Comes last speeds turns answer next × (text ≡ body_of answer ++ newline)

-- of these files the first were read
abbrev pub ReadsSome : FilesView → FilesView → List (List ℕ) → Type 0
ReadsSome before after files = (reads : List (List ℕ)) × (unread : List (List ℕ)) × (files ≡ reads ++ unread) × ReadsAll before after reads

-- why the file of a name was not read
abbrev pub IsLeft : Unanswered → List ℕ → FilesView → FilesView → Type 0
IsLeft (unanswered.File left) name before after = (left ≡ name) × (files_named name ≡ name ∷ []) × ReadsUpTo before after (name ∷ []) name
IsLeft unanswered.Memory name before after = ReadsSome before after (files_named name)

-- the same of the files of a traffic line
abbrev pub AreLeft : Unanswered → List ℕ × List ℕ → FilesView → FilesView → Type 0
AreLeft (unanswered.File left) names before after = (reads : List (List ℕ)) × IsUpTo names left reads × ReadsUpTo before after reads left
AreLeft unanswered.Memory names before after = ReadsSome before after (files_of names)

-- both files of a traffic line were read, and hold these bytes
pub record AreRead (names : List ℕ × List ℕ) (speeds turns : List ℕ) (before after : FilesView) : Type 0 where
  pub are_speeds : StandsFor before.content names.0 speeds
  pub are_turns : StandsFor before.content names.1 turns
  pub read : ReadsAll before after (files_of names)

-- why a line got no reply, by the names of its files where it is a traffic line
abbrev pub IsUnanswered : Unanswered → Option (List ℕ × List ℕ) → FilesView → FilesView → Type 0
IsUnanswered why (Some names) before after = AreLeft why names before after
IsUnanswered (unanswered.File left) None before after = ⊥
IsUnanswered unanswered.Memory None before after = ReadsSome before after []

-- the text is the reply to a line of these names, and its files were read
pub record IsReplyTo (last : Publication) (line : List ℕ) (names : Option (List ℕ × List ℕ)) (text : List ℕ) (before after : FilesView) (next : Publication) : Type 0 where
  pub told : Telling
  pub answers : AnswersTo before.content last line names told next
  pub is_text : text ≡ told.text
  pub read : ReadsAll before after told.reads

-- a line was answered
pub record Puts (last : Publication) (line : List ℕ) (before after : Sides) (next : Publication) : Type 0 where
  pub told : Telling
  pub adds : Adds before.files.content last line told next
  pub grows : Grows told before after

-- the reply to a line was cut off
pub record PutsFront (last : Publication) (line : List ℕ) (before after : Sides) (next : Publication) : Type 0 where
  pub told : Telling
  pub adds : Adds before.files.content last line told next
  pub grows : GrowsFront told before after

-- a file of a line could not be read
pub record PutsNone (name : List ℕ) (last : Publication) (line : List ℕ) (before after : Sides) (next : Publication) : Type 0 where
  pub names : List ℕ × List ℕ
  pub are_names : traffic_names line ≡ Some names
  pub reads : List (List ℕ)
  pub up_to : IsUpTo names name reads
  pub grows : GrowsUnread nothing reads name before after
  pub stays : next ≡ last

-- why a line was not answered whole
abbrev pub StopsAt : Stop → Publication → List ℕ → Sides → Sides → Publication → Type 0
StopsAt stop.Output last line before after next = PutsFront last line before after next
StopsAt (stop.File name) last line before after next = PutsNone name last line before after next
StopsAt _ last line before after next = ⊥

abbrev pub NoNewline : List ℕ → Type 0
NoNewline bytes = All (λ b. (b == 10) ≡ false) bytes

-- a newline behind each of these parts
abbrev pub ended : List (List ℕ) → List ℕ
ended [] = []
ended (part ∷ parts) = part ++ (10 ∷ ended parts)

-- these bytes were taken from the first publication on: the lines that are whole were answered, and of the line that
-- has begun the first 8194 bytes are held
pub record SoFar (first last : Publication) (taken held : List ℕ) (start now : Sides) : Type 0 where
  pub parts : List (List ℕ)
  pub part : List ℕ
  pub are : taken ≡ ended parts ++ part
  pub clean : AllByRecursion NoNewline parts
  pub begun : NoNewline part
  pub held_is : held ≡ take 8194 part
  pub told : Telling
  pub is_told : Told start.files.content first (map strip_carriage_return parts) told last
  pub grows : Grows told start now

-- a byte ended the line that is held, which was answered, or was held or dropped
abbrev pub Steps : Publication → Publication → List ℕ → ℕ → List ℕ → Sides → Sides → Type 0
Steps last next held byte rest before after =
    ((byte ≡ 10) × (rest ≡ []) × Puts last (strip_carriage_return held) before after next)
    ⊎ (((byte == 10) ≡ false) × (rest ≡ take 8194 (held ++ byte ∷ [])) × (next ≡ last) × (after ≡ before))

-- a byte ended the line that is held, which was not answered whole
abbrev pub StopsWith : Stop → Publication → Publication → List ℕ → ℕ → Sides → Sides → Type 0
StopsWith why last next held byte before after = (byte ≡ 10) × StopsAt why last (strip_carriage_return held) before after next

-- whatever was taken before, a piece more was taken
abbrev pub Goes : Publication → Publication → List ℕ → List ℕ → List ℕ → Sides → Sides → Type 0
Goes last next held piece rest before after =
    (first : Publication) (start : Sides) (taken : List ℕ) → SoFar first last taken held start before → SoFar first next (taken ++ piece) rest start after

-- the lines were not all answered
abbrev pub Halts : Stop → Publication → Publication → List (List ℕ) → Sides → Sides → Type 0
Halts stop.Output first last all start now = CutOff first last all start now
Halts (stop.File name) first last all start now = Unread name first last all start now
Halts _ first last all start now = ⊥

-- whatever was taken before, and whatever comes behind the piece
abbrev pub GoesHalted : Stop → Publication → Publication → List ℕ → List ℕ → Sides → Sides → Type 0
GoesHalted why last next held piece before after =
    (first : Publication) (start : Sides) (taken more : List ℕ) → SoFar first last taken held start before → Halts why first next (whole_lines (taken ++ (piece ++ more))) start after

-- so many bytes were taken of the input
pub record TakenSoFar (first last : Publication) (input_before input_after : InputView) (held : List ℕ) (start now : Sides) (count : ℕ) : Type 0 where
  pub taken : List ℕ
  pub length_is : length taken ≡ count
  pub took : TookSoFar input_before input_after taken
  pub so_far : SoFar first last taken held start now
