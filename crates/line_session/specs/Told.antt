-- What is told of the lines of an input (this project's rule): one reply a line, each with a newline, under the last
-- publication before it. A traffic line publishes a metric under the next number, or is refused.
use Rattle.std.specs.Prelude.{◌≡◌, ℕ, List, [], ◌∷◌, ◌++◌, ◌⊎◌, ◌==◌, Option, Some, None}
use Rattle.std.specs.List.{slice_split}
use Rattle.std.specs.Str.Lines.{strip_carriage_return}
use Rattle.refusal_texts.specs.Refusals.{busy_text}
use Rattle.road_io.specs.FileContent.{FileTold}
use Rattle.control_port.specs.Telling.{body_of}
use Rattle.control_port.specs.declared.controlled.Controlled.{Controlled}
use Rattle.line_session.specs.Publication.{Comes, Publication, IsReplyLine, newline}
use Rattle.line_session.specs.Traffic.{StandsFor, files_of, traffic_names}

-- what is told of files, by their names
abbrev pub Contents : Type 0
Contents = List ℕ → FileTold

-- what some lines add: the bytes that are put, and the names of the files that are read, in order
pub record Telling : Type 0 where
  pub text : List ℕ
  pub reads : List (List ℕ)

abbrev pub nothing : Telling
nothing = record { text = []; reads = [] }

-- one after the other
abbrev pub also : Telling → Telling → Telling
also one two = record { text = one.text ++ two.text; reads = one.reads ++ two.reads }

-- the reply to a line that is no traffic line; the publication stays
pub record SaysAnswer (last : Publication) (line : List ℕ) (added : Telling) (next : Publication) : Type 0 where
  pub reply : IsReplyLine last line added.text
  pub reads : added.reads ≡ []
  pub stays : next ≡ last

-- the reply to a traffic line of these names: both files are read, and then it is what comes of their bytes
pub record SaysTraffic (content : Contents) (last : Publication) (names : List ℕ × List ℕ) (added : Telling) (next : Publication) : Type 0 where
  pub speeds : List ℕ
  pub turns : List ℕ
  pub are_speeds : StandsFor content names.0 speeds
  pub are_turns : StandsFor content names.1 turns
  pub answer : Controlled
  pub comes : Comes last speeds turns answer next
  pub text : added.text ≡ body_of answer ++ newline
  pub reads : added.reads ≡ files_of names

-- there was no memory for the reply to a line of these files, of which all, some or none were read; the publication
-- stays
pub record IsBusy (last : Publication) (files : List (List ℕ)) (added : Telling) (next : Publication) : Type 0 where
  pub text : added.text ≡ busy_text ++ newline
  pub unread : List (List ℕ)
  pub reads : files ≡ added.reads ++ unread
  pub stays : next ≡ last

-- the reply to a line that is not empty, by the names of its files where it is a traffic line, and the publication
-- after it
abbrev pub AnswersTo : Contents → Publication → List ℕ → Option (List ℕ × List ℕ) → Telling → Publication → Type 0
AnswersTo content last line None added next = SaysAnswer last line added next ⊎ IsBusy last [] added next
AnswersTo content last line (Some names) added next = SaysTraffic content last names added next ⊎ IsBusy last (files_of names) added next

abbrev pub Answers : Contents → Publication → List ℕ → Telling → Publication → Type 0
Answers content last line added next = AnswersTo content last line (traffic_names line) added next

-- what a line adds: nothing where it is empty
abbrev pub Adds : Contents → Publication → List ℕ → Telling → Publication → Type 0
Adds content last [] added next = (added ≡ nothing) × (next ≡ last)
Adds content last (b ∷ line) added next = Answers content last (b ∷ line) added next

-- what the lines add, in order, from the first publication on, and the publication after them
abbrev pub Told : Contents → Publication → List (List ℕ) → Telling → Publication → Type 0
Told content first [] told last = (told ≡ nothing) × (last ≡ first)
Told content first (line ∷ more) told last =
    (one : Telling) × (next : Publication) × (rest : Telling) × Adds content first line one next × (told ≡ also one rest) × Told content next more rest last

-- of the parts between newlines all but the last, each without the carriage return at its end
abbrev pub ended_parts : List (List ℕ) → List (List ℕ)
ended_parts [] = []
ended_parts (part ∷ []) = []
ended_parts (part ∷ next ∷ parts) = strip_carriage_return part ∷ ended_parts (next ∷ parts)

-- the whole lines among these bytes: those whose newline is there
abbrev pub whole_lines : List ℕ → List (List ℕ)
whole_lines bytes = ended_parts (slice_split (λ b. b == 10) bytes)
