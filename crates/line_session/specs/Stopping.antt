-- How the answering of lines ends, and what stands in the output then.
use Rattle.std.specs.Prelude.{◌≡◌, ℕ, ◌^◌, ◌<◌, ◌≤◌, ◌⊎◌, List, [], ◌∷◌, ◌++◌, length, Some}
use Rattle.std.specs.Io.KnownBytes.{IsAtEnd}
use Rattle.std.specs.Str.Lines.{lines}
use Rattle.road_io.specs.Faults.{InputRose}
use Rattle.road_io.specs.Outside.{Outside}
use Rattle.road_io.specs.Taking.{Took, TookSoFar}
use Rattle.road_io.specs.Views.{InputView}
use Rattle.line_session.specs.Growing.{Grows, GrowsFront, GrowsUnread, Sides, sides_of}
use Rattle.line_session.specs.Publication.{Publication}
use Rattle.line_session.specs.Told.{Telling, Told, whole_lines}
use Rattle.line_session.specs.Traffic.{IsUpTo, traffic_names}
use Rattle.line_session.specs.declared.asking.Stop.{Stop}
use Rattle.line_session.specs.declared.asking.Stop.TheVariants as stop

-- the input was taken to its end, and these are its lines
pub record TookToEnd (before after : InputView) (all : List (List ℕ)) : Type 0 where
  pub input : List ℕ
  pub took : Took before after input
  pub at_end : IsAtEnd after.left
  pub short : length input < 2 ^ 63
  pub are : all ≡ lines input

-- some of the input was taken, and these are the whole lines in it
pub record TookSome (before after : InputView) (all : List (List ℕ)) : Type 0 where
  pub taken : List ℕ
  pub took : TookSoFar before after taken
  pub are : all ≡ whole_lines taken

-- the same of 2^63 bytes or more
pub record TookLong (before after : InputView) (all : List (List ℕ)) : Type 0 where
  pub taken : List ℕ
  pub took : Took before after taken
  pub long : 2 ^ 63 ≤ length taken
  pub are : all ≡ whole_lines taken

-- the lines were answered, from the first publication to the last
pub record Answered (first last : Publication) (all : List (List ℕ)) (before after : Sides) : Type 0 where
  pub told : Telling
  pub is_told : Told before.files.content first all told last
  pub grows : Grows told before after

-- the first of the lines were answered, and the output failed: a proper front of what is told of these was put
pub record CutOff (first last : Publication) (all : List (List ℕ)) (before after : Sides) : Type 0 where
  pub answered : List (List ℕ)
  pub rest : List (List ℕ)
  pub are : all ≡ answered ++ rest
  pub told : Telling
  pub is_told : Told before.files.content first answered told last
  pub grows : GrowsFront told before after

-- the lines before a traffic line were answered, and the file of this name, one of its files, could not be read
pub record Unread (name : List ℕ) (first last : Publication) (all : List (List ℕ)) (before after : Sides) : Type 0 where
  pub answered : List (List ℕ)
  pub line : List ℕ
  pub rest : List (List ℕ)
  pub are : all ≡ answered ++ line ∷ rest
  pub told : Telling
  pub is_told : Told before.files.content first answered told last
  pub names : List ℕ × List ℕ
  pub are_names : traffic_names line ≡ Some names
  pub reads : List (List ℕ)
  pub up_to : IsUpTo names name reads
  pub grows : GrowsUnread told reads name before after

-- the end of the input: all lines were answered
pub record ToldAll (first last : Publication) (before after : Outside) : Type 0 where
  pub all : List (List ℕ)
  pub took : TookToEnd before.input after.input all
  pub answered : Answered first last all (sides_of before) (sides_of after)
  pub steady : after.input.faults ≡ before.input.faults

-- the input failed: the whole lines taken were answered
pub record InputFailed (first last : Publication) (before after : Outside) : Type 0 where
  pub all : List (List ℕ)
  pub took : TookSome before.input after.input all
  pub answered : Answered first last all (sides_of before) (sides_of after)
  pub rose : InputRose before.input after.input

-- 2^63 bytes or more were taken, with no fault: the whole lines taken were answered
pub record TookTooMuch (first last : Publication) (before after : Outside) : Type 0 where
  pub all : List (List ℕ)
  pub took : TookLong before.input after.input all
  pub answered : Answered first last all (sides_of before) (sides_of after)
  pub steady : after.input.faults ≡ before.input.faults

-- of the whole lines taken, or at the end of the input of all lines, not all were answered, and so it ended; the
-- input did not fail
pub record Broke (how : List (List ℕ) → Sides → Sides → Type 0) (before after : Outside) : Type 0 where
  pub all : List (List ℕ)
  pub took : TookSome before.input after.input all ⊎ TookToEnd before.input after.input all
  pub halted : how all (sides_of before) (sides_of after)
  pub steady : after.input.faults ≡ before.input.faults

abbrev pub OutputFailed : Publication → Publication → Outside → Outside → Type 0
OutputFailed first last before after = Broke (CutOff first last) before after

abbrev pub FileFailed : List ℕ → Publication → Publication → Outside → Outside → Type 0
FileFailed name first last before after = Broke (Unread name first last) before after

-- what each stop leaves; where there was no memory, nothing was taken, read or put
abbrev pub Stopped : Stop → Publication → Publication → Outside → Outside → Type 0
Stopped stop.Input first last before after = InputFailed first last before after
Stopped stop.Output first last before after = OutputFailed first last before after
Stopped (stop.File name) first last before after = FileFailed name first last before after
Stopped stop.TooLong first last before after = TookTooMuch first last before after
Stopped stop.Memory first last before after = (last ≡ first) × (after ≡ before)
