-- What a list of events comes to, as a function of the whole list: this project's rule.
use Rattle.std.specs.Prelude.{ℕ, ◌+◌, ◌-◌, List, [], ◌∷◌, ◌++◌, length, take, nat_lt, if◌then◌else◌}
use Rattle.board_core.specs.declared.event.Event.{Event}
use Rattle.board_core.specs.declared.event.Event.TheVariants.{Publish, Enter, Learn, Tell}
use Rattle.board_core.specs.declared.event.Outcome.{Outcome}
use Rattle.board_core.specs.declared.event.Outcome.TheVariants.{Published, Spent, Entered, Learned, NotTold, Told, NoSeat}
use Rattle.board_core.specs.State.{Entry, entry, State}

-- the tags of the Publish events, in order
abbrev pub tags_of : List Event → List ℕ
tags_of [] = []
tags_of (Publish tag ∷ events) = tag ∷ tags_of events
tags_of (Enter _ ∷ events) = tags_of events
tags_of (Learn _ _ ∷ events) = tags_of events
tags_of (Tell ∷ events) = tags_of events

-- tags with numbers that rise by one
abbrev pub numbered : ℕ → List ℕ → List Entry
numbered number [] = []
numbered number (tag ∷ tags) = entry number tag ∷ numbered (number + 1) tags

-- the list of publications after these events: the opening tag and the tags of the Publish events,
-- numbered from the opening number and cut where the numbers end, after 4294967295
abbrev pub list_at : Entry → List Event → List Entry
list_at opening events = take (4294967296 - opening.number) (numbered opening.number (opening.tag ∷ tags_of events))

-- the last entry of a list that begins with the opening one
abbrev pub last_of : Entry → List Entry → Entry
last_of last [] = last
last_of last (next ∷ entries) = last_of next entries

-- what an event comes to where this is the list before it: a seat out of range comes first
abbrev pub outcome : State → List Entry → Event → Outcome
outcome s list (Publish tag) =
    if nat_lt (length list) (4294967296 - s.last.number)
    then Published (s.last.number + length list)
    else Spent
outcome s list (Enter seat) =
    if nat_lt seat (length s.known)
    then Entered (last_of s.last list).number (last_of s.last list).tag
    else NoSeat
outcome s list (Learn seat note) =
    if nat_lt seat (length s.known)
    then (if nat_lt (last_of s.last list).number note then NotTold else Learned)
    else NoSeat
outcome s list Tell = Told (last_of s.last list).number

-- the outcome of each event, by the list of the events before it
abbrev pub outcomes_from : State → List Event → List Event → List Outcome
outcomes_from s before [] = []
outcomes_from s before (event ∷ events) =
    outcome s (list_at s.last before) event ∷ outcomes_from s (before ++ event ∷ []) events

-- the outcomes of events on a board whose last entry is the opening one
abbrev pub outcomes : State → List Event → List Outcome
outcomes s events = outcomes_from s [] events
