-- What holds of a list of events beside their outcomes, in the words of a board: this project's rule.
use Rattle.std.specs.Prelude.{◌≡◌, ℕ, ◌+◌, ◌≤◌, List, [], ◌∷◌, ◌++◌, length, max, slice_index, All, nat_eq, if◌then◌else◌}
use Rattle.std.specs.List.{zip}
use Rattle.board_core.specs.declared.event.Event.{Event}
use Rattle.board_core.specs.declared.event.Event.TheVariants.{Publish, Enter, Learn}
use Rattle.board_core.specs.declared.event.Outcome.{Outcome}
use Rattle.board_core.specs.declared.event.Outcome.TheVariants.{Published, Spent, Entered, Learned}
use Rattle.board_core.specs.State.{Entry, entry, State, IsKept}
use Rattle.board_core.specs.History.{list_at, last_of, outcome, outcomes}

-- the entries that were published
abbrev pub published : List (Event × Outcome) → List Entry
published [] = []
published ((Publish tag, Published number) ∷ rest) = entry number tag ∷ published rest
published (_ ∷ rest) = published rest

-- what this seat heard of: the numbers that it was entered with, and the notes that it learned
abbrev pub heard : ℕ → List (Event × Outcome) → List ℕ
heard seat [] = []
heard seat ((Enter who, Entered number tag) ∷ rest) =
    if nat_eq who seat then number ∷ heard seat rest else heard seat rest
heard seat ((Learn who note, Learned) ∷ rest) =
    if nat_eq who seat then note ∷ heard seat rest else heard seat rest
heard seat (_ ∷ rest) = heard seat rest

-- the greatest of these numbers
abbrev pub greatest : ℕ → List ℕ → ℕ
greatest most [] = most
greatest most (number ∷ numbers) = greatest (max most number) numbers

-- The outcomes of a list of events, wherever the list is cut:
-- `latest`: a seat is entered with the last entry that was published before
-- `never_back`: its number is at least all that this seat was entered with or has learned before
-- `rises`: an entry's number is one above that of the last entry before it
-- `spent`: a publication is refused only where no number is left
-- `entries`: the opening entry and the published ones are the list
pub record IsHistory (s : State) (all : List (Event × Outcome)) (list : List Entry) : Type 0 where
  pub latest : (before after : List (Event × Outcome)) (seat number tag : ℕ)
      → all ≡ before ++ (Enter seat, Entered number tag) ∷ after
      → entry number tag ≡ last_of s.last (published before)
  pub never_back : (before after : List (Event × Outcome)) (seat number tag : ℕ)
      → all ≡ before ++ (Enter seat, Entered number tag) ∷ after
      → (slice_index s.known seat ≤ number) × All (λ heard_of. heard_of ≤ number) (heard seat before)
  pub rises : (before after : List (Event × Outcome)) (number tag : ℕ)
      → all ≡ before ++ (Publish tag, Published number) ∷ after
      → number ≡ (last_of s.last (published before)).number + 1
  pub spent : (before after : List (Event × Outcome)) (tag : ℕ)
      → all ≡ before ++ (Publish tag, Spent) ∷ after
      → (last_of s.last (published before)).number ≡ 4294967295
  pub entries : s.last ∷ published all ≡ list

-- the state after the events: the last entry of the list, and each seat knows what it heard of
pub record IsAfter (old : State) (events : List Event) (new : State) : Type 0 where
  pub last : new.last ≡ last_of old.last (list_at old.last events)
  pub seats : length new.known ≡ length old.known
  pub known : (seat : ℕ) → slice_index new.known seat
      ≡ greatest (slice_index old.known seat) (heard seat (zip events (outcomes old events)))

-- one event that the board takes
pub record Takes (old : State) (event : Event) (answer : Outcome) (new : State) : Type 0 where
  pub kept : IsKept old
  pub outcome : answer ≡ outcome old (list_at old.last []) event
  pub after : IsAfter old (event ∷ []) new
