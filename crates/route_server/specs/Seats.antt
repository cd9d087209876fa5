-- What a seat of a board knows, and what a reply leaves of that.
use Rattle.std.specs.Prelude.{◌≡◌, ℕ, ◌≤◌, ◌⊎◌, List, Bool, Option, Some, codes}
use mathlib.Core.List.{IsPrefix}
use Rattle.http_head.specs.Replies.{reply_text}
use Rattle.metric_publish.specs.Calls.{CountsOne, ReadsOne}
use Rattle.metric_publish.specs.History.{last_number, last_of}
use Rattle.metric_publish.specs.declared.entry.Entry.{Entry}

-- what is said of a target under an entry: the status and the body of the reply
abbrev pub QuerySays : Type 0 → Type 1
QuerySays V = Entry V → List ℕ → ℕ → List ℕ → Type 0

-- the list that it read last, the longest that it was told of, and, where told, the numbers that it read
pub record SeatState (V : Type 0) : Type 0 where
  pub seen : List (Entry V)
  pub learned : List (Entry V)
  pub reads : Option (List ℕ)

-- the body of a reply for which there was no memory
abbrev pub busy_body : List ℕ
busy_body = codes "{\"code\":\"Busy\"}"

module _ {V : Type 0} where
  abbrev pub seat_state : List (Entry V) → List (Entry V) → Option (List ℕ) → SeatState V
  seat_state seen learned reads = record { seen = seen; learned = learned; reads = reads }

  -- one read, of a list that begins with all that was seen and learned, and the reply to the target under its
  -- last entry: `Says` tells which status and body are said of a target under an entry
  pub record IsAnswered (Says : QuerySays V) (before after : SeatState V) (target : List ℕ) (close : Bool) (reply : List ℕ) : Type 0 where
    pub entry : Entry V
    pub later : IsPrefix before.seen after.seen
    pub told : IsPrefix before.learned after.seen
    pub last : last_of after.seen ≡ Some entry
    pub no_older : last_number before.seen ≤ entry.number
    pub no_less : last_number before.learned ≤ entry.number
    pub read : CountsOne before.reads after.reads entry.number
    pub learned : after.learned ≡ before.learned
    pub status : ℕ
    pub body : List ℕ
    pub says : Says entry target status body
    pub text : reply ≡ reply_text status body close

  -- at most one read
  pub record ReadsAtMostOne (before after : SeatState V) : Type 0 where
    pub later : last_number before.seen ≤ last_number after.seen
    pub read : ((after.seen ≡ before.seen) × (after.reads ≡ before.reads)) ⊎ ReadsOne before.seen before.learned after.seen before.reads after.reads
    pub learned : after.learned ≡ before.learned

  -- there was no memory for the reply
  pub record IsBusy (before after : SeatState V) (close : Bool) (reply : List ℕ) : Type 0 where
    pub reads : ReadsAtMostOne before after
    pub text : reply ≡ reply_text 503 busy_body close

  abbrev pub IsReplied : QuerySays V → SeatState V → SeatState V → List ℕ → Bool → List ℕ → Type 0
  IsReplied Says before after target close reply = IsAnswered Says before after target close reply ⊎ IsBusy before after close reply
