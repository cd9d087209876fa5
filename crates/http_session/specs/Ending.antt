-- How a connection ends, and what stands in its output then: whole sessions (this project's rule).
use Rattle.std.specs.Prelude.{◌≡◌, ℕ, ◌⊎◌, List, [], ◌++◌, true, codes}
use Rattle.std.specs.Io.KnownBytes.{Appends, Consumes, IsAtEnd}
use Rattle.http_head.specs.Replies.{reply_text}
use Rattle.road_io.specs.Exchanging.{PutAll, PutPart, Told}
use Rattle.road_io.specs.Faults.{InputRose, OutputRose}
use Rattle.road_io.specs.Told.{IsProperFront}
use Rattle.road_io.specs.Views.{ConnState}
use Rattle.http_session.specs.Exchanges.{Exchange, AreOpen, HasLast, Follow, requests_of, replies_of}
use Rattle.http_session.specs.declared.ended.Ended.{Ended}
use Rattle.http_session.specs.declared.ended.Ended.TheVariants as ended

-- the reply to bytes that are no request that is served
abbrev pub head_bad : List ℕ
head_bad = reply_text 400 (codes "{\"code\":\"InvalidUrl\",\"message\":\"bad request head\"}") true

-- of the two counts of faults the output's alone rose
pub record SinkRose (before after : ConnState) : Type 0 where
  pub source : after.source.faults ≡ before.source.faults
  pub rose : OutputRose before.sink after.sink

-- of the two counts of faults the input's alone rose
pub record SourceRose (before after : ConnState) : Type 0 where
  pub rose : InputRose before.source after.source
  pub sink : after.sink.faults ≡ before.sink.faults

-- the first text, and then a proper front of the second, were put
pub record CutIn (before after : ConnState) (whole cut : List ℕ) : Type 0 where
  pub part : List ℕ
  pub front : IsProperFront part cut
  pub put : Appends before.sink.written after.sink.written (whole ++ part)

module _ {S : Type 0} where
  -- all replies before the last are whole, and of the last a proper front was put
  pub record CutReply (before after : ConnState) (all : List (Exchange S)) : Type 0 where
    pub cut : HasLast all
    pub put : CutIn before after (replies_of cut.front) cut.last.reply

  -- each way to end, over the exchanges and the bytes that are not read behind them. To which bytes `head_bad` is
  -- due, and which are a part of a request, the port says. Where the input failed it is nothing or such a part, so no
  -- reply is withheld for the fault
  abbrev pub Ends : (Bad Part : List ℕ → Type 0) → Ended → ConnState → ConnState → List (Exchange S) → List ℕ → Type 0
  Ends Bad Part ended.EndOfInput before after all unread =
      AreOpen all × (unread ≡ []) × IsAtEnd after.source.left × Told before after (replies_of all)
  Ends Bad Part ended.CutShort before after all unread =
      AreOpen all × Part unread × IsAtEnd after.source.left × Told before after (replies_of all)
  Ends Bad Part ended.HeadBad before after all unread =
      AreOpen all × Bad unread × Told before after (replies_of all ++ head_bad)
  Ends Bad Part ended.Closed before after all unread =
      ((l : HasLast all) × (l.last.close ≡ true)) × Told before after (replies_of all)
  Ends Bad Part ended.SourceFault before after all unread =
      AreOpen all × ((unread ≡ []) ⊎ Part unread) × SourceRose before after × Appends before.sink.written after.sink.written (replies_of all)
  Ends Bad Part ended.SinkFault before after all unread =
      SinkRose before after × (CutReply before after all ⊎ (AreOpen all × Bad unread × CutIn before after (replies_of all) head_bad))

  -- a whole connection, of which the port knows this at first and that at last: what was taken of the input is
  -- the requests, one behind the other, and then the bytes that are not read
  pub record IsSession (Rule : ℕ → S → Exchange S → Type 0) (Bad Part : List ℕ → Type 0)
      (first last : S) (before after : ConnState) (how : Ended) : Type 0 where
    pub exchanges : List (Exchange S)
    pub unread : List ℕ
    pub taken : Consumes before.source.left after.source.left (requests_of exchanges ++ unread)
    pub follow : Follow Rule 0 first exchanges last
    pub ends : Ends Bad Part how before after exchanges unread
    pub opening : after.opening ≡ before.opening

-- `head_bad` was put, or a proper front of it
abbrev pub Refuses : ConnState → ConnState → Ended → Type 0
Refuses before after ended.HeadBad = PutAll before after head_bad
Refuses before after ended.SinkFault = PutPart before after head_bad
Refuses before after _ = ⊥
