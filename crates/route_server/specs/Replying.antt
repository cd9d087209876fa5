-- What serves this crate's own functions, and no clause of a public call: one reply, made and put.
use Rattle.std.specs.Prelude.{ℕ, List, Bool, Result, Ok, Err, Vec}
use Rattle.std.specs.Global.{Global}
use Rattle.std.specs.declared.alloc.AllocError.{AllocError}
use Rattle.road_io.specs.Exchanging.{Puts}
use Rattle.road_io.specs.Views.{ConnState}
use Rattle.road_io.specs.declared.failures.Failed.{Failed}
use Rattle.route_server.specs.Seats.{IsAnswered, IsReplied, QuerySays, ReadsAtMostOne, SeatState}

module _ {V : Type 0} where
  -- the reply was made, or there was no memory for it
  abbrev pub Gives : QuerySays V → SeatState V → SeatState V → List ℕ → Bool → Result (Vec ℕ Global) AllocError → Type 0
  Gives Says before after target close (Ok reply) = IsAnswered Says before after target close reply.items
  Gives Says before after target close (Err e) = ReadsAtMostOne before after

  -- the reply was put, or a proper front of it where the output failed
  abbrev pub PutsReply : {T : Type 0} → QuerySays V → SeatState V → SeatState V → List ℕ → Bool → ConnState → ConnState → Result T Failed → Type 0
  PutsReply Says before after target close conn_before conn_after result =
      (reply : List ℕ) × IsReplied Says before after target close reply × Puts conn_before conn_after reply result
