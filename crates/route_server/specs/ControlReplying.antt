-- What serves this crate's own functions, and no clause of a public call: one control reply, made and put.
use Rattle.std.specs.Prelude.{◌≡◌, ℕ, List, Bool, Option, None, Some, Result, Ok, Err, Vec, ⊤}
use Rattle.std.specs.Global.{Global}
use Rattle.road_io.specs.Exchanging.{PutAll, PutPart}
use Rattle.road_io.specs.Views.{ConnState}
use Rattle.road_io.specs.declared.failures.Failed.{Failed}
use Rattle.metric_publish.specs.declared.entry.Entry.{Entry}
use Rattle.control_port.specs.Asking.{IsBodyOf}
use Rattle.control_port.specs.declared.asking.ControlHead.{ControlHead}
use Rattle.route_server.specs.ControlRule.{ControlSays, IsCarriedOut, IsControlReply}

-- where a body is kept, it is that of the request
abbrev pub KeepsBody : ControlHead → Option (Vec ℕ Global) → Type 0
KeepsBody request None = ⊤
KeepsBody request (Some kept) = IsBodyOf request kept.items

module _ {V : Type 0} where
  -- the reply was made, or there was no memory for it
  abbrev pub MakesReply : ControlSays V → List (Entry V) → List (Entry V) → ControlHead → List ℕ → Bool → Option (Vec ℕ Global) → Type 0
  MakesReply Controls before after request body close None = after ≡ before
  MakesReply Controls before after request body close (Some reply) = IsCarriedOut Controls before after request body close reply.items

  -- the reply was put, or a proper front of it where the output failed
  abbrev pub PutsControl : ControlSays V → List (Entry V) → List (Entry V) → ControlHead → List ℕ → Bool → ConnState → ConnState → Result Bool Failed → Type 0
  PutsControl Controls before after request body close first now (Ok stopped) =
      (reply : List ℕ) × IsControlReply Controls before after request body close stopped reply × PutAll first now reply
  PutsControl Controls before after request body close first now (Err failed) =
      (stopped : Bool) × (reply : List ℕ) × IsControlReply Controls before after request body close stopped reply × PutPart first now reply
