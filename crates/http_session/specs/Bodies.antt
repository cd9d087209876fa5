-- What is taken of a body, whose size its head announces (RFC 9112, section 6.3).
use Rattle.std.specs.Prelude.{◌≡◌, ℕ, ◌<◌, List, [], ◌++◌, length, Option, None, Some, Vec, ⊤}
use Rattle.std.specs.Global.{Global}
use Rattle.std.specs.Io.KnownBytes.{Consumes, IsAtEnd}
use Rattle.road_io.specs.Exchanging.{KeepsSink}
use Rattle.road_io.specs.Faults.{InputRose}
use Rattle.road_io.specs.Views.{ConnState}
use Rattle.http_session.specs.Coming.{IsSteady}
use Rattle.http_session.specs.declared.bodies.Body.{Body}
use Rattle.http_session.specs.declared.bodies.Body.TheVariants as came

-- these bytes are kept, or none are for want of memory
abbrev pub Holds : Option (Vec ℕ Global) → List ℕ → Type 0
Holds None bytes = ⊤
Holds (Some kept) bytes = kept.items ≡ bytes

-- bytes were taken behind those that were not yet read; the first of all these are read, and the others are not
pub record Reads (before after : ConnState) (unread now part : List ℕ) : Type 0 where
  pub got : List ℕ
  pub split : unread ++ got ≡ part ++ now
  pub given : Consumes before.source.left after.source.left got
  pub sink : KeepsSink before after

-- a body of this size was read
pub record ReadsWhole (before after : ConnState) (unread now : List ℕ) (size : ℕ) (kept : Option (Vec ℕ Global)) : Type 0 where
  pub body : List ℕ
  pub size_is : length body ≡ size
  pub holds : Holds kept body
  pub reads : Reads before after unread now body
  pub steady : IsSteady before after

-- less than a body of this size was read, and nothing stands behind it
pub record ReadsPart (before after : ConnState) (unread : List ℕ) (size : ℕ) : Type 0 where
  pub part : List ℕ
  pub short : length part < size
  pub reads : Reads before after unread [] part

abbrev pub Came : Body → ConnState → ConnState → List ℕ → List ℕ → ℕ → Type 0
Came (came.All kept) before after unread now size = ReadsWhole before after unread now size kept
Came came.Ends before after unread now size = ReadsPart before after unread size × IsAtEnd after.source.left × IsSteady before after
Came came.Fails before after unread now size = ReadsPart before after unread size × InputRose before.source after.source
