-- What comes next on a connection: what stands at the front of the bytes that are not yet read (RFC 9112,
-- section 2, in the grammar of `httparse`; the two limits are this project's rule).
use Rattle.std.specs.Prelude.{◌≡◌, ℕ, ◌<◌, ◌≤◌, ◌⊎◌, List, [], ◌++◌, length}
use Rattle.std.specs.Io.KnownBytes.{Consumes, IsAtEnd}
use Rattle.httparse.specs.Grammar.{RequestHead, EndsInTarget}
use Rattle.httparse.specs.Spans.{RequestExceeds}
use Rattle.http_head.specs.Heads.{IsHeadOf, HasNoFront, IsDead, IsAlive}
use Rattle.road_io.specs.Exchanging.{KeepsSink}
use Rattle.road_io.specs.Faults.{InputRose}
use Rattle.road_io.specs.Views.{ConnState}
use Rattle.http_session.specs.declared.coming.Coming.{Coming}
use Rattle.http_session.specs.declared.coming.Coming.TheVariants as coming

-- no bytes that may follow make a head of these; or there is no whole head in as many bytes as one may have
abbrev pub IsNoHead : List ℕ → Type 0
IsNoHead unread = IsDead unread ⊎ (8192 ≤ length unread) × HasNoFront unread

-- some bytes, and no whole head, of which a head may yet come; or the parser can't tell that none will, since
-- they end inside the target or have more than 64 fields
pub record IsPartOfHead (unread : List ℕ) : Type 0 where
  pub some : 0 < length unread
  pub room : length unread < 8192
  pub no_front : HasNoFront unread
  pub waits : IsAlive unread ⊎ EndsInTarget unread ⊎ RequestExceeds 64 unread

-- bytes were taken, and stand behind those that were not yet read
pub record Grows (before after : ConnState) (unread now : List ℕ) : Type 0 where
  pub got : List ℕ
  pub longer : now ≡ unread ++ got
  pub given : Consumes before.source.left after.source.left got
  pub sink : KeepsSink before after

-- no fault of the input was counted
abbrev pub IsSteady : ConnState → ConnState → Type 0
IsSteady before after = after.source.faults ≡ before.source.faults

-- what each answer says of the bytes that are not yet read, and of the input. Where the input failed there is nothing
-- or a part of a head: to anything else an answer is due, so none is withheld for the fault
abbrev pub Comes : Coming → ConnState → ConnState → List ℕ → Type 0
Comes (coming.Whole head size) before after now = ((h : RequestHead) × IsHeadOf now head size h) × IsSteady before after
Comes coming.NoHead before after now = IsNoHead now × IsSteady before after
Comes coming.End before after now = (now ≡ []) × IsAtEnd after.source.left × IsSteady before after
Comes coming.Short before after now = IsPartOfHead now × IsAtEnd after.source.left × IsSteady before after
Comes coming.Fault before after now = ((now ≡ []) ⊎ IsPartOfHead now) × InputRose before.source after.source
