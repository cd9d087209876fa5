-- The rule of one exchange of a query connection (RFC 9112, section 9.3; which requests are served, and that the
-- hundredth reply closes, is this project's rule).
use Rattle.std.specs.Prelude.{◌≡◌, ℕ, ◌⊎◌, List, [], Bool, true, false, ◌||◌, ◌&&◌, not, ◌==◌, bytes_eq, codes}
use Rattle.std.specs.List.{list_any}
use Rattle.httparse.specs.Grammar.{RequestHead}
use Rattle.http_head.specs.Fields.{fields_of, closes, announces_body}
use Rattle.http_head.specs.Heads.{HasFront}
use Rattle.http_session.specs.Coming.{IsNoHead}
use Rattle.http_session.specs.Exchanges.{Exchange, IsWhole}
use Rattle.route_server.specs.Seats.{IsReplied, QuerySays, SeatState}

-- a head that is served: its method is GET, and it announces no body
abbrev pub is_served : RequestHead → Bool
is_served h = bytes_eq h.method (codes "GET") && not (list_any announces_body (fields_of h))

-- the reply to it closes the connection, where it is request number n from 0
abbrev pub closes_at : ℕ → RequestHead → Bool
closes_at n h = closes h.minor (fields_of h) || n == 99

-- a request that is served has one reply, under an entry that is no older than those before
pub record QueryRule {V : Type 0} (Says : QuerySays V) (n : ℕ) (before : SeatState V) (x : Exchange (SeatState V)) : Type 0 where
  pub whole : IsWhole x.head
  pub served : is_served x.head ≡ true
  pub bare : x.body ≡ []
  pub close : x.close ≡ closes_at n x.head
  pub reply : IsReplied Says before x.after x.head.target x.close x.reply

-- bytes to which `head_bad` is due: a whole head that is not served, or no head
abbrev pub IsUnserved : List ℕ → Type 0
IsUnserved unread = ((h : RequestHead) × (rest : List ℕ) × HasFront unread h rest × (is_served h ≡ false)) ⊎ IsNoHead unread
