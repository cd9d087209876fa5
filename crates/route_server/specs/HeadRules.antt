-- What the head of a request tells on each kind of connection, whatever is said in reply.
use Rattle.std.specs.Prelude.{◌≡◌, ℕ, ◌+◌, ◌<◌, List, [], ◌∷◌, Bool, true, length, refl}
use Rattle.std.proofs.Common.{ap}
use Rattle.httparse.specs.Grammar.{RequestHead}
use Rattle.http_head.specs.Heads.{HasFront}
use Rattle.http_session.specs.Exchanges.{Exchange, Follow, IsWhole}
use Rattle.control_port.specs.Asking.{asked_of, body_length}
use Rattle.route_server.specs.ControlRule.{ControlRule, ControlSays, closes_by}
use Rattle.route_server.specs.QueryRule.{QueryRule, closes_at, is_served}
use Rattle.route_server.specs.Seats.{QuerySays}

-- whether a head is served, how many bytes of a body stand behind one that is, and whether the reply to it closes the
-- connection, where it is that of request number n from 0
pub record HeadRule : Type 0 where
  pub serves : RequestHead → Bool
  pub body : RequestHead → ℕ
  pub closes : ℕ → RequestHead → Bool

-- on a query connection
abbrev pub query_heads : HeadRule
query_heads = record { serves = is_served; body = λ h. 0; closes = closes_at }

-- on a control connection
abbrev pub control_heads : HeadRule
control_heads = record {
  serves = λ h. true;
  body = λ h. body_length (asked_of h);
  closes = λ n h. closes_by (asked_of h) (closes_at n h);
}

-- no whole request that is served stands at the front: behind each head that does, there is less than its body
abbrev pub HasNoneServed : HeadRule → List ℕ → Type 0
HasNoneServed heads bytes = (h : RequestHead) (rest : List ℕ) → HasFront bytes h rest → heads.serves h ≡ true → length rest < heads.body h

module _ {S : Type 0} where
  -- a whole request, number n of a connection, and whether the reply to it closes, as its head tells
  pub record IsRequest (heads : HeadRule) (n : ℕ) (x : Exchange S) : Type 0 where
    pub whole : IsWhole x.head
    pub served : heads.serves x.head ≡ true
    pub size : length x.body ≡ heads.body x.head
    pub close : x.close ≡ heads.closes n x.head

  -- each of them, the first as number n
  abbrev pub AreRequests : HeadRule → ℕ → List (Exchange S) → Type 0
  AreRequests heads n [] = Unit {0}
  AreRequests heads n (x ∷ more) = IsRequest heads n x × AreRequests heads (n + 1) more

  -- each exchange by the port's rule is so
  abbrev pub GoesBy : (ℕ → S → Exchange S → Type 0) → HeadRule → Type 0
  GoesBy Rule heads = (n : ℕ) (before : S) (x : Exchange S) → Rule n before x → IsRequest heads n x

  pub are_requests : (Rule : ℕ → S → Exchange S → Type 0) (heads : HeadRule) → GoesBy Rule heads → (n : ℕ) (first last : S) (xs : List (Exchange S)) → Follow Rule n first xs last → AreRequests heads n xs
  are_requests Rule heads goes n first last [] follow = tt
  are_requests Rule heads goes n first last (x ∷ xs) follow = (goes n first x follow.0, are_requests Rule heads goes (n + 1) x.after last xs follow.1)

module _ {V : Type 0} where
  -- query connections go by their heads, whatever is said
  pub query_goes : (Says : QuerySays V) → GoesBy (QueryRule Says) query_heads
  query_goes Says = λ n before x rule. record { whole = rule.whole; served = rule.served; size = ap length rule.bare; close = rule.close }

  -- so do control connections, whatever comes of their requests
  pub control_goes : (Controls : ControlSays V) → GoesBy (ControlRule Controls) control_heads
  control_goes Controls = λ n before x rule. record { whole = rule.whole; served = refl; size = rule.size; close = rule.close }
