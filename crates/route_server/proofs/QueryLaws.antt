-- A whole head at the front of the bytes that are not yet read, as a request of a query connection.
use Rattle.std.proofs.Common.{◌≡◌, ◌∙◌, ℕ, ◌+◌, ◌<◌, inl, Bool, true, false, ◌||◌, ◌==◌, List, [], ◌++◌, drop, refl, sym, ap, subst, arith, append-nil}
use Rattle.std.proofs.lemmas.Bool.Decides.{nat_tests}
use Rattle.httparse.specs.Grammar.{RequestHead, print_request}
use Rattle.http_head.specs.Heads.{IsHeadOf, span_bytes}
use Rattle.http_head.specs.declared.parts.Head.{Head}
use Rattle.http_session.specs.Exchanges.{Exchange}
use Rattle.route_server.specs.QueryRule.{IsUnserved, QueryRule, is_served}
use Rattle.route_server.specs.Seats.{IsReplied, QuerySays, SeatState}

-- a whole head that is not served
pub unserved : (unread : List ℕ) (head : Head) (size : ℕ) (h : RequestHead) → IsHeadOf unread head size h → is_served h ≡ false → IsUnserved unread
unserved unread head size h is not_served = inl (h, drop size unread, is.front, not_served)

-- the test of the head at other bytes that are the same
pub served_at : (seen unread : List ℕ) (head : Head) (size : ℕ) (result value : Bool) (h : RequestHead) → seen ≡ unread → IsHeadOf unread head size h → ((k : RequestHead) → IsHeadOf seen head size k → result ≡ is_served k) → result ≡ value → is_served h ≡ value
served_at seen unread head size result value h same is ensures tested =
    sym (ensures h (subst (λ (xs : List ℕ). IsHeadOf xs head size h) (sym same) is)) ∙ tested

-- the target, found in other bytes that are the same
pub target_at : (seen unread target : List ℕ) (head : Head) → seen ≡ unread → target ≡ span_bytes seen head.target → target ≡ span_bytes unread head.target
target_at seen unread target head same is = is ∙ ap (λ (xs : List ℕ). span_bytes xs head.target) same

-- the bytes behind the request
pub split_of : (unread rest : List ℕ) (head : Head) (size : ℕ) (h : RequestHead) → IsHeadOf unread head size h → rest ≡ drop size unread → unread ≡ (print_request h ++ []) ++ rest
split_of unread rest head size h is rest_is =
    is.front.0.1 ∙ ap (λ (xs : List ℕ). xs ++ drop size unread) (sym (append-nil (print_request h)))
    ∙ ap (λ (xs : List ℕ). (print_request h ++ []) ++ xs) (sym rest_is)

-- the reply to a head that does not close was not the last
pub not_last : (close_field close : Bool) (n : ℕ) → close ≡ (close_field || n == 99) → close ≡ false → n < 100 → n + 1 < 100
not_last true close n is open_is below = absurd (cc)
not_last false close n is open_is below =
    let other : (n == 99) ≡ false = sym is ∙ open_is in
    grind (arith, nat_tests)

module _ {V : Type 0} where
  abbrev pub exchange_of : RequestHead → Bool → List ℕ → SeatState V → Exchange (SeatState V)
  exchange_of h close reply after = record { head = h; body = []; close = close; reply = reply; after = after }

  pub rule_of : (Says : QuerySays V) (n : ℕ) (before after : SeatState V) (unread : List ℕ) (head : Head) (size : ℕ) (h : RequestHead) (target : List ℕ) (close : Bool) (reply : List ℕ) → IsHeadOf unread head size h → is_served h ≡ true → close ≡ (head.close || n == 99) → target ≡ span_bytes unread head.target → IsReplied Says before after target close reply → QueryRule Says n before (exchange_of h close reply after)
  rule_of Says n before after unread head size h target close reply is served close_is target_is replies = record {
    whole = record { valid = is.front.0.0; fields = is.front.1; size = is.front.2 };
    served = served;
    bare = refl;
    close = close_is ∙ ap (λ (b : Bool). b || n == 99) is.close;
    reply = subst (λ (t : List ℕ). IsReplied Says before after t close reply) (target_is ∙ is.target) replies;
  }
