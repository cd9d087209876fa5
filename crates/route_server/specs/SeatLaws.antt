-- What a seat knows along the exchanges of a query connection: each list that it reads begins with the one
-- before, and the numbers of the replies never fall.
use Rattle.std.specs.Prelude.{◌≡◌, ℕ, ◌+◌, ◌≤◌, Bool, List, [], ◌∷◌, ◌++◌, All, map, Option, Some, MatchOption, ⊤}
use Rattle.std.proofs.Common.{◌∙◌, inl, inr, sym, ap, subst, append_assoc, append-nil}
use Rattle.std.proofs.lemmas.List.Elements.{All-cons, All-nil}
use Rattle.std.proofs.lemmas.Option.{same_Some}
use mathlib.Core.List.{IsPrefix}
use Rattle.http_session.specs.Coming.{IsPartOfHead}
use Rattle.http_session.specs.Ending.{IsSession}
use Rattle.http_session.specs.Exchanges.{Exchange, Follow}
use Rattle.http_session.specs.declared.ended.Ended.{Ended}
use Rattle.metric_publish.specs.History.{last_number, last_of}
use Rattle.metric_publish.specs.declared.entry.Entry.{Entry}
use Rattle.road_io.specs.Views.{ConnState}
use Rattle.route_server.specs.QueryRule.{QueryRule, IsUnserved}
use Rattle.route_server.specs.Seats.{IsReplied, QuerySays, SeatState}
use Rattle.route_server.specs.Sessions.{IsQuerySession, NeverFall}

pub prefix_same : {A : Type 0} (xs ys : List A) → ys ≡ xs → IsPrefix xs ys
prefix_same xs ys same = ([], append-nil xs ∙ sym same)

pub prefix_then : {A : Type 0} (xs ys zs : List A) → IsPrefix xs ys → IsPrefix ys zs → IsPrefix xs zs
prefix_then {A} xs ys zs p q = (p.0 ++ q.0, sym (append_assoc xs p.0 q.0) ∙ (ap (λ (w : List A). w ++ q.0) p.1 ∙ q.1))

module _ {V : Type 0} where
  pub last_number_is : (list : List (Entry V)) (e : Entry V) → last_of list ≡ Some e → last_number list ≡ e.number
  last_number_is [] e is = absurd (subst (λ (o : Option (Entry V)). MatchOption o ⊤ (λ _. ⊥)) is tt)
  last_number_is (x ∷ xs) e is = ap (λ (u : Entry V). u.number) (same_Some _ _ is)

module _ {V : Type 0} (Says : QuerySays V) where
  reply_later : (before after : SeatState V) (target : List ℕ) (close : Bool) (reply : List ℕ) → IsReplied Says before after target close reply → IsPrefix before.seen after.seen
  reply_later before after target close reply (inl answered) = answered.later
  reply_later before after target close reply (inr busy) =
      elim busy.reads.read [ inl same ↦ prefix_same before.seen after.seen same.0 | inr one ↦ one.0 ]

  -- each list that was read begins with the one before
  pub seen_later : (n : ℕ) (first last : SeatState V) (xs : List (Exchange (SeatState V))) → Follow (QueryRule Says) n first xs last → IsPrefix first.seen last.seen
  seen_later n first last [] same = prefix_same first.seen last.seen (ap (λ (s : SeatState V). s.seen) same)
  seen_later n first last (x ∷ xs) follow =
      prefix_then first.seen x.after.seen last.seen (reply_later first x.after x.head.target x.close x.reply follow.0.reply) (seen_later (n + 1) x.after last xs follow.1)

  -- so each of them is a front of the last one
  pub all_seen : (n : ℕ) (first last : SeatState V) (xs : List (Exchange (SeatState V))) → Follow (QueryRule Says) n first xs last → All (λ x. IsPrefix x.after.seen last.seen) xs
  all_seen n first last [] same = All-nil (λ x. IsPrefix x.after.seen last.seen)
  all_seen n first last (x ∷ xs) follow =
      All-cons (λ y. IsPrefix y.after.seen last.seen) x xs (seen_later (n + 1) x.after last xs follow.1) (all_seen (n + 1) x.after last xs follow.1)

  reply_rises : (before after : SeatState V) (target : List ℕ) (close : Bool) (reply : List ℕ) → IsReplied Says before after target close reply → last_number before.seen ≤ last_number after.seen
  reply_rises before after target close reply (inl answered) =
      subst (λ (n : ℕ). last_number before.seen ≤ n) (sym (last_number_is after.seen answered.entry answered.last)) answered.no_older
  reply_rises before after target close reply (inr busy) = busy.reads.later

  -- and the numbers of the replies never fall
  pub never_fall : (n : ℕ) (first last : SeatState V) (xs : List (Exchange (SeatState V))) → Follow (QueryRule Says) n first xs last → NeverFall (last_number first.seen) (map (λ x. last_number x.after.seen) xs)
  never_fall n first last [] same = tt
  never_fall n first last (x ∷ xs) follow =
      (reply_rises first x.after x.head.target x.close x.reply follow.0.reply, never_fall (n + 1) x.after last xs follow.1)

  -- a session by the rule of its exchanges is a query session
  pub query_session : (first last : SeatState V) (before after : ConnState) (how : Ended) → IsSession (QueryRule Says) IsUnserved IsPartOfHead first last before after how → IsQuerySession Says first last before after how
  query_session first last before after how session = record {
    session = session;
    later = seen_later 0 first last session.exchanges session.follow;
    lists = all_seen 0 first last session.exchanges session.follow;
    numbers = never_fall 0 first last session.exchanges session.follow;
  }
