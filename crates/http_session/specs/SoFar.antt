-- What the loop of a port goes by, and no clause of a public call: how a connection goes on, request by request,
-- and that it is a session where it ends. Each law is over any rule of one exchange, so each port may cite it.
use Rattle.std.specs.Prelude.{◌≡◌, ℕ, ◌+◌, ◌⊎◌, true, false, List, [], ◌∷◌, ◌++◌, length, refl}
use Rattle.std.proofs.Common.{inl, inr, sym, ap, ◌∙◌, subst, append_assoc, append-nil, add-zero, zero-add, add_assoc, one-add}
use Rattle.std.proofs.lemmas.List.{length_push}
use Rattle.std.specs.Io.KnownBytes.{Appends, Consumes, IsAtEnd}
use Rattle.httparse.specs.Grammar.{print_request}
use Rattle.road_io.specs.Exchanging.{KeepsSink, KeepsSource, PutAll, PutPart, Told}
use Rattle.road_io.specs.Faults.{InputRose, Rose}
use Rattle.road_io.specs.Told.{appends_none, appends_then, consumes_none, consumes_then}
use Rattle.road_io.specs.Views.{ConnState, InputView, OutputView}
use Rattle.http_session.specs.Coming.{Grows, IsSteady}
use Rattle.http_session.specs.Ending.{CutIn, Ends, IsSession, Refuses, SinkRose, head_bad}
use Rattle.http_session.specs.Exchanges.{AreOpen, Exchange, Follow, replies_of, requests_of}
use Rattle.http_session.specs.declared.ended.Ended.{Ended}
use Rattle.http_session.specs.declared.ended.Ended.TheVariants as ended

-- what was taken, and behind it what `next_head` took
taken_more : (first mid now : ConnState) (requests unread held : List ℕ) → Consumes first.source.left mid.source.left (requests ++ unread) → Grows mid now unread held → Consumes first.source.left now.source.left (requests ++ held)
taken_more first mid now requests unread held taken grows =
    subst (λ (xs : List ℕ). Consumes first.source.left now.source.left xs)
    (append_assoc requests unread grows.got ∙ ap (λ (xs : List ℕ). requests ++ xs) (sym grows.longer))
    (consumes_then first.source.left mid.source.left now.source.left (requests ++ unread) grows.got taken grows.given)

-- a put keeps what was taken
taken_kept : (first mid now : ConnState) (bytes : List ℕ) → Consumes first.source.left mid.source.left bytes → KeepsSource mid now → Consumes first.source.left now.source.left bytes
taken_kept first mid now bytes taken kept = subst (λ (v : InputView). Consumes first.source.left v.left bytes) (sym kept.source) taken

-- what `next_head` took keeps what was put
put_kept : (first mid now : ConnState) (text : List ℕ) → Appends first.sink.written mid.sink.written text → KeepsSink mid now → Appends first.sink.written now.sink.written text
put_kept first mid now text put kept = subst (λ (v : OutputView). Appends first.sink.written v.written text) (sym kept.sink) put

source_steady : (first mid now : ConnState) → IsSteady first mid → KeepsSource mid now → IsSteady first now
source_steady first mid now steady kept = ap (λ (v : InputView). v.faults) kept.source ∙ steady

sink_steady : (first mid now : ConnState) → mid.sink.faults ≡ first.sink.faults → KeepsSink mid now → now.sink.faults ≡ first.sink.faults
sink_steady first mid now steady kept = ap (λ (v : OutputView). v.faults) kept.sink ∙ steady

-- so much was told before a text of which a proper front was put
sink_rose : (first mid now : ConnState) (told text : List ℕ) → Told first mid told → PutPart mid now text → SinkRose first now
sink_rose first mid now told text so_far part = record {
  source = source_steady first mid now so_far.source part.source;
  rose = subst (λ (n : ℕ). Rose n now.sink.faults) so_far.sink part.rose;
}

cut_in : (first mid now : ConnState) (told text : List ℕ) → Told first mid told → PutPart mid now text → CutIn first now told text
cut_in first mid now told text so_far part = record {
  part = part.put.0;
  front = part.put.1;
  put = appends_then first.sink.written mid.sink.written now.sink.written told part.put.0 so_far.put part.put.2;
}

-- so much was told, and then a whole text
told_then : (first mid now : ConnState) (told text : List ℕ) → Told first mid told → PutAll mid now text → Told first now (told ++ text)
told_then first mid now told text so_far all = record {
  put = appends_then first.sink.written mid.sink.written now.sink.written told text so_far.put all.put;
  source = source_steady first mid now so_far.source all.source;
  sink = all.steady ∙ so_far.sink;
}

module _ {S : Type 0} where
  -- one exchange more at the end
  requests_more : (xs : List (Exchange S)) (x : Exchange S) → requests_of (xs ++ x ∷ []) ≡ requests_of xs ++ (print_request x.head ++ x.body)
  requests_more [] x = append-nil (print_request x.head ++ x.body)
  requests_more (y ∷ xs) x =
      ap (λ (bytes : List ℕ). (print_request y.head ++ y.body) ++ bytes) (requests_more xs x)
      ∙ sym (append_assoc (print_request y.head ++ y.body) (requests_of xs) (print_request x.head ++ x.body))

  replies_more : (xs : List (Exchange S)) (x : Exchange S) → replies_of (xs ++ x ∷ []) ≡ replies_of xs ++ x.reply
  replies_more [] x = append-nil x.reply
  replies_more (y ∷ xs) x =
      ap (λ (bytes : List ℕ). y.reply ++ bytes) (replies_more xs x) ∙ sym (append_assoc y.reply (replies_of xs) x.reply)

  open_more : (xs : List (Exchange S)) (x : Exchange S) → AreOpen xs → x.close ≡ false → AreOpen (xs ++ x ∷ [])
  open_more [] x stay open_x = (open_x, tt)
  open_more (y ∷ xs) x stay open_x = (stay.0, open_more xs x stay.1 open_x)

  -- the bytes of one request more
  taken_request : (first now : ConnState) (xs : List (Exchange S)) (x : Exchange S) (unread rest : List ℕ) → Consumes first.source.left now.source.left (requests_of xs ++ unread) → unread ≡ (print_request x.head ++ x.body) ++ rest → Consumes first.source.left now.source.left (requests_of (xs ++ x ∷ []) ++ rest)
  taken_request first now xs x unread rest taken split =
      subst (λ (bytes : List ℕ). Consumes first.source.left now.source.left bytes)
      (ap (λ (bytes : List ℕ). requests_of xs ++ bytes) split
      ∙ sym (append_assoc (requests_of xs) (print_request x.head ++ x.body) rest)
      ∙ ap (λ (bytes : List ℕ). bytes ++ rest) (sym (requests_more xs x)))
      taken

  told_reply : (first mid now : ConnState) (xs : List (Exchange S)) (x : Exchange S) → Told first mid (replies_of xs) → PutAll mid now x.reply → Told first now (replies_of (xs ++ x ∷ []))
  told_reply first mid now xs x told puts =
      subst (λ (text : List ℕ). Told first now text) (sym (replies_more xs x)) (told_then first mid now (replies_of xs) x.reply told puts)

module _ {S : Type 0} (Rule : ℕ → S → Exchange S → Type 0) where
  -- the number of an exchange behind these and one more
  number_more : (n : ℕ) (y : Exchange S) (xs : List (Exchange S)) → n + length (y ∷ xs) ≡ (n + 1) + length xs
  number_more n y xs = ap (λ (k : ℕ). n + k) (sym (one-add (length xs))) ∙ sym (add_assoc n 1 (length xs))

  follow_more : (n : ℕ) (first mid : S) (xs : List (Exchange S)) (x : Exchange S) → Follow Rule n first xs mid → Rule (n + length xs) mid x → Follow Rule n first (xs ++ x ∷ []) x.after
  follow_more n first mid [] x same rule =
      (subst (λ (s : S). Rule n s x) same (subst (λ (k : ℕ). Rule k mid x) (add-zero n) rule), refl)
  follow_more n first mid (y ∷ xs) x follow rule =
      (follow.0, follow_more (n + 1) y.after mid xs x follow.1 (subst (λ (k : ℕ). Rule k mid x) (number_more n y xs) rule))

  -- so many requests were answered, none of them closed the connection, and these bytes are not yet read
  pub record SoFar (first now : S) (before after : ConnState) (unread : List ℕ) (count : ℕ) : Type 0 where
    pub exchanges : List (Exchange S)
    pub count_is : length exchanges ≡ count
    pub taken : Consumes before.source.left after.source.left (requests_of exchanges ++ unread)
    pub follow : Follow Rule 0 first exchanges now
    pub stay : AreOpen exchanges
    pub told : Told before after (replies_of exchanges)
    pub opening : after.opening ≡ before.opening

  -- before the first
  pub so_far_start : (first : S) (state : ConnState) (unread : List ℕ) → unread ≡ [] → SoFar first first state state unread 0
  so_far_start first state unread none = record {
    exchanges = [];
    count_is = refl;
    taken = subst (λ (xs : List ℕ). Consumes state.source.left state.source.left xs) (sym none) (consumes_none state.source.left);
    follow = refl;
    stay = tt;
    told = record { put = appends_none state.sink.written; source = refl; sink = refl };
    opening = refl;
  }

  -- after `next_head`, where the input didn't fail
  pub so_far_grows : (first mid : S) (before middle after : ConnState) (unread held : List ℕ) (count : ℕ) → SoFar first mid before middle unread count → Grows middle after unread held → IsSteady middle after → SoFar first mid before after held count
  so_far_grows first mid before middle after unread held count so_far grows steady = record {
    exchanges = so_far.exchanges;
    count_is = so_far.count_is;
    taken = taken_more before middle after (requests_of so_far.exchanges) unread held so_far.taken grows;
    follow = so_far.follow;
    stay = so_far.stay;
    told = record {
      put = put_kept before middle after (replies_of so_far.exchanges) so_far.told.put grows.sink;
      source = steady ∙ so_far.told.source;
      sink = sink_steady before middle after so_far.told.sink grows.sink;
    };
    opening = grows.sink.opening ∙ so_far.opening;
  }

  -- the next one's number is how many there were
  follow_next : (first mid : S) (xs : List (Exchange S)) (count : ℕ) (x : Exchange S) → length xs ≡ count → Follow Rule 0 first xs mid → Rule count mid x → Follow Rule 0 first (xs ++ x ∷ []) x.after
  follow_next first mid xs count x count_is follow rule =
      follow_more 0 first mid xs x follow (subst (λ (n : ℕ). Rule n mid x) (sym (zero-add (length xs) ∙ count_is)) rule)

  -- after one more was answered, which doesn't close
  pub so_far_reply : (first mid : S) (before middle after : ConnState) (unread rest : List ℕ) (count : ℕ) (x : Exchange S) → SoFar first mid before middle unread count → unread ≡ (print_request x.head ++ x.body) ++ rest → Rule count mid x → x.close ≡ false → PutAll middle after x.reply → SoFar first x.after before after rest (count + 1)
  so_far_reply first mid before middle after unread rest count x so_far split rule open_x puts = record {
    exchanges = so_far.exchanges ++ x ∷ [];
    count_is = length_push so_far.exchanges x ∙ ap (λ (n : ℕ). n + 1) so_far.count_is;
    taken = taken_kept before middle after (requests_of (so_far.exchanges ++ x ∷ []) ++ rest) (taken_request before middle so_far.exchanges x unread rest so_far.taken split) puts.source;
    follow = follow_next first mid so_far.exchanges count x so_far.count_is so_far.follow rule;
    stay = open_more so_far.exchanges x so_far.stay open_x;
    told = told_reply before middle after so_far.exchanges x so_far.told puts;
    opening = puts.source.opening ∙ so_far.opening;
  }

module _ {S : Type 0} (Rule : ℕ → S → Exchange S → Type 0) (Bad Part : List ℕ → Type 0) where
  -- where all that was taken is whole requests and these bytes
  session_of : (first last : S) (before after : ConnState) (unread : List ℕ) (count : ℕ) (how : Ended) → (so_far : SoFar Rule first last before after unread count) → Ends Bad Part how before after so_far.exchanges unread → IsSession Rule Bad Part first last before after how
  session_of first last before after unread count how so_far ends = record {
    exchanges = so_far.exchanges;
    unread = unread;
    taken = so_far.taken;
    follow = so_far.follow;
    ends = ends;
    opening = so_far.opening;
  }

  -- the input ended, and nothing is unread
  pub session_end : (first last : S) (before after : ConnState) (unread : List ℕ) (count : ℕ) → SoFar Rule first last before after unread count → unread ≡ [] → IsAtEnd after.source.left → IsSession Rule Bad Part first last before after ended.EndOfInput
  session_end first last before after unread count so_far none at_end =
      session_of first last before after unread count ended.EndOfInput so_far (so_far.stay, none, at_end, so_far.told)

  -- the input ended in a part of a request
  pub session_short : (first last : S) (before after : ConnState) (unread : List ℕ) (count : ℕ) → SoFar Rule first last before after unread count → Part unread → IsAtEnd after.source.left → IsSession Rule Bad Part first last before after ended.CutShort
  session_short first last before after unread count so_far part at_end =
      session_of first last before after unread count ended.CutShort so_far (so_far.stay, part, at_end, so_far.told)

  -- the input failed
  pub session_fault : (first last : S) (before middle after : ConnState) (unread held : List ℕ) (count : ℕ) → SoFar Rule first last before middle unread count → Grows middle after unread held → (held ≡ []) ⊎ Part held → InputRose middle.source after.source → IsSession Rule Bad Part first last before after ended.SourceFault
  session_fault first last before middle after unread held count so_far grows begun rose = record {
    exchanges = so_far.exchanges;
    unread = held;
    taken = taken_more before middle after (requests_of so_far.exchanges) unread held so_far.taken grows;
    follow = so_far.follow;
    ends = (
      so_far.stay,
      begun,
      record {
        rose = subst (λ (n : ℕ). Rose n after.source.faults) so_far.told.source rose;
        sink = sink_steady before middle after so_far.told.sink grows.sink;
      },
      put_kept before middle after (replies_of so_far.exchanges) so_far.told.put grows.sink,
    );
    opening = grows.sink.opening ∙ so_far.opening;
  }

  -- `head_bad` was put, or a proper front of it
  pub session_refused : (first last : S) (before middle after : ConnState) (unread : List ℕ) (count : ℕ) (how : Ended) → SoFar Rule first last before middle unread count → Bad unread → Refuses middle after how → IsSession Rule Bad Part first last before after how
  session_refused first last before middle after unread count ended.HeadBad so_far bad puts = record {
    exchanges = so_far.exchanges;
    unread = unread;
    taken = taken_kept before middle after (requests_of so_far.exchanges ++ unread) so_far.taken puts.source;
    follow = so_far.follow;
    ends = (so_far.stay, bad, told_then before middle after (replies_of so_far.exchanges) head_bad so_far.told puts);
    opening = puts.source.opening ∙ so_far.opening;
  }
  session_refused first last before middle after unread count ended.SinkFault so_far bad puts = record {
    exchanges = so_far.exchanges;
    unread = unread;
    taken = taken_kept before middle after (requests_of so_far.exchanges ++ unread) so_far.taken puts.source;
    follow = so_far.follow;
    ends = (
      sink_rose before middle after (replies_of so_far.exchanges) head_bad so_far.told puts,
      inr (so_far.stay, bad, cut_in before middle after (replies_of so_far.exchanges) head_bad so_far.told puts),
    );
    opening = puts.source.opening ∙ so_far.opening;
  }
  session_refused first last before middle after unread count ended.EndOfInput so_far bad puts = absurd puts
  session_refused first last before middle after unread count ended.CutShort so_far bad puts = absurd puts
  session_refused first last before middle after unread count ended.Closed so_far bad puts = absurd puts
  session_refused first last before middle after unread count ended.SourceFault so_far bad puts = absurd puts

  -- one more was answered, which closes the connection
  pub session_closed : (first mid : S) (before middle after : ConnState) (unread rest : List ℕ) (count : ℕ) (x : Exchange S) → SoFar Rule first mid before middle unread count → unread ≡ (print_request x.head ++ x.body) ++ rest → Rule count mid x → x.close ≡ true → PutAll middle after x.reply → IsSession Rule Bad Part first x.after before after ended.Closed
  session_closed first mid before middle after unread rest count x so_far split rule close_x puts = record {
    exchanges = so_far.exchanges ++ x ∷ [];
    unread = rest;
    taken = taken_kept before middle after (requests_of (so_far.exchanges ++ x ∷ []) ++ rest) (taken_request before middle so_far.exchanges x unread rest so_far.taken split) puts.source;
    follow = follow_next Rule first mid so_far.exchanges count x so_far.count_is so_far.follow rule;
    ends = ((record { front = so_far.exchanges; last = x; are = refl; stay = so_far.stay }, close_x), told_reply before middle after so_far.exchanges x so_far.told puts);
    opening = puts.source.opening ∙ so_far.opening;
  }

  -- of one more reply a proper front was put
  pub session_cut : (first mid : S) (before middle after : ConnState) (unread rest : List ℕ) (count : ℕ) (x : Exchange S) → SoFar Rule first mid before middle unread count → unread ≡ (print_request x.head ++ x.body) ++ rest → Rule count mid x → PutPart middle after x.reply → IsSession Rule Bad Part first x.after before after ended.SinkFault
  session_cut first mid before middle after unread rest count x so_far split rule puts = record {
    exchanges = so_far.exchanges ++ x ∷ [];
    unread = rest;
    taken = taken_kept before middle after (requests_of (so_far.exchanges ++ x ∷ []) ++ rest) (taken_request before middle so_far.exchanges x unread rest so_far.taken split) puts.source;
    follow = follow_next Rule first mid so_far.exchanges count x so_far.count_is so_far.follow rule;
    ends = (
      sink_rose before middle after (replies_of so_far.exchanges) x.reply so_far.told puts,
      inl (record {
        cut = record { front = so_far.exchanges; last = x; are = refl; stay = so_far.stay };
        put = cut_in before middle after (replies_of so_far.exchanges) x.reply so_far.told puts;
      }),
    );
    opening = puts.source.opening ∙ so_far.opening;
  }
