-- Where no count of faults rose, the input alone tells which requests are answered and how the connection ends, but for
-- one choice of the parser's: on each kind of connection whose rule goes by its heads.
use Rattle.std.specs.Prelude.{◌≡◌, ℕ, ◌+◌, ◌<◌, ◌⊎◌, List, [], ◌∷◌, ◌++◌, Option, Some, None, true, false, length, ⊤, refl}
use Rattle.std.proofs.Common.{◌∙◌, inl, inr, sym, ap, subst, append_assoc, append-nil, true≢false}
use Rattle.std.specs.Io.KnownBytes.{Consumes, IsAtEnd}
use Rattle.list_lemmas.proofs.Counts.{none_less}
use Rattle.httparse.specs.Grammar.{EndsInTarget, RequestHead}
use Rattle.httparse.specs.Spans.{RequestExceeds}
use Rattle.http_head.specs.Heads.{HasFront, IsAlive, IsDead}
use Rattle.http_session.specs.Coming.{IsNoHead, IsPartOfHead}
use Rattle.http_session.specs.Ending.{Ends, IsSession}
use Rattle.http_session.specs.Exchanges.{AreOpen, Exchange, requests_of}
use Rattle.http_session.specs.FrontLaws.{dead_more, first_none, front_more, front_only, front_within, no_front_of_none, none_not_dead, none_not_long, not_long}
use Rattle.http_session.specs.declared.ended.Ended.{Ended}
use Rattle.http_session.specs.declared.ended.Ended.TheVariants as ended
use Rattle.road_io.specs.Views.{ConnState}
use Rattle.route_server.specs.CutLaws.{AreSameRequests, IsSameRequest, first_same, none_first}
use Rattle.route_server.specs.HeadRules.{AreRequests, GoesBy, HeadRule, are_requests}

-- it ended neither in a fault of the input nor in one of the output
abbrev pub IsFaultless : Ended → Type 0
IsFaultless ended.EndOfInput = ⊤
IsFaultless ended.CutShort = ⊤
IsFaultless ended.Closed = ⊤
IsFaultless ended.HeadBad = ⊤
IsFaultless ended.SourceFault = ⊥
IsFaultless ended.SinkFault = ⊥

-- the parser's choice: the input ends on bytes that no bytes make a head of, and that end inside a target or have
-- more than 64 fields. Where it has not seen that they are dead, the input was cut short; where it has, the head
-- is bad
pub record IsParsersChoice (one other : Ended) : Type 0 where
  pub unread : List ℕ
  pub dead : IsDead unread
  pub late : EndsInTarget unread ⊎ RequestExceeds 64 unread
  pub one_is : one ≡ ended.CutShort
  pub other_is : other ≡ ended.HeadBad

-- two ways to end are the same, or one of them is due to that choice
abbrev pub EndSame : Ended → Ended → Type 0
EndSame one other = (one ≡ other) ⊎ IsParsersChoice one other ⊎ IsParsersChoice other one

-- a whole head that is served, and less than its body
pub record LacksBody (heads : HeadRule) (unread : List ℕ) : Type 0 where
  pub head : RequestHead
  pub part : List ℕ
  pub front : HasFront unread head part
  pub served : heads.serves head ≡ true
  pub short : length part < heads.body head

-- a part of a request: of its head, or its head and less than its body
abbrev pub IsUnfinished : HeadRule → List ℕ → Type 0
IsUnfinished heads unread = IsPartOfHead unread ⊎ LacksBody heads unread

-- a whole head that is not served, or no head
abbrev pub IsRefused : HeadRule → List ℕ → Type 0
IsRefused heads unread = ((h : RequestHead) × (rest : List ℕ) × HasFront unread h rest × (heads.serves h ≡ false)) ⊎ IsNoHead unread

-- what is left of an input of which the requests and the bytes behind them were taken
left_of : (input : List ℕ) (old new : Option (List ℕ)) (requests unread : List ℕ) → old ≡ Some input → Consumes old new (requests ++ unread) → (left : List ℕ) × (new ≡ Some left) × (input ≡ requests ++ (unread ++ left))
left_of input old new requests unread given taken = go new (subst (λ (o : Option (List ℕ)). Consumes o new (requests ++ unread)) given taken)
  where
    go : (now : Option (List ℕ)) → Consumes (Some input) now (requests ++ unread) → (left : List ℕ) × (now ≡ Some left) × (input ≡ requests ++ (unread ++ left))
    go None took = absurd took
    go (Some left) took = (left, refl, took ∙ append_assoc requests unread left)

module _ (heads : HeadRule) where
  -- how a connection may end whose requests leave it open, over all bytes of the input behind them
  abbrev StopsAt : Ended → List ℕ → Type 0
  StopsAt ended.EndOfInput rest = rest ≡ []
  StopsAt ended.CutShort rest = IsUnfinished heads rest
  StopsAt ended.HeadBad rest = (bad : List ℕ) × (more : List ℕ) × (rest ≡ bad ++ more) × IsRefused heads bad
  StopsAt _ rest = ⊥

  -- behind what is refused no head that is served stands whole
  refused_none : (bad more : List ℕ) (h : RequestHead) (after : List ℕ) → IsRefused heads bad → HasFront (bad ++ more) h after → heads.serves h ≡ true → ⊥
  refused_none bad more h after (inl other) whole served =
      let same = front_only (bad ++ more) h other.0 after (other.1 ++ more) whole (front_more bad more other.0 other.1 other.2) in
      true≢false (sym served ∙ ap heads.serves same.0 ∙ other.3)
  refused_none bad more h after (inr (inl dead)) whole served = dead more h after whole.0
  refused_none bad more h after (inr (inr long)) whole served = long.1 h _ (front_within bad more h after long.0 whole)

  -- behind a part of a request there is less than a body
  unfinished_short : (rest : List ℕ) (h : RequestHead) (after : List ℕ) → IsUnfinished heads rest → HasFront rest h after → length after < heads.body h
  unfinished_short rest h after (inl part) front = absurd (part.no_front h after front)
  unfinished_short rest h after (inr lacks) front =
      let same = front_only rest lacks.head h lacks.part after lacks.front front in
      subst (λ (k : RequestHead). length after < heads.body k) same.0
      (subst (λ (xs : List ℕ). length xs < heads.body lacks.head) same.1 lacks.short)

  -- no whole request that is served stands behind such requests
  none_served : (how : Ended) (rest : List ℕ) → StopsAt how rest → (h : RequestHead) (after : List ℕ) → HasFront rest h after → heads.serves h ≡ true → length after < heads.body h
  none_served ended.EndOfInput rest none h after front served =
      absurd (no_front_of_none h after (subst (λ (xs : List ℕ). HasFront xs h after) none front))
  none_served ended.CutShort rest part h after front served = unfinished_short rest h after part front
  none_served ended.HeadBad rest stops h after front served =
      absurd (refused_none stops.0 stops.1 h after stops.3 (subst (λ (xs : List ℕ). HasFront xs h after) stops.2 front) served)
  none_served ended.Closed rest stops h after front served = absurd stops
  none_served ended.SourceFault rest stops h after front served = absurd stops
  none_served ended.SinkFault rest stops h after front served = absurd stops

  -- nothing is neither a part of a request nor refused
  none_unfinished : (rest : List ℕ) → rest ≡ [] → IsUnfinished heads rest → ⊥
  none_unfinished rest none (inl part) = none_less (subst (λ (xs : List ℕ). 0 < length xs) none part.some)
  none_unfinished rest none (inr lacks) =
      no_front_of_none lacks.head lacks.part (subst (λ (xs : List ℕ). HasFront xs lacks.head lacks.part) none lacks.front)

  none_refused : (rest bad more : List ℕ) → rest ≡ [] → rest ≡ bad ++ more → IsRefused heads bad → ⊥
  none_refused rest bad more none split refused = go (subst (IsRefused heads) (first_none bad more (sym split ∙ none)) refused)
    where
      go : IsRefused heads [] → ⊥
      go (inl other) = no_front_of_none other.0 other.1 other.2
      go (inr (inl dead)) = none_not_dead dead
      go (inr (inr long)) = none_not_long long.0

  -- a part of a head that begins with refused bytes is dead, and the parser had not seen it
  part_dead : (rest bad more : List ℕ) → rest ≡ bad ++ more → IsPartOfHead rest → IsRefused heads bad → IsDead rest × (EndsInTarget rest ⊎ RequestExceeds 64 rest)
  part_dead rest bad more split part (inl other) =
      absurd (part.no_front other.0 (other.1 ++ more) (subst (λ (xs : List ℕ). HasFront xs other.0 (other.1 ++ more)) (sym split) (front_more bad more other.0 other.1 other.2)))
  part_dead rest bad more split part (inr (inr long)) = absurd (not_long rest bad more split part.room long.0)
  part_dead rest bad more split part (inr (inl dead)) = (dead_rest, go part.waits)
    where
      dead_rest : IsDead rest
      dead_rest = subst IsDead (sym split) (dead_more bad more dead)

      go : IsAlive rest ⊎ EndsInTarget rest ⊎ RequestExceeds 64 rest → EndsInTarget rest ⊎ RequestExceeds 64 rest
      go (inl alive) = absurd (dead_rest alive.0 alive.1 alive.2 alive.3)
      go (inr late) = late

  -- where one part of a request is refused and another isn't, it is that choice
  choice : (rest bad more : List ℕ) → rest ≡ bad ++ more → IsUnfinished heads rest → IsRefused heads bad → IsParsersChoice ended.CutShort ended.HeadBad
  choice rest bad more split (inl part) refused =
      let dead = part_dead rest bad more split part refused in
      record { unread = rest; dead = dead.0; late = dead.1; one_is = refl; other_is = refl }
  choice rest bad more split (inr lacks) refused =
      absurd (refused_none bad more lacks.head lacks.part refused (subst (λ (xs : List ℕ). HasFront xs lacks.head lacks.part) split lacks.front) lacks.served)

  -- behind the same requests, over the same bytes, a connection ends the same
  from_end : (other : Ended) (rest : List ℕ) → rest ≡ [] → StopsAt other rest → EndSame ended.EndOfInput other
  from_end ended.EndOfInput rest none stops = inl refl
  from_end ended.CutShort rest none stops = absurd (none_unfinished rest none stops)
  from_end ended.HeadBad rest none stops = absurd (none_refused rest stops.0 stops.1 none stops.2 stops.3)
  from_end ended.Closed rest none stops = absurd stops
  from_end ended.SourceFault rest none stops = absurd stops
  from_end ended.SinkFault rest none stops = absurd stops

  from_short : (other : Ended) (rest : List ℕ) → IsUnfinished heads rest → StopsAt other rest → EndSame ended.CutShort other
  from_short ended.EndOfInput rest part stops = absurd (none_unfinished rest stops part)
  from_short ended.CutShort rest part stops = inl refl
  from_short ended.HeadBad rest part stops = inr (inl (choice rest stops.0 stops.1 stops.2 part stops.3))
  from_short ended.Closed rest part stops = absurd stops
  from_short ended.SourceFault rest part stops = absurd stops
  from_short ended.SinkFault rest part stops = absurd stops

  from_bad : (other : Ended) (rest bad more : List ℕ) → rest ≡ bad ++ more → IsRefused heads bad → StopsAt other rest → EndSame ended.HeadBad other
  from_bad ended.EndOfInput rest bad more split refused stops = absurd (none_refused rest bad more stops split refused)
  from_bad ended.CutShort rest bad more split refused stops = inr (inr (choice rest bad more split stops refused))
  from_bad ended.HeadBad rest bad more split refused stops = inl refl
  from_bad ended.Closed rest bad more split refused stops = absurd stops
  from_bad ended.SourceFault rest bad more split refused stops = absurd stops
  from_bad ended.SinkFault rest bad more split refused stops = absurd stops

  stops_same : (one other : Ended) (rest : List ℕ) → StopsAt one rest → StopsAt other rest → EndSame one other
  stops_same ended.EndOfInput other rest stops ends = from_end other rest stops ends
  stops_same ended.CutShort other rest stops ends = from_short other rest stops ends
  stops_same ended.HeadBad other rest stops ends = from_bad other rest stops.0 stops.1 stops.2 stops.3 ends
  stops_same ended.Closed other rest stops ends = absurd stops
  stops_same ended.SourceFault other rest stops ends = absurd stops
  stops_same ended.SinkFault other rest stops ends = absurd stops

module _ {S : Type 0} where
  -- the last of them closes, and none before it
  abbrev LastCloses : List (Exchange S) → Type 0
  LastCloses [] = ⊥
  LastCloses (x ∷ more) = ((x.close ≡ true) × (more ≡ [])) ⊎ ((x.close ≡ false) × LastCloses more)

  -- how a connection without a fault ends, over its requests and all bytes of the input behind them
  abbrev Stops : HeadRule → Ended → List (Exchange S) → List ℕ → Type 0
  Stops heads how all rest = (AreOpen all × StopsAt heads how rest) ⊎ ((how ≡ ended.Closed) × LastCloses all)

  last_closes : (front : List (Exchange S)) (x : Exchange S) → AreOpen front → x.close ≡ true → LastCloses (front ++ x ∷ [])
  last_closes [] x stay close = inl (close, refl)
  last_closes (y ∷ front) x stay close = inr (stay.0, last_closes front x stay.1 close)

module _ {S : Type 0} (heads : HeadRule) where
  -- the first of them closes, and is the only one; or it leaves the connection open
  first_closes : (how : Ended) (x : Exchange S) (more : List (Exchange S)) (rest : List ℕ) → Stops heads how (x ∷ more) rest → ((x.close ≡ true) × (more ≡ []) × (how ≡ ended.Closed)) ⊎ ((x.close ≡ false) × Stops heads how more rest)
  first_closes how x more rest (inl (stay, stops)) = inr (stay.0, inl (stay.1, stops))
  first_closes how x more rest (inr (closed, inl last)) = inl (last.0, last.1, closed)
  first_closes how x more rest (inr (closed, inr later)) = inr (later.0, inr (closed, later.1))

  module _ (Bad Part : List ℕ → Type 0) (refused : (xs : List ℕ) → Bad xs → IsRefused heads xs) (unfinished : (xs : List ℕ) → Part xs → IsUnfinished heads xs) where
    stops_of : (how : Ended) (before after : ConnState) (all : List (Exchange S)) (unread left : List ℕ) → IsFaultless how → after.source.left ≡ Some left → Ends Bad Part how before after all unread → Stops heads how all (unread ++ left)
    stops_of ended.EndOfInput before after all unread left faultless told ends =
        let nothing : left ≡ [] = subst IsAtEnd told ends.2 in
        inl (ends.0, ap (λ (xs : List ℕ). xs ++ left) ends.1 ∙ nothing)
    stops_of ended.CutShort before after all unread left faultless told ends =
        let nothing : left ≡ [] = subst IsAtEnd told ends.2 in
        inl (ends.0, subst (IsUnfinished heads) (sym (ap (λ (xs : List ℕ). unread ++ xs) nothing ∙ append-nil unread)) (unfinished unread ends.1))
    stops_of ended.HeadBad before after all unread left faultless told ends = inl (ends.0, (unread, left, refl, refused unread ends.1))
    stops_of ended.Closed before after all unread left faultless told ends =
        let last = ends.0.0 in
        inr (refl, subst LastCloses (sym last.are) (last_closes last.front last.last last.stay ends.0.1))
    stops_of ended.SourceFault before after all unread left faultless told ends = absurd faultless
    stops_of ended.SinkFault before after all unread left faultless told ends = absurd faultless

module _ {S T : Type 0} (heads : HeadRule) where
  -- where there are none of either, they are the same
  none_same : (xs : List (Exchange S)) (ys : List (Exchange T)) → xs ≡ [] → ys ≡ [] → AreSameRequests xs ys
  none_same xs ys none none_other =
      subst (λ (zs : List (Exchange S)). AreSameRequests zs ys) (sym none)
      (subst (λ (zs : List (Exchange T)). AreSameRequests {S = S} {T = T} [] zs) (sym none_other) tt)

  both_stop : (n : ℕ) (xs : List (Exchange S)) (ys : List (Exchange T)) (rest behind bytes : List ℕ) (how end : Ended) → AreRequests heads n xs → AreRequests heads n ys → bytes ≡ requests_of xs ++ rest → bytes ≡ requests_of ys ++ behind → Stops heads how xs rest → Stops heads end ys behind → EndSame how end × AreSameRequests xs ys
  both_stop n [] [] rest behind bytes how end one two cut other_cut (inl stops) (inl ends) =
      (stops_same heads how end rest stops.1 (subst (StopsAt heads end) (sym other_cut ∙ cut) ends.1), tt)
  both_stop n [] [] rest behind bytes how end one two cut other_cut (inr closed) ends = absurd closed.1
  both_stop n [] [] rest behind bytes how end one two cut other_cut (inl stops) (inr closed) = absurd closed.1
  both_stop n [] (y ∷ ys) rest behind bytes how end one two cut other_cut (inr closed) ends = absurd closed.1
  both_stop n [] (y ∷ ys) rest behind bytes how end one two cut other_cut (inl stops) ends =
      absurd (none_first heads n y ys behind rest two.0 (sym cut ∙ other_cut) (none_served heads how rest stops.1))
  both_stop n (x ∷ xs) [] rest behind bytes how end one two cut other_cut stops (inr closed) = absurd closed.1
  both_stop n (x ∷ xs) [] rest behind bytes how end one two cut other_cut stops (inl ends) =
      absurd (none_first heads n x xs rest behind one.0 (sym other_cut ∙ cut) (none_served heads end behind ends.1))
  both_stop n (x ∷ xs) (y ∷ ys) rest behind bytes how end one two cut other_cut stops ends =
      go (both_stop (n + 1) xs ys rest behind (requests_of xs ++ rest) how end one.1 two.1 refl same.1) (first_closes heads how x xs rest stops) (first_closes heads end y ys behind ends)
    where
      same : IsSameRequest x y × (requests_of xs ++ rest ≡ requests_of ys ++ behind)
      same = first_same heads n n x y xs ys rest behind bytes one.0 two.0 cut other_cut

      close : x.close ≡ y.close
      close = one.0.close ∙ ap (heads.closes n) same.0.head ∙ sym two.0.close

      go : (Stops heads how xs rest → Stops heads end ys behind → EndSame how end × AreSameRequests xs ys)
          → ((x.close ≡ true) × (xs ≡ []) × (how ≡ ended.Closed)) ⊎ ((x.close ≡ false) × Stops heads how xs rest) → ((y.close ≡ true) × (ys ≡ []) × (end ≡ ended.Closed)) ⊎ ((y.close ≡ false) × Stops heads end ys behind) → EndSame how end × AreSameRequests (x ∷ xs) (y ∷ ys)
      go later (inl closed) (inl closes) = (inl (closed.2 ∙ sym closes.2), (same.0, none_same xs ys closed.1 closes.1))
      go later (inl closed) (inr open_y) = absurd (true≢false (sym closed.0 ∙ close ∙ open_y.0))
      go later (inr open_x) (inl closes) = absurd (true≢false (sym closes.0 ∙ sym close ∙ open_x.0))
      go later (inr open_x) (inr open_y) = let same_then = later open_x.1 open_y.1 in (same_then.0, (same.0, same_then.1))

-- Two connections of one kind with the same input, told, that both end without a fault: the same requests are
-- answered, and they end the same but for the parser's choice; whatever their ports know and answer, and however their
-- inputs are cut into pieces.
module _ {S T : Type 0} (heads : HeadRule) (Rule : ℕ → S → Exchange S → Type 0) (Other : ℕ → T → Exchange T → Type 0) (Bad Part : List ℕ → Type 0) (goes : GoesBy Rule heads) (other_goes : GoesBy Other heads) (refused : (xs : List ℕ) → Bad xs → IsRefused heads xs) (unfinished : (xs : List ℕ) → Part xs → IsUnfinished heads xs) where
  pub ends_agree : (input : List ℕ) (first last : S) (before after : ConnState) (how : Ended) (other final : T) (start finish : ConnState) (end : Ended)
      → (one : IsSession Rule Bad Part first last before after how) (two : IsSession Other Bad Part other final start finish end) → before.source.left ≡ Some input → start.source.left ≡ Some input → IsFaultless how → IsFaultless end → EndSame how end × AreSameRequests one.exchanges two.exchanges
  ends_agree input first last before after how other final start finish end one two given given_other faultless faultless_other =
      both_stop heads 0 one.exchanges two.exchanges (one.unread ++ mine.0) (two.unread ++ others.0) input how end
      (are_requests Rule heads goes 0 first last one.exchanges one.follow)
      (are_requests Other heads other_goes 0 other final two.exchanges two.follow)
      mine.2 others.2
      (stops_of heads Bad Part refused unfinished how before after one.exchanges one.unread mine.0 faultless mine.1 one.ends)
      (stops_of heads Bad Part refused unfinished end start finish two.exchanges two.unread others.0 faultless_other others.1 two.ends)
    where
      mine : (left : List ℕ) × (after.source.left ≡ Some left) × (input ≡ requests_of one.exchanges ++ (one.unread ++ left))
      mine = left_of input before.source.left after.source.left (requests_of one.exchanges) one.unread given one.taken

      others : (left : List ℕ) × (finish.source.left ≡ Some left) × (input ≡ requests_of two.exchanges ++ (two.unread ++ left))
      others = left_of input start.source.left finish.source.left (requests_of two.exchanges) two.unread given_other two.taken
