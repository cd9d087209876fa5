-- A list of events taken one at a time: each event leaves an opening entry for the rest.
use Rattle.std.proofs.Common.{◌≡◌, ℕ, ◌+◌, ◌-◌, ◌<◌, ◌≤◌, List, [], ◌∷◌, ◌++◌, length, take, refl, sym, ◌∙◌, subst, arith, ⊎_elim, ltb, add-one, zero, suc}
use Rattle.std.proofs.lemmas.Bool.{cases_lt}
use Rattle.std.proofs.lemmas.Bool.Decides.{nat_tests}
use Rattle.board_core.specs.declared.event.Event.{Event}
use Rattle.board_core.specs.declared.event.Event.TheVariants.{Publish, Enter, Learn, Tell}
use Rattle.board_core.specs.declared.event.Outcome.{Outcome}
use Rattle.board_core.specs.State.{Entry, entry, State}
use Rattle.board_core.specs.History.{tags_of, numbered, list_at, last_of, outcome, outcomes, outcomes_from}
use Rattle.board_core.specs.Transcript.{Takes}

-- the entries after the opening one
abbrev pub rest_at : Entry → List Event → List Entry
rest_at o events = take (4294967295 - o.number) (numbered (o.number + 1) (tags_of events))

-- the opening entry is there
pub list_is : (o : Entry) (events : List Event) → o.number < 4294967296 → list_at o events ≡ o ∷ rest_at o events
list_is o events h =
    let e : 4294967296 - o.number ≡ 4294967295 - o.number + 1 = omega arith in
    let P : ℕ → Type 0 = λ n. take n (numbered o.number (o.tag ∷ tags_of events)) ≡ o ∷ rest_at o events in
    subst P (sym (e ∙ add-one (4294967295 - o.number))) refl

-- a publication that has a number is the opening entry of the rest
pub rest_more : (o : Entry) (tag : ℕ) (events : List Event) → o.number < 4294967295
    → rest_at o (Publish tag ∷ events) ≡ entry (o.number + 1) tag ∷ rest_at (entry (o.number + 1) tag) events
rest_more o tag events h =
    let e : 4294967295 - o.number ≡ 4294967295 - (o.number + 1) + 1 = omega arith in
    let P : ℕ → Type 0 = λ n. take n (entry (o.number + 1) tag ∷ numbered (o.number + 1 + 1) (tags_of events)) ≡ entry (o.number + 1) tag ∷ rest_at (entry (o.number + 1) tag) events in
    subst P (sym (e ∙ add-one (4294967295 - (o.number + 1)))) refl

-- past the last number nothing is published
pub rest_full : (o : Entry) (events : List Event) → o.number ≡ 4294967295 → rest_at o events ≡ []
rest_full o events h =
    let e : 4294967295 - o.number ≡ 0 = omega arith in
    let P : ℕ → Type 0 = λ n. take n (numbered (o.number + 1) (tags_of events)) ≡ [] in
    subst P (sym e) refl

-- the last entry after one event
abbrev pub next : Entry → Event → Entry
next o event = last_of o (list_at o (event ∷ []))

-- p is the opening entry of what follows the event on a board that was opened with o
pub record Leads (o p : Entry) (event : Event) : Type 0 where
  pub last : (events : List Event) → last_of o (list_at o (event ∷ events)) ≡ last_of p (list_at p events)
  pub count : (events : List Event) → o.number + length (list_at o (event ∷ events)) ≡ p.number + length (list_at p events)
  pub small : p.number < 4294967296

leads_published : (o : Entry) (tag : ℕ) → o.number < 4294967295 → Leads o (entry (o.number + 1) tag) (Publish tag)
leads_published o tag h =
    let small : o.number < 4294967296 = omega arith in
    let p : Entry = entry (o.number + 1) tag in
    let more : p.number < 4294967296 = omega arith in record {
      last = λ events. rw (list_is o (Publish tag ∷ events) small, rest_more o tag events h, list_is p events more) refl;
      count = λ events. rw (list_is o (Publish tag ∷ events) small, rest_more o tag events h, list_is p events more) (omega arith);
      small = more;
    }

leads_full : (o : Entry) (tag : ℕ) → o.number ≡ 4294967295 → Leads o o (Publish tag)
leads_full o tag h =
    let small : o.number < 4294967296 = omega arith in record {
      last = λ events. rw (list_is o (Publish tag ∷ events) small, rest_full o (Publish tag ∷ events) h, list_is o events small, rest_full o events h) refl;
      count = λ events. rw (list_is o (Publish tag ∷ events) small, rest_full o (Publish tag ∷ events) h, list_is o events small, rest_full o events h) refl;
      small = small;
    }

none_left : (n : ℕ) (o : Entry) → last_of o (take n []) ≡ o
none_left zero o = refl
none_left (suc n) o = refl

pub next_published : (o : Entry) (tag : ℕ) → o.number < 4294967295 → next o (Publish tag) ≡ entry (o.number + 1) tag
next_published o tag h =
    let small : o.number < 4294967296 = omega arith in
    rw (list_is o (Publish tag ∷ []) small, rest_more o tag [] h) (none_left _ _)

pub next_full : (o : Entry) (tag : ℕ) → o.number ≡ 4294967295 → next o (Publish tag) ≡ o
next_full o tag h =
    let small : o.number < 4294967296 = omega arith in
    rw (list_is o (Publish tag ∷ []) small, rest_full o (Publish tag ∷ []) h) refl

pub next_same : (o : Entry) → o.number < 4294967296 → last_of o (list_at o []) ≡ o
next_same o h = rw (list_is o [] h) (none_left _ _)

leads_same : (o p : Entry) → o.number < 4294967296 → p ≡ last_of o (list_at o []) → p ≡ o
leads_same o p h e = e ∙ next_same o h

-- each event leads to the last entry after it
pub leads : (o p : Entry) (event : Event) → o.number < 4294967296 → p ≡ next o event → Leads o p event
leads o p (Publish tag) h e =
    ⊎_elim
    (λ (below : o.number < 4294967295). subst (λ (q : Entry). Leads o q (Publish tag)) (sym (e ∙ next_published o tag below)) (leads_published o tag below))
    (λ (full : 4294967295 ≤ o.number). let at : o.number ≡ 4294967295 = omega arith in subst (λ (q : Entry). Leads o q (Publish tag)) (sym (e ∙ next_full o tag at)) (leads_full o tag at))
    (cases_lt o.number 4294967295)
leads o p (Enter seat) h e = subst (λ (q : Entry). Leads o q (Enter seat)) (sym (leads_same o p h e)) (record { last = λ events. refl; count = λ events. refl; small = h })
leads o p (Learn seat note) h e = subst (λ (q : Entry). Leads o q (Learn seat note)) (sym (leads_same o p h e)) (record { last = λ events. refl; count = λ events. refl; small = h })
leads o p Tell h e = subst (λ (q : Entry). Leads o q Tell) (sym (leads_same o p h e)) (record { last = λ events. refl; count = λ events. refl; small = h })

fits_alike : (m n a b : ℕ) → m < 4294967296 → n < 4294967296 → m + a ≡ n + b → ltb a (4294967296 - m) ≡ ltb b (4294967296 - n)
fits_alike m n a b hm hn e = grind (arith, nat_tests)

-- what an event comes to, as seen from the opening entry of the rest
outcome_from : (s t : State) (event : Event) (before : List Event) (one : Event) → s.last.number < 4294967296 → Leads s.last t.last event → length t.known ≡ length s.known
    → outcome s (list_at s.last (event ∷ before)) one ≡ outcome t (list_at t.last before) one
outcome_from s t event before (Publish tag) h l k =
    rw (fits_alike _ _ _ _ h l.small (l.count before), l.count before) refl
outcome_from s t event before (Enter seat) h l k = rw (l.last before, k) refl
outcome_from s t event before (Learn seat note) h l k = rw (l.last before, k) refl
outcome_from s t event before Tell h l k = rw (l.last before) refl

outcomes_later : (s t : State) (event : Event) (before later : List Event) → s.last.number < 4294967296 → Leads s.last t.last event → length t.known ≡ length s.known
    → outcomes_from s (event ∷ before) later ≡ outcomes_from t before later
outcomes_later s t event before [] h l k = refl
outcomes_later s t event before (one ∷ later) h l k =
    rw (outcome_from s t event before one h l k, outcomes_later s t event (before ++ one ∷ []) later h l k) refl

-- the outcomes of a list are that of its first event and those of the rest on a board that it leaves
pub outcomes_first : (s t : State) (event : Event) (later : List Event) → s.last.number < 4294967296 → t.last ≡ next s.last event → length t.known ≡ length s.known
    → outcomes s (event ∷ later) ≡ outcome s (list_at s.last []) event ∷ outcomes t later
outcomes_first s t event later small last seats = rw (outcomes_later s t event [] later small (leads s.last t.last event small last) seats) refl

pub outcomes_more : (s t : State) (event : Event) (answer : Outcome) (later : List Event) → Takes s event answer t
    → outcomes s (event ∷ later) ≡ answer ∷ outcomes t later
outcomes_more s t event answer later h = rw h.outcome (outcomes_first s t event later h.kept.small h.after.last h.after.seats)

-- the last entry after two lists of events, one behind the other
pub last_joined : (o : Entry) (events later : List Event) → o.number < 4294967296
    → last_of o (list_at o (events ++ later)) ≡ last_of (last_of o (list_at o events)) (list_at (last_of o (list_at o events)) later)
last_joined o [] later h = rw (next_same o h) refl
last_joined o (event ∷ events) later h =
    let l = leads o (next o event) event h refl in
    rw (l.last (events ++ later), l.last events) (last_joined (next o event) events later l.small)
