-- What holds of each event beside its outcome, one after another, and what follows for the whole list.
use Rattle.std.proofs.Common.{◌≡◌, ℕ, ◌+◌, ◌-◌, ◌<◌, ◌≤◌, Bool, true, false, cond, eqb, ltb, List, [], ◌∷◌, ◌++◌, length, take, All, refl, sym, ap, ◌∙◌, subst, arith, ⊎_elim, zero, suc, slice_index}
use Rattle.std.proofs.lemmas.Bool.{cases_lt}
use Rattle.std.proofs.lemmas.Bool.Decides.{nat_tests}
use Rattle.std.proofs.lemmas.List.Elements.{All-cons}
use Rattle.std.specs.List.{zip}
use Rattle.board_core.specs.declared.event.Event.{Event}
use Rattle.board_core.specs.declared.event.Event.TheVariants.{Publish, Enter, Learn, Tell}
use Rattle.board_core.specs.declared.event.Outcome.{Outcome}
use Rattle.board_core.specs.declared.event.Outcome.TheVariants.{Published, Spent, Entered, Learned, NotTold, Told, NoSeat}
use Rattle.board_core.specs.State.{Entry, entry, State, state, IsKept}
use Rattle.board_core.specs.History.{list_at, last_of, outcome, outcomes, outcomes_from}
use Rattle.board_core.specs.Transcript.{published, heard, IsHistory}
use Rattle.board_core.proofs.Joining.{next, next_same, next_published, next_full, list_is, rest_at, rest_more, rest_full, leads, outcomes_first}

-- the event, where o is the last entry before it and p the last one after it
abbrev pub Moves : Entry → Event → Outcome → Entry → Type 0
Moves o (Publish tag) (Published number) p = (o.number < 4294967295) × (number ≡ o.number + 1) × (p ≡ entry number tag)
Moves o (Publish tag) Spent p = (o.number ≡ 4294967295) × (p ≡ o)
Moves o (Enter seat) (Entered number tag) p = (entry number tag ≡ o) × (p ≡ o)
Moves o (Enter seat) NoSeat p = p ≡ o
Moves o (Learn seat note) Learned p = (note ≤ o.number) × (p ≡ o)
Moves o (Learn seat note) NotTold p = p ≡ o
Moves o (Learn seat note) NoSeat p = p ≡ o
Moves o Tell (Told number) p = p ≡ o
Moves o _ _ p = ⊥

-- the events one after another
abbrev pub Trail : Entry → List (Event × Outcome) → Type 0
Trail o [] = Unit {0}
Trail o (step ∷ rest) = (p : Entry) × Moves o step.0 step.1 p × Trail p rest

none_at : (n : ℕ) → take {A = Entry} n [] ≡ []
none_at zero = refl
none_at (suc n) = refl

pub length-outcomes : (s : State) (before events : List Event) → length (outcomes_from s before events) ≡ length events
length-outcomes s before [] = refl
length-outcomes s before (event ∷ events) = ap suc (length-outcomes s (before ++ event ∷ []) events)

length_one : (o : Entry) → length (o ∷ rest_at o []) ≡ 1
length_one o = ap (λ rest. length (o ∷ rest)) (none_at (4294967295 - o.number))

moves_enter : (o : Entry) (seat : ℕ) (b : Bool) → Moves o (Enter seat) (cond b (Entered o.number o.tag) NoSeat) o
moves_enter o seat true = (refl, refl)
moves_enter o seat false = refl

moves_learn : (o : Entry) (seat note : ℕ) (b told : Bool) → ltb o.number note ≡ told → Moves o (Learn seat note) (cond b (cond told NotTold Learned) NoSeat) o
moves_learn o seat note false told h = refl
moves_learn o seat note true true h = refl
moves_learn o seat note true false h = (grind (arith, nat_tests), refl)

first_moves : (s : State) (event : Event) → s.last.number < 4294967296 → Moves s.last event (outcome s (list_at s.last []) event) (next s.last event)
first_moves s (Publish tag) h =
    let one : length (list_at s.last []) ≡ 1 = rw (list_is s.last [] h) (length_one s.last) in
    ⊎_elim
    (λ (below : s.last.number < 4294967295).
    let fits : ltb 1 (4294967296 - s.last.number) ≡ true = grind (arith, nat_tests) in
    rw (one, fits) (below, refl, next_published s.last tag below))
    (λ (full : 4294967295 ≤ s.last.number).
    let at : s.last.number ≡ 4294967295 = omega arith in
    let none : ltb 1 (4294967296 - s.last.number) ≡ false = grind (arith, nat_tests) in
    rw (one, none) (at, next_full s.last tag at))
    (cases_lt s.last.number 4294967295)
first_moves s (Enter seat) h = rw (next_same s.last h) (moves_enter s.last seat (ltb seat (length s.known)))
first_moves s (Learn seat note) h =
    rw (next_same s.last h) (moves_learn s.last seat note (ltb seat (length s.known)) (ltb s.last.number note) refl)
first_moves s Tell h = rw (next_same s.last h) refl

-- the outcomes of a list of events make a trail
pub trail : (s : State) (events : List Event) → s.last.number < 4294967296 → Trail s.last (zip events (outcomes s events))
trail s [] h = tt
trail s (event ∷ events) h =
    let t : State = state (next s.last event) s.known in
    let l = leads s.last t.last event h refl in
    let P : List Outcome → Type 0 = λ answers. Trail s.last (zip (event ∷ events) answers) in
    subst P (sym (outcomes_first s t event events h refl refl)) (next s.last event, first_moves s event h, trail t events l.small)

-- an entry that was published is the last one from then on
last_moves : (o p : Entry) (event : Event) (answer : Outcome) (rest : List (Event × Outcome)) → Moves o event answer p
    → last_of o (published ((event, answer) ∷ rest)) ≡ last_of p (published rest)
last_moves o p (Publish tag) (Published number) rest h = rw h.2 refl
last_moves o p (Publish tag) Spent rest h = rw h.1 refl
last_moves o p (Enter seat) (Entered number tag) rest h = rw h.1 refl
last_moves o p (Enter seat) NoSeat rest h = rw h refl
last_moves o p (Learn seat note) Learned rest h = rw h.1 refl
last_moves o p (Learn seat note) NotTold rest h = rw h refl
last_moves o p (Learn seat note) NoSeat rest h = rw h refl
last_moves o p Tell (Told number) rest h = rw h refl
last_moves o p _ _ rest h = absurd h

All_choice : (b : Bool) (n number : ℕ) (ns : List ℕ) → n ≤ number → All (λ m. m ≤ number) ns → All (λ m. m ≤ number) (cond b (n ∷ ns) ns)
All_choice true n number ns low all = All-cons (λ m. m ≤ number) n ns low all
All_choice false n number ns low all = all

-- numbers never fall, and a seat hears of none above the last one
heard_moves : (o p : Entry) (event : Event) (answer : Outcome) (rest : List (Event × Outcome)) (seat number : ℕ) → Moves o event answer p
    → p.number ≤ number → All (λ n. n ≤ number) (heard seat rest) → (o.number ≤ number) × All (λ n. n ≤ number) (heard seat ((event, answer) ∷ rest))
heard_moves o p (Publish tag) (Published n) rest seat number h k all = (grind arith, all)
heard_moves o p (Publish tag) Spent rest seat number h k all = (rw h.1 at k, all)
heard_moves o p (Enter who) (Entered n tag) rest seat number h k all =
    let low : n ≤ number = grind arith in
    (rw h.1 at k, All_choice (eqb who seat) n number (heard seat rest) low all)
heard_moves o p (Enter who) NoSeat rest seat number h k all = (rw h at k, all)
heard_moves o p (Learn who note) Learned rest seat number h k all =
    let low : note ≤ number = grind arith in
    (rw h.1 at k, All_choice (eqb who seat) note number (heard seat rest) low all)
heard_moves o p (Learn who note) NotTold rest seat number h k all = (rw h at k, all)
heard_moves o p (Learn who note) NoSeat rest seat number h k all = (rw h at k, all)
heard_moves o p Tell (Told n) rest seat number h k all = (rw h at k, all)
heard_moves o p _ _ rest seat number h k all = absurd h

-- what the outcomes of a list say wherever it is cut
latest : (o : Entry) (before after : List (Event × Outcome)) (seat number tag : ℕ) → Trail o (before ++ (Enter seat, Entered number tag) ∷ after)
    → entry number tag ≡ last_of o (published before)
latest o [] after seat number tag h = h.1.0
latest o ((event, answer) ∷ before) after seat number tag h =
    latest h.0 before after seat number tag h.2 ∙ sym (last_moves o h.0 event answer before h.1)

never_back : (o : Entry) (before after : List (Event × Outcome)) (seat number tag : ℕ) → Trail o (before ++ (Enter seat, Entered number tag) ∷ after)
    → (o.number ≤ number) × All (λ n. n ≤ number) (heard seat before)
never_back o [] after seat number tag h = (grind arith, λ k d l. absurd (omega arith))
never_back o ((event, answer) ∷ before) after seat number tag h =
    let rest = never_back h.0 before after seat number tag h.2 in
    heard_moves o h.0 event answer before seat number h.1 rest.0 rest.1

rises : (o : Entry) (before after : List (Event × Outcome)) (number tag : ℕ) → Trail o (before ++ (Publish tag, Published number) ∷ after)
    → number ≡ (last_of o (published before)).number + 1
rises o [] after number tag h = h.1.1
rises o ((event, answer) ∷ before) after number tag h =
    rises h.0 before after number tag h.2 ∙ ap (λ (p : Entry). p.number + 1) (sym (last_moves o h.0 event answer before h.1))

spent : (o : Entry) (before after : List (Event × Outcome)) (tag : ℕ) → Trail o (before ++ (Publish tag, Spent) ∷ after)
    → (last_of o (published before)).number ≡ 4294967295
spent o [] after tag h = h.1.0
spent o ((event, answer) ∷ before) after tag h =
    ap (λ (p : Entry). p.number) (last_moves o h.0 event answer before h.1) ∙ spent h.0 before after tag h.2

-- the entries that were published are those of the list
published_moves : (o p : Entry) (event : Event) (answer : Outcome) (rest : List (Event × Outcome)) (events : List Event) → o.number < 4294967296 → Moves o event answer p
    → published rest ≡ rest_at p events → published ((event, answer) ∷ rest) ≡ rest_at o (event ∷ events)
published_moves o p (Publish tag) (Published number) rest events small h e =
    let at : p ≡ entry (o.number + 1) tag = h.2 ∙ ap (λ n. entry n tag) h.1 in
    let on : published rest ≡ rest_at (entry (o.number + 1) tag) events = subst (λ (q : Entry). published rest ≡ rest_at q events) at e in
    ap (λ n. entry n tag ∷ published rest) h.1 ∙ ap (λ all. entry (o.number + 1) tag ∷ all) on ∙ sym (rest_more o tag events h.0)
published_moves o p (Publish tag) Spent rest events small h e = e ∙ rw h.1 (rest_full o events h.0) ∙ sym (rest_full o (Publish tag ∷ events) h.0)
published_moves o p (Enter seat) (Entered number tag) rest events small h e = rw h.1 at e
published_moves o p (Enter seat) NoSeat rest events small h e = rw h at e
published_moves o p (Learn seat note) Learned rest events small h e = rw h.1 at e
published_moves o p (Learn seat note) NotTold rest events small h e = rw h at e
published_moves o p (Learn seat note) NoSeat rest events small h e = rw h at e
published_moves o p Tell (Told number) rest events small h e = rw h at e
published_moves o p _ _ rest events small h e = absurd h

moves_small : (o p : Entry) (event : Event) (answer : Outcome) → o.number < 4294967296 → Moves o event answer p → p.number < 4294967296
moves_small o p (Publish tag) (Published number) small h = grind arith
moves_small o p (Publish tag) Spent small h = rw h.1 small
moves_small o p (Enter seat) (Entered number tag) small h = rw h.1 small
moves_small o p (Enter seat) NoSeat small h = rw h small
moves_small o p (Learn seat note) Learned small h = rw h.1 small
moves_small o p (Learn seat note) NotTold small h = rw h small
moves_small o p (Learn seat note) NoSeat small h = rw h small
moves_small o p Tell (Told number) small h = rw h small
moves_small o p _ _ small h = absurd h

published_all : (o : Entry) (events : List Event) (answers : List Outcome) → o.number < 4294967296 → length answers ≡ length events → Trail o (zip events answers)
    → published (zip events answers) ≡ rest_at o events
published_all o [] answers small same t = sym (none_at (4294967295 - o.number))
published_all o (event ∷ events) [] small same t = absurd (omega arith)
published_all o (event ∷ events) (answer ∷ answers) small same t =
    published_moves o t.0 event answer (zip events answers) events small t.1
    (published_all t.0 events answers (moves_small o t.0 event answer small t.1) (omega arith) t.2)

pub history : (s : State) (events : List Event) (answers : List Outcome) → IsKept s → answers ≡ outcomes s events → IsHistory s (zip events answers) (list_at s.last events)
history s events answers kept e =
    let t : Trail s.last (zip events answers) = rw e (trail s events kept.small) in record {
      latest = λ before after seat number tag is. latest s.last before after seat number tag (subst (Trail s.last) is t);
      never_back = λ before after seat number tag is.
          let all = never_back s.last before after seat number tag (subst (Trail s.last) is t) in
          let low : slice_index s.known seat ≤ number = omega (arith, kept.known seat, all.0) in
          (low, all.1);
      rises = λ before after number tag is. rises s.last before after number tag (subst (Trail s.last) is t);
      spent = λ before after tag is. spent s.last before after tag (subst (Trail s.last) is t);
      entries =
          let same : length answers ≡ length events = ap length e ∙ length-outcomes s [] events in
          ap (λ rest. s.last ∷ rest) (published_all s.last events answers kept.small same t) ∙ sym (list_is s.last events kept.small);
    }
