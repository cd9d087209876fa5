-- One more event behind a list of events.
use Rattle.std.proofs.Common.{◌≡◌, ℕ, ◌+◌, ◌<◌, ◌≤◌, Bool, true, false, cond, eqb, List, [], ◌∷◌, ◌++◌, length, take, get_or, slice_index, max, refl, sym, ap, ◌∙◌, subst, arith}
use Rattle.std.proofs.lemmas.List.{append_assoc, append-nil, take_more, take_all}
use Rattle.std.specs.List.{zip}
use Rattle.board_core.specs.declared.event.Event.{Event}
use Rattle.board_core.specs.declared.event.Event.TheVariants.{Enter, Learn}
use Rattle.board_core.specs.declared.event.Outcome.{Outcome}
use Rattle.board_core.specs.declared.event.Outcome.TheVariants.{Entered, Learned}
use Rattle.board_core.specs.State.{Entry, State, IsKept}
use Rattle.board_core.specs.History.{list_at, last_of, outcomes}
use Rattle.board_core.specs.Transcript.{heard, greatest, IsAfter, Takes}
use Rattle.board_core.proofs.Joining.{last_joined, next}
use Rattle.board_core.proofs.Trails.{length-outcomes}

cond-append : (b : Bool) (n : ℕ) (ns later : List ℕ) → cond b (n ∷ (ns ++ later)) (ns ++ later) ≡ cond b (n ∷ ns) ns ++ later
cond-append true n ns later = refl
cond-append false n ns later = refl

-- heard of in one more event
heard_more : (seat : ℕ) (event : Event) (answer : Outcome) (steps later : List (Event × Outcome)) → heard seat (steps ++ later) ≡ heard seat steps ++ heard seat later
    → heard seat ((event, answer) ∷ (steps ++ later)) ≡ heard seat ((event, answer) ∷ steps) ++ heard seat later
heard_more seat (Enter who) (Entered number tag) steps later e = rw e (cond-append (eqb who seat) number (heard seat steps) (heard seat later))
heard_more seat (Learn who note) Learned steps later e = rw e (cond-append (eqb who seat) note (heard seat steps) (heard seat later))
heard_more seat _ _ steps later e = e

heard-append : (seat : ℕ) (steps later : List (Event × Outcome)) → heard seat (steps ++ later) ≡ heard seat steps ++ heard seat later
heard-append seat [] later = refl
heard-append seat ((event, answer) ∷ steps) later = heard_more seat event answer steps later (heard-append seat steps later)

greatest-append : (most : ℕ) (xs ys : List ℕ) → greatest most (xs ++ ys) ≡ greatest (greatest most xs) ys
greatest-append most [] ys = refl
greatest-append most (x ∷ xs) ys = greatest-append (max most x) xs ys

zip-append : {A B : Type 0} (xs us : List A) (ys vs : List B) → length ys ≡ length xs → zip (xs ++ us) (ys ++ vs) ≡ zip xs ys ++ zip us vs
zip-append [] us [] vs e = refl
zip-append [] us (y ∷ ys) vs e = absurd (omega arith)
zip-append (x ∷ xs) us [] vs e = absurd (omega arith)
zip-append (x ∷ xs) us (y ∷ ys) vs e = ap (λ rest. (x, y) ∷ rest) (zip-append xs us ys vs (omega arith))

-- the board after one more event
pub after_more : (s t u : State) (events : List Event) (event : Event) (answer : Outcome) → IsKept s → IsAfter s events t
    → outcomes s (events ++ event ∷ []) ≡ outcomes s events ++ answer ∷ [] → Takes t event answer u → IsAfter s (events ++ event ∷ []) u
after_more s t u events event answer kept after all takes = record {
  last =
      let is : last_of s.last (list_at s.last events) ≡ t.last = sym after.last in
      takes.after.last ∙ sym (last_joined s.last events (event ∷ []) kept.small ∙ ap (λ (o : Entry). next o event) is);
  seats = takes.after.seats ∙ after.seats;
  known = λ seat.
      let steps : zip (events ++ event ∷ []) (outcomes s (events ++ event ∷ [])) ≡ zip events (outcomes s events) ++ (event, answer) ∷ [] =
      ap (λ answers. zip (events ++ event ∷ []) answers) all ∙ zip-append events (event ∷ []) (outcomes s events) (answer ∷ []) (length-outcomes s [] events) in
      let known : slice_index u.known seat ≡ greatest (slice_index t.known seat) (heard seat ((event, answer) ∷ [])) =
      takes.after.known seat ∙ ap (λ (a : Outcome). greatest (slice_index t.known seat) (heard seat ((event, a) ∷ []))) (sym takes.outcome) in
      known
      ∙ ap (λ n. greatest n (heard seat ((event, answer) ∷ []))) (after.known seat)
      ∙ sym (greatest-append (slice_index s.known seat) (heard seat (zip events (outcomes s events))) (heard seat ((event, answer) ∷ [])))
      ∙ ap (greatest (slice_index s.known seat)) (sym (heard-append seat (zip events (outcomes s events)) ((event, answer) ∷ [])))
      ∙ ap (λ all. greatest (slice_index s.known seat) (heard seat all)) (sym steps);
}

-- the outcomes so far, after one more event
pub joins_more : (s t u : State) (events : List Event) (i : ℕ) (d : Event) (answers : List Outcome) (answer : Outcome) → i < length events
    → ((later : List Event) → outcomes s (take i events ++ later) ≡ answers ++ outcomes t later)
    → ((later : List Event) → outcomes t (get_or events i d ∷ later) ≡ answer ∷ outcomes u later)
    → (later : List Event) → outcomes s (take (i + 1) events ++ later) ≡ (answers ++ answer ∷ []) ++ outcomes u later
joins_more s t u events i d answers answer h so_far step later =
    let one : take (i + 1) events ++ later ≡ take i events ++ (get_or events i d ∷ later) =
    ap (λ front. front ++ later) (take_more events i d h) ∙ append_assoc (take i events) (get_or events i d ∷ []) later in
    ap (outcomes s) one
    ∙ so_far (get_or events i d ∷ later)
    ∙ ap (λ rest. answers ++ rest) (step later)
    ∙ sym (append_assoc answers (answer ∷ []) (outcomes u later))

-- the board so far, after one more event
pub board_more : (s t u : State) (events : List Event) (i : ℕ) (d : Event) (answers : List Outcome) (answer : Outcome) → i < length events → IsKept s
    → ((later : List Event) → outcomes s (take i events ++ later) ≡ answers ++ outcomes t later)
    → IsAfter s (take i events) t → Takes t (get_or events i d) answer u → IsAfter s (take (i + 1) events) u
board_more s t u events i d answers answer h kept so_far after takes =
    let event = get_or events i d in
    let front : outcomes s (take i events) ≡ answers = ap (outcomes s) (sym (append-nil (take i events))) ∙ so_far [] ∙ append-nil answers in
    let all : outcomes s (take i events ++ event ∷ []) ≡ outcomes s (take i events) ++ answer ∷ [] =
    so_far (event ∷ []) ∙ ap (λ last. answers ++ last ∷ []) (sym takes.outcome) ∙ ap (λ so. so ++ answer ∷ []) (sym front) in
    subst (λ (seen : List Event). IsAfter s seen u) (sym (take_more events i d h)) (after_more s t u (take i events) event answer kept after all takes)

-- the outcomes at the end
pub all_joined : (s t : State) (events : List Event) (i : ℕ) (answers : List Outcome) → length events ≤ i
    → ((later : List Event) → outcomes s (take i events ++ later) ≡ answers ++ outcomes t later)
    → answers ≡ outcomes s events
all_joined s t events i answers h so_far =
    sym (append-nil answers) ∙ sym (so_far []) ∙ ap (outcomes s) (append-nil (take i events) ∙ take_all i events h)
