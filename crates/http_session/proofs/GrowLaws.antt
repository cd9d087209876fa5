-- What was taken of a connection, call by call.
use Rattle.std.proofs.Common.{◌≡◌, ℕ, ◌<◌, Bool, true, false, ◌==◌, if◌then◌else◌, List, [], ◌∷◌, ◌++◌, Some, None, inl, inr, length, refl, sym, ap, ◌∙◌, subst, append_assoc, append-nil, arith}
use Rattle.std.proofs.lemmas.Bool.Decides.{nat_tests}
use Rattle.std.specs.Io.KnownBytes.{Consumes}
use Rattle.http_head.specs.Heads.{AnswersHead}
use Rattle.http_head.specs.declared.parts.Front.TheVariants.{More}
use Rattle.road_io.specs.Exchanging.{KeepsSink}
use Rattle.road_io.specs.Faults.{Rose}
use Rattle.road_io.specs.Told.{consumes_none, consumes_kept, consumes_then}
use Rattle.road_io.specs.Views.{ConnState}
use Rattle.http_session.specs.Coming.{Comes, Grows, IsPartOfHead, IsSteady}
use Rattle.http_session.specs.Finding.{Finds}
use Rattle.http_session.specs.Taking.{TakesSome, TakesNone}
use Rattle.http_session.specs.declared.coming.Coming.{Coming}
use Rattle.http_session.specs.declared.coming.Coming.TheVariants as coming

pub keeps_sink_then : (first mid now : ConnState) → KeepsSink first mid → KeepsSink mid now → KeepsSink first now
keeps_sink_then first mid now one two = record { sink = two.sink ∙ one.sink; opening = two.opening ∙ one.opening }

pub grows_start : (state : ConnState) (unread : List ℕ) → Grows state state unread unread
grows_start state unread = record {
  got = [];
  longer = sym (append-nil unread);
  given = consumes_none state.source.left;
  sink = record { sink = refl; opening = refl };
}

pub grows_more : (first mid now : ConnState) (unread held longer : List ℕ) (count : ℕ) → Grows first mid unread held → TakesSome mid now held longer count → Grows first now unread longer
grows_more first mid now unread held longer count one two = record {
  got = one.got ++ two.got;
  longer = two.longer ∙ ap (λ (xs : List ℕ). xs ++ two.got) one.longer ∙ append_assoc unread one.got two.got;
  given = consumes_then first.source.left mid.source.left now.source.left one.got two.got one.given two.took.given;
  sink = keeps_sink_then first mid now one.sink two.sink;
}

pub grows_none : (first mid now : ConnState) (unread held same : List ℕ) → Grows first mid unread held → TakesNone mid now held same → Grows first now unread same
grows_none first mid now unread held same one two = record {
  got = one.got;
  longer = two.same ∙ one.longer;
  given = subst (λ (xs : List ℕ). Consumes first.source.left now.source.left xs) (append-nil one.got) (consumes_then first.source.left mid.source.left now.source.left one.got [] one.given (consumes_kept mid.source.left now.source.left two.left));
  sink = keeps_sink_then first mid now one.sink two.sink;
}

pub no_bytes : (xs : List ℕ) → length xs ≡ 0 → xs ≡ []
no_bytes [] none = refl
no_bytes (x ∷ xs) none = absurd (omega arith)

-- nothing was taken
takes_nothing : (before after : ConnState) (unread now : List ℕ) (count : ℕ) → TakesSome before after unread now count → count ≡ 0 → now ≡ unread
takes_nothing before after unread now count takes none =
    let empty : takes.got ≡ [] = no_bytes takes.got (takes.size ∙ none) in
    takes.longer ∙ ap (λ (xs : List ℕ). unread ++ xs) empty ∙ append-nil unread

-- bytes that the parser makes neither a head nor bad ones of are none, or a part of a head
pub none_found : (seen unread : List ℕ) → seen ≡ unread → AnswersHead seen More → length unread < 8192 → Finds None unread
none_found seen [] is waits short = inl refl
none_found seen (b ∷ unread) is waits short =
    let here : AnswersHead (b ∷ unread) More = subst (λ (xs : List ℕ). AnswersHead xs More) is waits in
    inr (record { some = omega arith; room = short; no_front = here.0; waits = here.1 })

-- so there is room for more
pub room_left : (unread : List ℕ) → Finds None unread → length unread < 8192
room_left unread (inl none) = omega (arith, ap length none)
room_left unread (inr part) = part.room

part_found : (unread : List ℕ) → 0 < length unread → Finds None unread → IsPartOfHead unread
part_found unread some (inl none) = absurd (omega (arith, ap length none))
part_found unread some (inr part) = part

-- what was found comes next
pub comes_found : (first now : ConnState) (unread : List ℕ) (how : Coming) → Finds (Some how) unread → IsSteady first now → Comes how first now unread
comes_found first now unread (coming.Whole head size) finds steady = (finds, steady)
comes_found first now unread coming.NoHead finds steady = (finds, steady)
comes_found first now unread coming.End finds steady = absurd finds
comes_found first now unread coming.Short finds steady = absurd finds
comes_found first now unread coming.Fault finds steady = absurd finds

-- the input failed
pub comes_fault : (first mid now : ConnState) (unread held : List ℕ) → Finds None unread → TakesNone mid now unread held → IsSteady first mid → Comes coming.Fault first now held
comes_fault first mid now unread held finds takes steady = (
  subst (λ (xs : List ℕ). Finds None xs) (sym takes.same) finds,
  subst (λ (n : ℕ). Rose n now.source.faults) steady takes.rose,
)

-- the input ended between two heads, or inside one
pub comes_end : (first mid now : ConnState) (unread held : List ℕ) (count : ℕ) (how : Coming) → Finds None unread → TakesSome mid now unread held count → count ≡ 0 → IsSteady first mid → how ≡ (if length held == 0 then coming.End else coming.Short) → Comes how first now held
comes_end first mid now unread held count how finds takes none steady ends =
    subst (λ (c : Coming). Comes c first now held) (sym ends) (go (length held == 0) refl)
  where
    here : Finds None held
    here = subst (λ (xs : List ℕ). Finds None xs) (sym (takes_nothing mid now unread held count takes none)) finds

    go : (b : Bool) → (length held == 0) ≡ b → Comes (if b then coming.End else coming.Short) first now held
    go true e =
        let size : length held ≡ 0 = grind (arith, nat_tests) in
        (no_bytes held size, takes.at_end none, takes.steady ∙ steady)
    go false e =
        let some : 0 < length held = grind (arith, nat_tests) in
        (part_found held some here, takes.at_end none, takes.steady ∙ steady)
