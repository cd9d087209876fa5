-- What comes of traffic files, by the last publication of a board.
use Rattle.std.proofs.Common.{◌≡◌, ℕ, ◌+◌, ◌<◌, List, [], ◌∷◌, ◌++◌, Some, refl, sym, ap, ◌∙◌, subst}
use Rattle.std.proofs.lemmas.Option.{same_Some}
use Rattle.edge_graph.specs.NetworkView.{NetworkView}
use Rattle.metric_make.specs.RoadMetric.{road_of}
use Rattle.customized.specs.Exact.{Customized, ShareRoads, customized_on}
use Rattle.customized.specs.Framing.{RoadsView}
use Rattle.metric_publish.specs.History.{entry, last_from, last_number, last_of}
use Rattle.metric_publish.specs.declared.entry.Entry.{Entry}
use Rattle.control_port.specs.Controlling.{Board, FilesGive, IsBaseOf, IsOn, IsPublished, on_board}
use Rattle.control_port.specs.declared.controlled.Controlled.{Controlled}
use Rattle.control_port.specs.declared.controlled.Controlled.TheVariants as controlled
use Rattle.line_session.specs.Publication.{Comes, alone, publication_of}

last_from_push : {A : Type 0} (x : A) (xs : List A) (y : A) → last_from x (xs ++ y ∷ []) ≡ y
last_from_push x [] y = refl
last_from_push x (z ∷ xs) y = last_from_push z xs y

last_push : {A : Type 0} (xs : List A) (y : A) → last_of (xs ++ y ∷ []) ≡ Some y
last_push [] y = refl
last_push (x ∷ xs) y = ap Some (last_from_push x xs y)

number_of_last : (board : Board) (last : Entry Customized) → last_of board ≡ Some last → last_number board ≡ last.number
number_of_last [] last is = cc
number_of_last (e ∷ es) last is = ap (λ (x : Entry Customized). x.number) (same_Some (last_from e es) last is)

module _ (roads : RoadsView) (before after : Board) (last next : Entry Customized) (speeds turns : List ℕ) (is_last : last_of before ≡ Some last) (is_next : last_of after ≡ Some next) (on : IsOn roads last.value) where
  -- the last publication of a board that stays
  stays : after ≡ before → next ≡ last
  stays same = same_Some next last (sym is_next ∙ ap last_of same ∙ is_last)

  put : (number unmatched : ℕ) (given : IsPublished (on_board roads before) speeds turns number unmatched after) → next ≡ entry number (customized_on roads given.base)
  put number unmatched given =
      let e : Entry Customized = entry number (customized_on roads given.base) in
      same_Some next e (sym is_next ∙ ap last_of given.published.stands ∙ last_push before e)

  is_published : (number unmatched : ℕ) → IsPublished (on_board roads before) speeds turns number unmatched after → IsPublished (alone (publication_of last)) speeds turns number unmatched (publication_of next)
  is_published number unmatched given =
      let same : last_number before ≡ last.number = number_of_last before last is_last in
      let network : roads.network ≡ last.value.road.network = sym on.0 in
      record {
        base = given.base;
        made = subst (λ (n : NetworkView). IsBaseOf n speeds turns given.base) network given.made;
        published = record {
          below = subst (λ (n : ℕ). n < 4294967295) same given.published.below;
          next = given.published.next ∙ ap (λ (n : ℕ). n + 1) same;
          missed = given.published.missed;
          stands = ap publication_of (put number unmatched given) ∙ ap (λ (n : NetworkView). entry number (road_of n given.base)) network;
        };
      }

  pub comes_of : (answer : Controlled) → FilesGive (on_board roads before) speeds turns answer after → Comes (publication_of last) speeds turns answer (publication_of next)
  comes_of (controlled.Published number unmatched) gives = is_published number unmatched gives
  comes_of (controlled.Refused fault) gives = (gives.0, ap publication_of (stays gives.1))
  comes_of (controlled.Spent number) gives = (
    record { rows = gives.0.rows; last = sym (number_of_last before last is_last) ∙ gives.0.last; number_is = gives.0.number_is },
    ap publication_of (stays gives.1),
  )
  comes_of controlled.BadRequest gives = absurd gives
  comes_of controlled.Stopping gives = absurd gives

  -- the last metric is on the roads
  pub on_after : (answer : Controlled) → FilesGive (on_board roads before) speeds turns answer after → IsOn roads next.value
  on_after (controlled.Published number unmatched) gives = subst (λ (e : Entry Customized). IsOn roads e.value) (sym (put number unmatched gives)) (refl, refl)
  on_after (controlled.Refused fault) gives = subst (λ (e : Entry Customized). IsOn roads e.value) (sym (stays gives.1)) on
  on_after (controlled.Spent number) gives = subst (λ (e : Entry Customized). IsOn roads e.value) (sym (stays gives.1)) on
  on_after controlled.BadRequest gives = absurd gives
  on_after controlled.Stopping gives = absurd gives

  pub stays_on : after ≡ before → IsOn roads next.value
  stays_on same = subst (λ (e : Entry Customized). IsOn roads e.value) (sym (stays same)) on

  pub stays_published : after ≡ before → publication_of next ≡ publication_of last
  stays_published same = ap publication_of (stays same)
