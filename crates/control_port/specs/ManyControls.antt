-- Requests that are carried out one after another: the metrics that they publish are those that the files of the
-- accepted ones make from the profile, one for one and in order, whatever was published before and from whatever each
-- was remade.
use Rattle.std.specs.Prelude.{◌≡◌, ◌⊎◌, ℕ, ◌+◌, Bool, true, false, List, [], ◌∷◌, ◌++◌, filter, take, drop, refl}
use Rattle.std.proofs.Common.{◌∙◌, sym, ap, subst, cond, append-nil, append_assoc, inl, inr}
use Rattle.std.specs.List.{AllZip}
use Rattle.customized.specs.Exact.{Customized, customized_on}
use Rattle.customized.specs.Framing.{RoadsView}
use Rattle.edge_graph.specs.NetworkView.{NetworkView}
use Rattle.metric_make.specs.MetricOf.{MetricView}
use Rattle.metric_publish.specs.History.{IsNumbered, entry, last_from, last_number}
use Rattle.metric_publish.specs.declared.entry.Entry.{Entry}
use Rattle.control_port.specs.Controlling.{Board, IsBaseOf, IsControlled}
use Rattle.control_port.specs.declared.asking.ControlHead.{ControlHead}
use Rattle.control_port.specs.declared.asking.ControlHead.TheVariants as asked
use Rattle.control_port.specs.declared.controlled.Controlled.{Controlled}
use Rattle.control_port.specs.declared.controlled.Controlled.TheVariants as controlled

-- a request with its body, and what came of it
pub record Answered : Type 0 where
  pub request : ControlHead
  pub body : List ℕ
  pub answer : Controlled

-- requests are carried out one after another, with these answers, and this list of publications stands then
abbrev pub AreControlled : RoadsView → Board → List Answered → Board → Type 0
AreControlled roads before [] after = after ≡ before
AreControlled roads before (one ∷ more) after =
    (between : Board) × IsControlled roads before one.request one.body one.answer between × AreControlled roads between more after

-- it was accepted: a metric was published
abbrev pub is_accepted : Controlled → Bool
is_accepted (controlled.Published number unmatched) = true
is_accepted (controlled.Refused fault) = false
is_accepted controlled.BadRequest = false
is_accepted (controlled.Spent number) = false
is_accepted controlled.Stopping = false

-- the accepted ones of these requests, in their order
abbrev pub accepted_of : List Answered → List Answered
accepted_of all = filter (λ (one : Answered). is_accepted one.answer) all

-- the request's files make these costs from the profile
abbrev pub MakesBase : NetworkView → ControlHead → List ℕ → MetricView → Type 0
MakesBase network (asked.Metric speeds length) body base = IsBaseOf network (take speeds body) (drop speeds body) base
MakesBase network asked.Stop body base = ⊥
MakesBase network asked.Bad body base = ⊥

-- the publication is that of the request: its metric is the one that the request's files make from the profile, and its
-- number was answered, with how many rows of these files match nothing
pub record IsFromScratch (roads : RoadsView) (one : Answered) (publication : Entry Customized) : Type 0 where
  pub base : MetricView
  pub made : MakesBase roads.network one.request one.body base
  pub value : publication.value ≡ customized_on roads base
  pub answer : one.answer ≡ controlled.Published publication.number base.unmatched

-- the list has grown by the publications of the accepted requests alone, one for one and in their order, under the
-- numbers that follow
pub record GrewFromScratch (roads : RoadsView) (before : Board) (all : List Answered) (after : Board) : Type 0 where
  pub more : Board
  pub longer : after ≡ before ++ more
  pub each : AllZip (IsFromScratch roads) (accepted_of all) more
  pub numbers : IsNumbered (last_number before + 1) more

-- the number of the last publication is that of the one that came last
last_from-push : (x : Entry Customized) (xs : Board) (e : Entry Customized) → last_from x (xs ++ e ∷ []) ≡ e
last_from-push x [] e = refl
last_from-push x (y ∷ ys) e = last_from-push y ys e

last_number-push : (list : Board) (e : Entry Customized) → last_number (list ++ e ∷ []) ≡ e.number
last_number-push [] e = refl
last_number-push (x ∷ xs) e = ap (λ (last : Entry Customized). last.number) (last_from-push x xs e)

module _ (roads : RoadsView) where
  -- the request was not accepted, and the list is as before
  record IsKept (before : Board) (one : Answered) (after : Board) : Type 0 where
    pub refused : is_accepted one.answer ≡ false
    pub same : after ≡ before

  -- it was accepted, and the list is longer by its publication
  record IsAdded (before : Board) (one : Answered) (after : Board) : Type 0 where
    pub publication : Entry Customized
    pub accepted : is_accepted one.answer ≡ true
    pub from : IsFromScratch roads one publication
    pub next : publication.number ≡ last_number before + 1
    pub longer : after ≡ before ++ publication ∷ []

  one_more : (before : Board) (request : ControlHead) (body : List ℕ) (answer : Controlled) (after : Board) → IsControlled roads before request body answer after → IsKept before (record { request = request; body = body; answer = answer }) after ⊎ IsAdded before (record { request = request; body = body; answer = answer }) after
  one_more before asked.Bad body answer after h = inl (record { refused = ap is_accepted h.0; same = h.1 })
  one_more before asked.Stop body answer after h = inl (record { refused = ap is_accepted h.0; same = h.1 })
  one_more before (asked.Metric speeds length) body (controlled.Published number unmatched) after h = inr (record {
    publication = entry number (customized_on roads h.base);
    accepted = refl;
    from = record {
      base = h.base;
      made = h.made;
      value = refl;
      answer = ap (λ (missed : ℕ). controlled.Published number missed) h.published.missed;
    };
    next = h.published.next;
    longer = h.published.stands;
  })
  one_more before (asked.Metric speeds length) body (controlled.Refused fault) after h = inl (record { refused = refl; same = h.1 })
  one_more before (asked.Metric speeds length) body (controlled.Spent number) after h = inl (record { refused = refl; same = h.1 })
  one_more before (asked.Metric speeds length) body controlled.BadRequest after h = absurd h
  one_more before (asked.Metric speeds length) body controlled.Stopping after h = absurd h

  -- a request, and then the others
  and_then : (before between : Board) (one : Answered) (more : List Answered) (after : Board) → IsKept before one between ⊎ IsAdded before one between → GrewFromScratch roads between more after → GrewFromScratch roads before (one ∷ more) after
  and_then before between one more after (inl kept) rest = record {
    more = rest.more;
    longer = rest.longer ∙ ap (λ (list : Board). list ++ rest.more) kept.same;
    each =
        subst (λ (b : Bool). AllZip (IsFromScratch roads) (cond b (one ∷ accepted_of more) (accepted_of more)) rest.more)
        (sym kept.refused) rest.each;
    numbers = subst (λ (list : Board). IsNumbered (last_number list + 1) rest.more) kept.same rest.numbers;
  }
  and_then before between one more after (inr added) rest = record {
    more = added.publication ∷ rest.more;
    longer =
        rest.longer ∙ ap (λ (list : Board). list ++ rest.more) added.longer
        ∙ append_assoc before (added.publication ∷ []) rest.more;
    each =
        subst (λ (b : Bool). AllZip (IsFromScratch roads) (cond b (one ∷ accepted_of more) (accepted_of more)) (added.publication ∷ rest.more))
        (sym added.accepted) (added.from, rest.each);
    numbers = (added.next, subst (λ (n : ℕ). IsNumbered (n + 1) rest.more) last rest.numbers);
  }
    where
      last : last_number between ≡ last_number before + 1
      last = ap last_number added.longer ∙ last_number-push before added.publication ∙ added.next

-- Whatever control requests are carried out, accepted or not, the metrics that they add are those of the accepted ones,
-- each made from scratch by its own request's files.
pub all_from_scratch : (roads : RoadsView) (before : Board) (all : List Answered) (after : Board) → AreControlled roads before all after → GrewFromScratch roads before all after
all_from_scratch roads before [] after h = record { more = []; longer = h ∙ sym (append-nil before); each = tt; numbers = tt }
all_from_scratch roads before (one ∷ more) after h =
    and_then roads before h.0 one more after (one_more roads before one.request one.body one.answer h.0 h.1) (all_from_scratch roads h.0 more after h.2)
