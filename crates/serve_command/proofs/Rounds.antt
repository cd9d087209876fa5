-- Doors that were opened, served and given back: what is said of each step, put together.
use Rattle.std.proofs.Common.{◌≡◌, ◌⊎◌, append-nil, ◌<◌, ◌≤◌, ◌+◌, ◌-◌, ◌↔◌, inl, inr, ℕ, Bool, true, false, IsTrue, List, [], ◌∷◌, ◌++◌, All, length, map, option_map, refl, ap, sym, ◌∙◌, subst, arith}
use Rattle.std.proofs.lemmas.List.Elements.{All-weaker}
use mathlib.Core.List.{IsPrefix}
use Rattle.control_port.specs.Controlling.{Board, IsOn}
use Rattle.customized.specs.Exact.{Customized}
use Rattle.customized.specs.Framing.{RoadsView}
use Rattle.metric_publish.specs.History.{entry, last_number}
use Rattle.program_ends.specs.StoppedEarly.{memory_line}
use Rattle.road_base.specs.declared.program_status.Status.{Status}
use Rattle.road_base.specs.declared.program_status.Status.TheVariants as status
use Rattle.road_io.specs.DoorOpening.{Asked, BackGives, DoorsView, DoorViews, faults_of}
use Rattle.road_io.specs.Faults.{Rose}
use Rattle.road_io.specs.Putting.{Closes}
use Rattle.road_io.specs.Views.{OutputView}
use Rattle.route_doors.specs.RoadDoors.{BeginsOn, IsServed, IsServedApart}
use Rattle.serve_command.specs.InnerEnds.{CameBack, EndsLines, EndsOpened, EndsStarted, served, unready}
use Rattle.serve_command.specs.ServeEnding.{IsReady, WentRound, connections_of, last_lines, last_lines_of}

-- a list that begins with a metric on these roads begins on them
pub begins_on : (roads : RoadsView) (metric : Customized) (list : Board) → IsOn roads metric → list ≡ entry 0 metric ∷ [] → BeginsOn roads list
begins_on roads metric list on is = subst (λ (l : Board). BeginsOn roads l) (sym is) on

-- what is one list begins with it
pub prefix_of_same : {E : Type 0} (first list : List E) → list ≡ first → IsPrefix first list
prefix_of_same {E} first list is = subst (λ (l : List E). IsPrefix first l) (sym is) ([], append-nil first)

-- seats that have seen one list begin with it
pub all_begin : {S E : Type 0} (seats : List S) (seen : S → List E) (first : List E) → All (λ s. seen s ≡ first) seats → All (λ s. IsPrefix first (seen s)) seats
all_begin seats seen first all = All-weaker (λ s. seen s ≡ first) (λ s. IsPrefix first (seen s)) (λ s is. prefix_of_same first (seen s) is) seats all

-- what serving left of the doors decides the end
pub opened_served : (code : Status) (workers : ℕ) (roads : RoadsView) (first begun last : Board) (before ready after : OutputView) (old new : DoorsView) (given : DoorViews) (connections metric : ℕ) (told short rose : Bool)
    → length given.queries ≡ workers → BackGives old given new → IsReady before ready → begun ≡ first
    → (told ≡ false → IsServed roads begun last given) → IsServedApart roads first begun last given → short ≡ told → (IsTrue rose ↔ (0 < faults_of given))
    → connections ≡ connections_of given → metric ≡ last_number last → EndsLines short rose (last_lines connections metric) code ready after
    → EndsOpened code workers roads first before after old new
opened_served code workers roads first begun last before ready after old new given connections metric told short rose count back is_ready is_first whole apart is_short faults is_connections is_metric lines =
    served given last short rose ready count back is_ready
    (record {
      whole = λ e. subst (λ (l : Board). IsServed roads l last given) is_first (whole (sym is_short ∙ e));
      apart = subst (λ (l : Board). IsServedApart roads first l last given) is_first apart;
      faults = faults;
    })
    (subst (λ (n : ℕ). EndsLines short rose (last_lines n (last_number last)) code ready after) is_connections
    (subst (λ (n : ℕ). EndsLines short rose (last_lines connections n) code ready after) is_metric lines))

abbrev opened_view : Asked → DoorsView → DoorsView
opened_view words old = record old { opened = option_map (λ all. all ++ words ∷ []) old.opened; out = old.out + (words.workers + 1) }

-- as many doors are out again as before
out_again : (out workers count : ℕ) → count ≡ workers → (out + (workers + 1)) - (count + 1) ≡ out
out_again out workers count is = omega (arith, is)

went_round : (words : Asked) (given : DoorViews) (old mid new : DoorsView) → length given.queries ≡ words.workers → mid ≡ opened_view words old → BackGives mid given new → WentRound words given old new
went_round words given old mid new count opened back = record {
  count = count;
  opened = ap (λ (v : DoorsView). v.opened) back.rest ∙ ap (λ (v : DoorsView). v.opened) opened;
  failed = ap (λ (v : DoorsView). v.failed) back.rest ∙ ap (λ (v : DoorsView). v.failed) opened;
  back = ap (λ (v : DoorsView). v.back) back.rest ∙ ap (λ (v : DoorsView). option_map (λ all. all ++ given ∷ []) v.back) opened;
  out = ap (λ (v : DoorsView). v.out) back.rest ∙ (ap (λ (v : DoorsView). v.out - (length given.queries + 1)) opened ∙ out_again old.out words.workers (length given.queries) count);
  later = subst (λ (n : ℕ). n ≤ new.faults) (ap (λ (v : DoorsView). v.faults) opened) back.later;
  rose = λ some. subst (λ (n : ℕ). Rose n new.faults) (ap (λ (v : DoorsView). v.faults) opened) (back.rose some);
  kept = λ none. back.kept none ∙ ap (λ (v : DoorsView). v.faults) opened;
}

both_ways : (b : Bool) → b ≡ true → b ≡ false → ⊥
both_ways b one two = cc

-- a count that is not above 0 is 0
none_of : (rose : Bool) (n : ℕ) → (IsTrue rose ↔ (0 < n)) → rose ≡ false → n ≡ 0
none_of rose n faults e = let not : 0 < n → ⊥ = λ some. both_ways rose (faults.1 some) e in omega (arith, not)

-- how it ended that was served, by the status
started_served : (code : Status) (words : Asked) (roads : RoadsView) (first last : Board) (before ready after : OutputView) (old new : DoorsView) (given : DoorViews) (short rose : Bool)
    → WentRound words given old new → IsReady before ready → CameBack roads first last given short rose → EndsLines short rose (last_lines_of given last) code ready after
    → EndsStarted code words roads first before after old new
started_served status.Ok words roads first last before ready after old new given short rose round is_ready came lines = record {
  given = given;
  last = last;
  ready = ready;
  is_ready = is_ready;
  round = round;
  served = came.whole lines.0;
  doors_steady = round.kept (none_of rose (faults_of given) came.faults lines.1);
  output_steady = lines.2;
  put = lines.3;
}
started_served status.Outside words roads first last before ready after old new given short rose round is_ready came lines =
    inr (inr (record {
      given = given;
      last = last;
      ready = ready;
      is_ready = is_ready;
      round = round;
      served = came.whole lines.0;
      cause = elim lines.1 [ inl failed ↦ inl failed | inr whole ↦ inr (round.rose (came.faults.0 whole.0), whole.1, whole.2) ];
    }))
started_served status.Words words roads first last before ready after old new given short rose round is_ready came lines = absurd lines
started_served status.Refused words roads first last before ready after old new given short rose round is_ready came lines = absurd lines
started_served status.Memory words roads first last before ready after old new given short rose round is_ready came lines =
    inr (record { given = given; last = last; ready = ready; is_ready = is_ready; round = round; served = came.apart; put = lines.1 })

-- what was opened was served, or it was not ready
pub started_opened : (code : Status) (words : Asked) (roads : RoadsView) (first : Board) (before after : OutputView) (old mid new : DoorsView) (count : ℕ)
    → count ≡ words.workers → mid ≡ opened_view words old → EndsOpened code count roads first before after mid new → EndsStarted code words roads first before after old new
started_opened code words roads first before after old mid new count is opened (unready given many queries control back outside rose put) =
    subst (λ (c : Status). EndsStarted c words roads first before after old new) (sym outside)
    (inr (inl (record { given = given; queries = queries; control = control; round = went_round words given old mid new (many ∙ is) opened back; rose = rose; put = put })))
started_opened code words roads first before after old mid new count is opened (served given last short rose ready many back is_ready came lines) =
    started_served code words roads first last before ready after old new given short rose (went_round words given old mid new (many ∙ is) opened back) is_ready came lines

-- there was no memory, and the doors are as before
pub started_exhausted : (code : Status) (words : Asked) (roads : RoadsView) (first : Board) (before after : OutputView) (old new : DoorsView)
    → code ≡ status.Memory → new ≡ old → Closes before after memory_line → EndsStarted code words roads first before after old new
started_exhausted code words roads first before after old new is same put =
    subst (λ (c : Status). EndsStarted c words roads first before after old new) (sym is) (inl (same, put))
