-- A request with its body has one answer, and one list of publications stands after it: so each answer comes exactly
-- where the rule gives it.
use Rattle.std.specs.Prelude.{◌≡◌, ℕ, ◌<◌, List, [], ◌∷◌, ◌++◌, take, drop, refl, Result, Ok, Err, IfOk, IfErr, MatchResult}
use Rattle.std.proofs.Common.{◌∙◌, sym, ap, ap₂, subst, inl, inr}
use Rattle.std.proofs.Math.Nat.{lt_irrefl}
use Rattle.customized.specs.Exact.{customized_on}
use Rattle.customized.specs.Framing.{RoadsView}
use Rattle.metric_make.specs.MetricOf.{MetricView, metric_of}
use Rattle.metric_publish.specs.History.{entry, last_number}
use Rattle.traffic_files.specs.Files.{SpeedsRead, TurnsRead}
use Rattle.traffic_files.specs.OneReading.{one_reading}
use Rattle.traffic_files.specs.Rows.{speed_row_of, turn_row_of}
use Rattle.traffic_files.specs.declared.rows.RowFault.{RowFault}
use Rattle.traffic_files.specs.declared.rows.SpeedRow.{SpeedRow}
use Rattle.traffic_files.specs.declared.rows.TurnRow.{TurnRow}
use Rattle.traffic_files.specs.declared.rows.TrafficFile.TheVariants.{Speeds, Turns}
use Rattle.control_port.specs.Controlling.{Board, FilesGive, IsControlled, IsFirstFault, IsPublished, RowsRead, on_board}
use Rattle.control_port.specs.declared.asking.ControlHead.{ControlHead}
use Rattle.control_port.specs.declared.asking.ControlHead.TheVariants as asked
use Rattle.control_port.specs.declared.controlled.Controlled.{Controlled}
use Rattle.control_port.specs.declared.controlled.Controlled.TheVariants as controlled

ok_same : {A E : Type 0} (a b : A) → ◌≡◌ {A = Result A E} (Ok a) (Ok b) → a ≡ b
ok_same {A} {E} a b same = subst (λ (r : Result A E). IfOk r (λ x. a ≡ x)) same refl

err_same : {A E : Type 0} (a b : E) → ◌≡◌ {A = Result A E} (Err a) (Err b) → a ≡ b
err_same {A} {E} a b same = subst (λ (r : Result A E). IfErr r (λ x. a ≡ x)) same refl

ok_err : {A E : Type 0} (a : A) (e : E) → ◌≡◌ {A = Result A E} (Ok a) (Err e) → ⊥
ok_err {A} {E} a e same = subst (λ (r : Result A E). MatchResult r (λ _. Unit {0}) (λ _. ⊥)) same tt

speeds_once : (file : List ℕ) (a b : Result (List SpeedRow) RowFault) → SpeedsRead file a → SpeedsRead file b → a ≡ b
speeds_once file a b = one_reading speed_row_of Speeds file a b

turns_once : (file : List ℕ) (a b : Result (List TurnRow) RowFault) → TurnsRead file a → TurnsRead file b → a ≡ b
turns_once file a b = one_reading turn_row_of Turns file a b

module _ (speeds_file turns_file : List ℕ) where
  -- two files with rows have no faulty one
  rows_no_fault : (fault : RowFault) → RowsRead speeds_file turns_file → IsFirstFault speeds_file turns_file fault → ⊥
  rows_no_fault fault rows (inl bad) = ok_err rows.speeds fault (speeds_once speeds_file (Ok rows.speeds) (Err fault) rows.speeds_read bad)
  rows_no_fault fault rows (inr bad) = ok_err rows.turns fault (turns_once turns_file (Ok rows.turns) (Err fault) rows.turns_read bad.turns_read)

  -- the first faulty row of both is one
  one_fault : (a b : RowFault) → IsFirstFault speeds_file turns_file a → IsFirstFault speeds_file turns_file b → a ≡ b
  one_fault a b (inl one) (inl two) = err_same a b (speeds_once speeds_file (Err a) (Err b) one two)
  one_fault a b (inl one) (inr two) = absurd (ok_err two.speeds a (speeds_once speeds_file (Ok two.speeds) (Err a) two.speeds_read one))
  one_fault a b (inr one) (inl two) = absurd (ok_err one.speeds b (speeds_once speeds_file (Ok one.speeds) (Err b) one.speeds_read two))
  one_fault a b (inr one) (inr two) = err_same a b (turns_once turns_file (Err a) (Err b) one.turns_read two.turns_read)

  -- both files have one list of rows
  same_metric : (roads : RoadsView) (one two : RowsRead speeds_file turns_file) → metric_of roads.network one.speeds one.turns ≡ metric_of roads.network two.speeds two.turns
  same_metric roads one two =
      ap₂ (metric_of roads.network)
      (ok_same one.speeds two.speeds (speeds_once speeds_file (Ok one.speeds) (Ok two.speeds) one.speeds_read two.speeds_read))
      (ok_same one.turns two.turns (turns_once turns_file (Ok one.turns) (Ok two.turns) one.turns_read two.turns_read))

  -- a number is left, or none is
  not_both : (before : Board) → last_number before < 4294967295 → last_number before ≡ 4294967295 → ⊥
  not_both before below last = lt_irrefl 4294967295 (subst (λ (n : ℕ). n < 4294967295) last below)

  module _ (roads : RoadsView) (before : Board) where
    published_once : (number unmatched other missed : ℕ) (x y : Board) → IsPublished (on_board roads before) speeds_file turns_file number unmatched x → IsPublished (on_board roads before) speeds_file turns_file other missed y → (controlled.Published number unmatched ≡ controlled.Published other missed) × (x ≡ y)
    published_once number unmatched other missed x y one two =
        let base : one.base ≡ two.base = one.made.made ∙ same_metric roads one.made.rows two.made.rows ∙ sym two.made.made in
        let numbers : number ≡ other = one.published.next ∙ sym two.published.next in (
          ap₂ controlled.Published numbers (one.published.missed ∙ ap (λ (b : MetricView). b.unmatched) base ∙ sym two.published.missed),
          one.published.stands
              ∙ ap₂ (λ (n : ℕ) (b : MetricView). before ++ entry n (customized_on roads b) ∷ []) numbers base
              ∙ sym two.published.stands,
        )

    files_once : (a b : Controlled) (x y : Board) → FilesGive (on_board roads before) speeds_file turns_file a x → FilesGive (on_board roads before) speeds_file turns_file b y → (a ≡ b) × (x ≡ y)
    files_once (controlled.Published number unmatched) (controlled.Published other missed) x y one two = published_once number unmatched other missed x y one two
    files_once (controlled.Published number unmatched) (controlled.Refused fault) x y one two = absurd (rows_no_fault fault one.made.rows two.0)
    files_once (controlled.Published number unmatched) (controlled.Spent last) x y one two = absurd (not_both before one.published.below two.0.last)
    files_once (controlled.Refused fault) (controlled.Published number unmatched) x y one two = absurd (rows_no_fault fault two.made.rows one.0)
    files_once (controlled.Refused fault) (controlled.Refused other) x y one two = (ap controlled.Refused (one_fault fault other one.0 two.0), one.1 ∙ sym two.1)
    files_once (controlled.Refused fault) (controlled.Spent last) x y one two = absurd (rows_no_fault fault two.0.rows one.0)
    files_once (controlled.Spent last) (controlled.Published number unmatched) x y one two = absurd (not_both before two.published.below one.0.last)
    files_once (controlled.Spent last) (controlled.Refused fault) x y one two = absurd (rows_no_fault fault one.0.rows two.0)
    files_once (controlled.Spent last) (controlled.Spent other) x y one two = (ap controlled.Spent (one.0.number_is ∙ sym two.0.number_is), one.1 ∙ sym two.1)
    files_once controlled.BadRequest b x y one two = absurd one
    files_once controlled.Stopping b x y one two = absurd one
    files_once (controlled.Published number unmatched) controlled.BadRequest x y one two = absurd two
    files_once (controlled.Published number unmatched) controlled.Stopping x y one two = absurd two
    files_once (controlled.Refused fault) controlled.BadRequest x y one two = absurd two
    files_once (controlled.Refused fault) controlled.Stopping x y one two = absurd two
    files_once (controlled.Spent last) controlled.BadRequest x y one two = absurd two
    files_once (controlled.Spent last) controlled.Stopping x y one two = absurd two

pub one_control : (roads : RoadsView) (before : Board) (request : ControlHead) (body : List ℕ) (a b : Controlled) (x y : Board) → IsControlled roads before request body a x → IsControlled roads before request body b y → (a ≡ b) × (x ≡ y)
one_control roads before (asked.Metric speeds length) body a b x y one two = files_once (take speeds body) (drop speeds body) roads before a b x y one two
one_control roads before asked.Stop body a b x y one two = (one.0 ∙ sym two.0, one.1 ∙ sym two.1)
one_control roads before asked.Bad body a b x y one two = (one.0 ∙ sym two.0, one.1 ∙ sym two.1)
