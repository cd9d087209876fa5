-- What the control door leaves.
use Rattle.std.proofs.Common.{◌≡◌, ◌∙◌, ◌⊎◌, ◌↔◌, ℕ, true, false, true≢false, List, [], ◌∷◌, ◌++◌, Option, None, Some, IsNone, IfSome, inl, inr, refl, sym, subst, arith}
use Rattle.std.proofs.lemmas.Option.{same_Some}
use Rattle.control_port.specs.Controlling.{Board}
use Rattle.customized.specs.Framing.{RoadsView}
use Rattle.door_workers.specs.Leading.{LedToEnd, LedToStop, TendGives}
use Rattle.door_workers.specs.Serving.{Tended}
use Rattle.door_workers.specs.declared.turns.End.{End}
use Rattle.door_workers.specs.declared.turns.End.TheVariants.{Broken, Stopped, UsedUp}
use Rattle.road_io.specs.DoorOpening.{IsNewDoor}
use Rattle.road_io.specs.Doorway.{DoorView}
use Rattle.road_io.specs.Faults.{Rose}
use Rattle.road_io.specs.Views.{Transcript}
use Rattle.route_doors.proofs.QueryDoors.{came_through, has_ended}
use Rattle.route_doors.specs.RoadDoors.{GoOn, IsControlledDoor, IsControlling}
use Rattle.route_server.specs.ControlSessions.{Publications}
use Rattle.route_server.specs.RoadControls.{IsControlSaid, IsRoadTranscript}
use Rattle.route_server.specs.declared.control_serving.ControlEnded.TheVariants as how

module _ (roads : RoadsView) where
  -- connections of which none stopped lead to what they publish
  pub go_on_publications : (first last : Board) (ts : List Transcript) → GoOn roads first ts last → Publications (IsControlSaid roads) first ts last
  go_on_publications first last [] same = same
  go_on_publications first last (t ∷ ts) led = (led.0, how.Other led.1.0, led.1.1, go_on_publications led.0 last ts led.2)

  -- so does one more that did
  pub stop_publications : (first before last : Board) (ts : List Transcript) (stop : Transcript) → GoOn roads first ts before → IsRoadTranscript roads before last stop how.Stopped → Publications (IsControlSaid roads) first (ts ++ stop ∷ []) last
  stop_publications first before last [] stop same stops =
      (last, how.Stopped, subst (λ (list : Board). IsRoadTranscript roads list last stop how.Stopped) same stops, refl)
  stop_publications first before last (t ∷ ts) stop led stops =
      (led.0, how.Other led.1.0, led.1.1, stop_publications led.0 before last ts stop led.2 stops)

  -- a control door that was new, and has ended
  pub ended_door : (first last : Board) (old now : DoorView) (count : ℕ) → IsNewDoor old → LedToEnd (IsControlling roads) first last old now count → IsControlledDoor roads first last now
  ended_door first last old now count new led = record {
    connections = led.ts;
    came = came_through old now led.ts new led.ends.passed;
    publications = go_on_publications first last led.ts led.leads;
    left = inl (led.leads, has_ended old now led.ts new led.ends);
  }

  -- and one whose last connection stopped
  pub stopped_door : (first last : Board) (old now : DoorView) (count : ℕ) → IsNewDoor old → LedToStop (IsControlling roads) first last old now count → IsControlledDoor roads first last now
  stopped_door first last old now count new led = record {
    connections = led.ts ++ led.last ∷ [];
    came = came_through old now (led.ts ++ led.last ∷ []) new led.goes.passed;
    publications = stop_publications first led.mid last led.ts led.last led.leads led.stops;
    left = inr (record { earlier = led.ts; before = led.mid; stop = led.last; all = refl; go_on = led.leads; stops = led.stops }, led.goes.ended, led.goes.steady ∙ new.faults);
  }

  pub controlled_end : {K : Type 0} (first last : Board) (old now : DoorView) (closer left : Option K) (count : ℕ) (end : End) → IsNewDoor old → TendGives (IsControlling roads) first last old now closer left count end → IsControlledDoor roads first last now
  controlled_end first last old now closer left count Stopped new gives = stopped_door first last old now count new gives.0
  controlled_end first last old now closer left count UsedUp new gives = ended_door first last old now count new gives.0
  controlled_end first last old now closer left count Broken new gives = ended_door first last old now count new gives.0

  -- however it ended
  pub controlled_door : {K : Type 0} (first last : Board) (old now : DoorView) (closer left : Option K) → IsNewDoor old → Tended (IsControlling roads) first last old now closer left → IsControlledDoor roads first last now
  controlled_door first last old now closer left new tended = controlled_end first last old now closer left tended.0 tended.1 new tended.2

  -- what closes the query doors is spent exactly where the last connection stopped or the count rose
  spent_end : {K : Type 0} (first last : Board) (old now : DoorView) (closer : K) (left : Option K) (count : ℕ) (end : End) → IsNewDoor old → TendGives (IsControlling roads) first last old now (Some closer) left count end → IsNone left ↔ ((now.ended ≡ false) ⊎ Rose 0 now.faults)
  spent_end first last old now closer left count Stopped new gives = (λ none. inl gives.0.goes.ended, λ cause. gives.1)
  spent_end first last old now closer left count Broken new gives =
      (λ none. inr (subst (λ (n : ℕ). Rose n now.faults) new.faults gives.1), λ cause. gives.2)
  spent_end first last old now closer left count UsedUp new gives =
      (λ none. absurd (true≢false (subst IsNone gives.2 none)), λ cause. elim cause [ inl unended ↦ absurd (true≢false (sym gives.0.ends.ended ∙ unended)) | inr rose ↦ absurd (omega (arith, rose, gives.1, new.faults)) ])

  pub spent : {K : Type 0} (first last : Board) (old now : DoorView) (closer : K) (left : Option K) → IsNewDoor old → Tended (IsControlling roads) first last old now (Some closer) left → IsNone left ↔ ((now.ended ≡ false) ⊎ Rose 0 now.faults)
  spent first last old now closer left new tended = spent_end first last old now closer left tended.0 tended.1 new tended.2

  -- and handed back else
  kept_end : {K : Type 0} (first last : Board) (old now : DoorView) (closer : K) (left : Option K) (count : ℕ) (end : End) → TendGives (IsControlling roads) first last old now (Some closer) left count end → IfSome left (λ k. k ≡ closer)
  kept_end first last old now closer None count end gives = tt
  kept_end first last old now closer (Some k) count Stopped gives = absurd (true≢false gives.1)
  kept_end first last old now closer (Some k) count UsedUp gives = same_Some _ _ gives.2
  kept_end first last old now closer (Some k) count Broken gives = absurd (true≢false gives.2)

  pub kept : {K : Type 0} (first last : Board) (old now : DoorView) (closer : K) (left : Option K) → Tended (IsControlling roads) first last old now (Some closer) left → IfSome left (λ k. k ≡ closer)
  kept first last old now closer left tended = kept_end first last old now closer left tended.0 tended.1 tended.2
