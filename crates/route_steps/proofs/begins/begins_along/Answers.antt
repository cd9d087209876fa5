use Rattle.std.proofs.Common.{◌≡◌, ℕ, Option, Some, None, ap, arith, sym, ◌∙◌}
use Rattle.std.specs.Prelude.{option_map}
use Rattle.route_steps.specs.Roundabouts.{exit_at}
use Rattle.route_steps.specs.Steps.{begin_at, departure}
use Rattle.route_steps.specs.Turnings.{maneuver_at}
use Rattle.route_steps.specs.declared.begins.Begin.{Begin}
use Rattle.route_steps.proofs.CutLemmas.{begins-more, begins-same}
use Rattle.route_steps.proofs.begins.begins_along.Goals.{in-Some+in_ok-push-2, in_default}
use Rattle.route_steps.proofs.begins.begins_along.Goals as goal

-- one place more
pub loop-place-preserved : goal.loop-place-preserved
unfolding maneuver_at
loop-place-preserved c =
    let place = c.loop-place.place in
    let begin = begin_at c.args.network.now c.args.walk.now in
    elim c.match-turn_told.branch [
      | in-Some+in_ok-push-2 w ↦
          let made : Option ℕ → Begin = λ exit. record { place = place; kind = w.in-Some.kind; modifier = Some w.in-Some.bend; exit = exit } in
          let told = ap (option_map {U = Begin} (λ m. record { place = place; kind = m.0; modifier = Some m.1; exit = exit_at c.args.network.now c.args.walk.now place })) (sym w.in-Some.ensures) in
          rw w.begins-is
          (begins-more begin departure place (omega arith) (made w.exit_at-exit.result) c.loop-place.begins.items w.push-in-Some.new.self.items
          (told ∙ ap (λ (o : Option ℕ). Some (made o)) (sym w.exit_at-exit.ensures)) c.loop-place.invariant w.in_ok-push-2.ensures.items)
      | in_default w ↦
          rw w.begins-is
          (begins-same begin departure place (omega arith) c.loop-place.begins.items
          (let none : maneuver_at c.args.network.now c.args.walk.now place ≡ None = sym c.turn_told.ensures ∙ w.in_default.is in ap (option_map {U = Begin} (λ m. record { place = place; kind = m.0; modifier = Some m.1; exit = exit_at c.args.network.now c.args.walk.now place })) none)
          c.loop-place.invariant)
    ]
