use Rattle.std.proofs.Common.{length, All, List, Option, None, Some, rules, subst, sym, ap, ◌∙◌}
use Rattle.std.proofs.lemmas.List.{map-id}
use Rattle.std.specs.Option.{IfSome, unwrap_or}
use Rattle.road_io.specs.DoorOpening.{Asked, IsNewDoor}
use Rattle.road_io.specs.Doorway.{DoorView}
use Rattle.memory_doors.proofs.mem_doors.MemDoors.give.Goals as goal

unwrap_or-new : (door : Option DoorView) (spare : DoorView) → IfSome door IsNewDoor → IsNewDoor spare → IsNewDoor (unwrap_or door spare)
unwrap_or-new None spare new spare_new = spare_new
unwrap_or-new (Some door) spare new spare_new = new

pub returns-clause-given : goal.returns-clause-given
returns-clause-given g c =
    let same = map-id c.in_ok-queries.queries.items in record {
      count = ap (λ (ds : List DoorView). length ds) same ∙ c.in_ok-queries.ensures.given.0 ∙ ap (λ (a : Asked). a.workers) c.asking.view_is;
      queries = subst (λ (ds : List DoorView). All IsNewDoor ds) (sym same) c.in_ok-queries.ensures.given.1;
      control = rw (c.unwrap_or-control.ensures, c.take.ensures.value) (unwrap_or-new c.self.inside.control c.in_ok-spare.spare c.self.invariant.2 c.in_ok-spare.ensures);
      told = rw (← c.self.view_is, ← c.asking.view_is) (search rules);
    }
