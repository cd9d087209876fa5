-- A line's object joins those before it.
use Rattle.std.proofs.Common.{◌≡◌, ◌+◌, List, [], ◌∷◌, ◌++◌, true, false, not, Some, Ok, sym, ap, ◌∙◌, subst, arith, rules}
use Rattle.std.specs.List.{list_any}
use Rattle.road_base.specs.declared.osm_objects.Object.{Object}
use Rattle.opl_read.specs.LineText.{line_of}
use Rattle.opl_read.specs.Objects.{AreDistinct, is_same, lines_of, objects_after}
use Rattle.opl_read.specs.Seen.{AreSeen}
use Rattle.opl_read.proofs.LineSteps.{objects_after-more, objects_after-start, objects_after-twice, AreDistinct-push, not_there, was_there}
use Rattle.opl_read.proofs.reading.read_lines.Goals as goal

pub loop-rest-init : goal.loop-rest-init
loop-rest-init c =
    let none = c.new-objects.ensures.items in
    record {
      count = omega arith;
      left = objects_after-start c.new-objects.result.items c.args.bytes.now none;
      seen = subst (λ (objects : List Object). AreSeen objects c.new-seen.result) (sym none) c.new-seen.ensures;
      distinct = subst (λ (objects : List Object). AreDistinct objects) (sym none) (λ i j d lt small. absurd (omega arith));
    }

-- the object stood among those before it
pub returns-then-not-branch-clause-fault : goal.returns-then-not-branch-clause-fault
returns-then-not-branch-clause-fault c =
    let objects : List Object = c.loop-rest.objects.items in
    let object = c.in-Some.object in
    let here : line_of c.first_line.result.0.now ≡ Ok (Some object) = c.in-Ok.ensures.object ∙ ap Ok c.in-Some.is in
    let not_added : c.in_ok-insert.field-0 ≡ false = search rules in
    let there : list_any (λ earlier. is_same earlier object) objects ≡ true =
    was_there c.in_ok-insert.field-0 (list_any (λ earlier. is_same earlier object) objects) (c.in_ok-insert.ensures.added ∙ ap (λ (os : List Object). not (list_any (λ earlier. is_same earlier object) os)) c.as_slice.ensures.value) not_added
    in
    rw c.fault-then-not-branch.ensures
    (sym c.loop-rest.invariant.left
    ∙ objects_after-twice c.loop-rest.number objects (lines_of c.loop-rest.rest.now) c.first_line.result.0.now (lines_of c.first_line.result.1.now) object c.first_line.ensures.lines here there)

pub loop-rest-preserved : goal.loop-rest-preserved
loop-rest-preserved c =
    let before = c.loop-rest.number in
    let objects : List Object = c.loop-rest.objects.items in
    let object = c.in-Some.object in
    let line = c.first_line.result.0.now in
    let more = c.first_line.result.1.now in
    let invariant = c.loop-rest.invariant in
    let pushed : c.push.new.self.items ≡ objects ++ object ∷ [] = c.in_ok-push.ensures.items in
    let here : line_of line ≡ Ok (Some object) = c.in-Ok.ensures.object ∙ ap Ok c.in-Some.is in
    let added : c.in_ok-insert.field-0 ≡ true = search rules in
    let fresh : list_any (λ earlier. is_same earlier object) objects ≡ false =
    not_there c.in_ok-insert.field-0 (list_any (λ earlier. is_same earlier object) objects) (c.in_ok-insert.ensures.added ∙ ap (λ (os : List Object). not (list_any (λ earlier. is_same earlier object) os)) c.as_slice.ensures.value) added
    in
    record {
      count = omega arith;
      left = ap (λ os. objects_after (before + 1) os (lines_of more)) pushed
          ∙ sym (objects_after-more before objects (lines_of c.loop-rest.rest.now) line (lines_of more) object c.first_line.ensures.lines here fresh)
          ∙ invariant.left;
      seen = subst (λ (all : List Object). AreSeen all c.insert.new.self) (sym pushed) (subst (λ (os : List Object). AreSeen (os ++ object ∷ []) c.insert.new.self) c.as_slice.ensures.value c.in_ok-insert.ensures.seen);
      distinct = subst (λ (all : List Object). AreDistinct all) (sym pushed) (AreDistinct-push objects object invariant.distinct fresh);
    }
